pub mod OpenLaws
pub mod CutsLaws
pub mod SlotLemmas
pub mod PruneLaws
pub mod SeeLaws
pub mod TreeLaws
pub mod PlaceLaws
