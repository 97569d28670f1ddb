pub mod GrowthLemmas
pub mod SeenLemmas
pub mod SearchLemmas
pub mod RetestLemmas
pub mod BoundLemmas
pub mod WallLemmas
pub mod SearchLaws
