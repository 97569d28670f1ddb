pub mod AgreeLemmas
pub mod ArrivalLemmas
pub mod ExtensionLemmas
pub mod DominanceLemmas
pub mod TestLemmas
pub mod KeptLemmas
