pub mod ToldLemmas
pub mod EndingLemmas
pub mod JudgeLemmas
pub mod RunLemmas
pub mod ClauseLemmas
pub mod DueLemmas
