pub mod GrowthLemmas
pub mod TaskLemmas
pub mod WantedLemmas
pub mod WalkLemmas
