pub mod PointLemmas
pub mod CostLemmas
pub mod TermLemmas
pub mod FoundLemmas
pub mod GrownLemmas
pub mod RoundLemmas
