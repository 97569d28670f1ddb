pub mod CostLemmas
pub mod LeastLemmas
pub mod ListLemmas
