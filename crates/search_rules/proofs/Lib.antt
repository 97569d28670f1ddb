pub mod ProductLemmas
pub mod WeightLemmas
pub mod WalkLemmas
pub mod TableLemmas
pub mod ListLemmas
pub mod CountLemmas
pub mod PlainLemmas
mod Examples
