pub mod ChoiceLemmas
pub mod OrderLemmas
pub mod SplitLemmas
pub mod Examples
