pub mod TreeLemmas
pub mod StepLemmas
pub mod PlainLemmas
