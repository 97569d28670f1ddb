pub mod ZeroLemmas
pub mod MadeLemmas
pub mod ClosingLemmas
