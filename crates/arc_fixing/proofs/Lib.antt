pub mod ChosenLemmas
pub mod PairLemmas
pub mod FixingLemmas
