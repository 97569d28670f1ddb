pub mod PairLemmas
pub mod StateLemmas
pub mod StopLemmas
pub mod GraphLemmas
pub mod RowLemmas
pub mod ModelLemmas
mod Examples
