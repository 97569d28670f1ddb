pub mod EntryLemmas
pub mod CountLemmas
pub mod AmountLemmas
pub mod NearLemmas
pub mod ColumnLemmas
pub mod IndexLemmas
pub mod KeptLemmas
pub mod Examples
