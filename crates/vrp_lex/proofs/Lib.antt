pub mod Digits
pub mod WordLemmas
pub mod LineLemmas
pub mod SliceLemmas
pub mod Examples
