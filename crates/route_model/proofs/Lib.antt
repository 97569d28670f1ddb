pub mod Bounds
pub mod TidyLemmas
pub mod SolutionLemmas
pub mod KnownLemmas
pub mod PlaceLemmas
pub mod ShutLemmas
