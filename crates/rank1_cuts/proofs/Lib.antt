pub mod Examples
pub mod FitLemmas
pub mod JoinLemmas
pub mod SolutionLemmas
pub mod VisitsLemmas
