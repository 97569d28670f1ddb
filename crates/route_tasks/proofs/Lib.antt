pub mod DistanceLemmas
pub mod RangeLemmas
pub mod GraphLemmas
pub mod ListLemmas
pub mod PairLemmas
pub mod ArcLemmas
pub mod FitLemmas
pub mod ModelLemmas
pub mod WalkLemmas
pub mod WayLemmas
pub mod CostLemmas
pub mod PlanLemmas
pub mod MadeLemmas
pub mod SolveLemmas
mod Examples
