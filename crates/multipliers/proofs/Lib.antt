pub mod PlanSumLemmas
pub mod CutLemmas
pub mod DualityLemmas
pub mod PricedLemmas
pub mod OpenLemmas
pub mod UnitLemmas
pub mod ArcLemmas
pub mod NearLemmas
pub mod RangeLemmas
pub mod BaseLemmas
pub mod RootLemmas
mod Examples
