pub mod ArcLemmas
pub mod HeadLemmas
pub mod LineLemmas
pub mod NodeLemmas
pub mod PrefixLemmas
pub mod SettingLemmas
pub mod StepLemmas
pub mod TreeLemmas
