pub mod OptionLemmas
pub mod SettingLemmas
pub mod ReadLemmas
pub mod CommandLemmas
