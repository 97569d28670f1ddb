pub mod NearLemmas
pub mod ChosenLemmas
pub mod SinkLemmas
pub mod SortLemmas
pub mod RankLemmas
pub mod TableLemmas
pub mod JoinedLemmas
pub mod ToldLemmas
