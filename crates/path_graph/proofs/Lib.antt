pub mod WalkLemmas
pub mod SumLemmas
pub mod IntLemmas
pub mod VisitLemmas
pub mod FreeLemmas
pub mod RestLemmas
pub mod IndexLemmas
pub mod RankingLemmas
pub mod LevelLemmas
pub mod SetBitsLemmas
pub mod SetBitsMade
pub mod SetBitsExamples
mod Examples
