pub mod MasterLemmas
pub mod WalkLemmas
pub mod LineLemmas
pub mod RoundLemmas
