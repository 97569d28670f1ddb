pub mod Numbers
pub mod NumbersLawful
pub mod Ladder
pub mod LadderLawful
pub mod Costs
pub mod CostsLawful
