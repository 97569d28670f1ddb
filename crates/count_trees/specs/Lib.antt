pub mod Costs
pub mod Points
pub mod Growth
pub mod Rounds
