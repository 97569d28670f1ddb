pub mod Fit
pub mod Costs
