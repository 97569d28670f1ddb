pub mod Limits
pub mod Certificates
pub mod Stops
pub mod Outcomes
pub mod Told
pub mod Work
pub mod Rounds
pub mod Chosen
