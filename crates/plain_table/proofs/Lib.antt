pub mod Stepping
pub mod Choosing
pub mod Ending
