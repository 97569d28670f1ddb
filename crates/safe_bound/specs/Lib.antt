pub mod Bounds
pub mod Promise
