pub mod Walls
pub mod Worked
pub mod Tasks
pub mod Proofs
pub mod Bounds
pub mod Lists
pub mod Splits
