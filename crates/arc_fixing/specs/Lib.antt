pub mod Chosen
pub mod Fixable
pub mod Pairs
