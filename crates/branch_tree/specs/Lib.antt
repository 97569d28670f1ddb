pub mod Splits
pub mod Order
