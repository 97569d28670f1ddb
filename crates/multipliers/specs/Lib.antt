pub mod Quantities
pub mod Priced
pub mod Ranges
pub mod Promise
