pub mod Places
pub mod Grown
pub mod Search
pub mod Retested
pub mod Bounds
pub mod Laws
