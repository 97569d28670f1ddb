pub mod Completeness
pub mod Laws
