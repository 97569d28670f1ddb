pub mod Prefixes
pub mod Rests
pub mod Growing
pub mod Listings
pub mod Tasks
pub mod Walks
