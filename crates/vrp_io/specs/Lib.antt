pub mod Bytes
pub mod Counts
pub mod Handed
pub mod Memory
