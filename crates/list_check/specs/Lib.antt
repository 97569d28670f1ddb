pub mod Prefixes
pub mod Nodes
pub mod Lines
pub mod Heads
pub mod Rests
