pub mod Keeps
pub mod Ways
pub mod Demands
pub mod Index
pub mod Checked
pub mod NearParts
