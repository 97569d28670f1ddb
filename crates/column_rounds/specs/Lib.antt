pub mod Columns
pub mod Found
pub mod Masters
pub mod Walks
pub mod Rounds
pub mod Lines
