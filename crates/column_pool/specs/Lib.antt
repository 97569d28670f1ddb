pub mod Amounts
pub mod Columns
pub mod Walks
pub mod Index
pub mod Changes
