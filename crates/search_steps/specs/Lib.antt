pub mod Passed
pub mod Steps
pub mod Trees
pub mod Told
