pub mod Zeros
pub mod Made
pub mod Closing
pub mod Better
