pub mod Faults
pub mod Words
pub mod Gives
pub mod Items
pub mod Spelling
pub mod Reading
