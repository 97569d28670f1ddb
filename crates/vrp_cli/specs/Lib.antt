pub mod Commands
pub mod Texts
pub mod Solved
pub mod Headline
pub mod Endings
pub mod Answer
