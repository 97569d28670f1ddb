pub mod Open
pub mod Cuts
pub mod Slots
pub mod Laws
