pub mod Draws
pub mod Stops
pub mod Arcs
pub mod Network
pub mod Generated
pub mod Sound
