pub mod Meaning
pub mod Fit
pub mod Arrival
pub mod Rules
pub mod Lawful
pub mod Tables
