pub mod Distance
pub mod Fit
pub mod Places
pub mod ModelOf
pub mod Shape
pub mod Routes
