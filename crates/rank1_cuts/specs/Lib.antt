pub mod Fit
pub mod Solutions
pub mod Visits
