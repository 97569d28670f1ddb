pub mod BoundLemmas
pub mod BoundSteps
mod Examples
