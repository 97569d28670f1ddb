pub mod Examples
pub mod NearLemmas
pub mod WideningLemmas
