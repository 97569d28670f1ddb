pub mod DemandLemmas
pub mod FieldLemmas
pub mod PlaceLemmas
pub mod CoverLemmas
pub mod NearLemmas
pub mod BoundLemmas
pub mod JoinLemmas
