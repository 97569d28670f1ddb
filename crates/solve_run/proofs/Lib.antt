pub mod CertLemmas
pub mod WorkLemmas
pub mod BestLemmas
pub mod ToldLemmas
pub mod EndLemmas
pub mod RoundLemmas
pub mod ChosenLemmas
