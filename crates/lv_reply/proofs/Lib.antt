pub mod MoveLemmas
pub mod OwnerLemmas
