pub mod LiveLemmas
pub mod PartLemmas
pub mod LabelLemmas
pub mod InnerLemmas
pub mod HeldLemmas
