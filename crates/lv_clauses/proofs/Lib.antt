pub mod EntryLemmas
pub mod LiteralLemmas
pub mod ClosureLemmas
pub mod MarkLemmas
pub mod BoundLemmas
pub mod TakenLemmas
pub mod SoundLemmas
