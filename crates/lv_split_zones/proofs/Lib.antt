pub mod SplitLemmas
pub mod SearchLemmas
pub mod MadeLemmas
pub mod ClimbLemmas
pub mod CauseLemmas
pub mod ZonesLemmas
