pub mod PossibleLemmas
pub mod TrajectoryLemmas
pub mod JointLemmas
pub mod ZoneLemmas
pub mod KeptLemmas
pub mod BreakLemmas
pub mod KnownLemmas
pub mod PathLemmas
pub mod MeaningLemmas
pub mod QueryLemmas
pub mod StepLemmas
pub mod TrialLemmas
pub use Rattle.lv_search.proofs as lv_search
pub use Rattle.lv_search_zones.proofs as lv_search_zones
