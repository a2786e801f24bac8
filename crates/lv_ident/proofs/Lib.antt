pub mod OnceLemmas
pub mod MeaningLemmas
pub mod ClauseLemmas
pub mod TrialLemmas
pub mod ReasonLemmas
pub mod QueryLemmas
pub use Rattle.lv_search_zones.proofs as lv_search_zones
