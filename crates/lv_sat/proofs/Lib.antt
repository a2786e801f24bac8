mod MeasureLemmas
mod SearchLemmas
mod FrontLemmas
mod RefutedLemmas
pub use Rattle.lv_clauses.proofs as lv_clauses
