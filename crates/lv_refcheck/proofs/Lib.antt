pub mod DenialLemmas
pub use Rattle.lv_clauses.proofs as lv_clauses
