pub mod ScopeLemmas
pub mod PositiveLemmas
pub use Rattle.lv_base.proofs as lv_base
pub use Rattle.lv_formula_text.proofs as lv_formula_text
pub use Rattle.lv_model.proofs as lv_model
