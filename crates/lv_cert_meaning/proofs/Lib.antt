pub mod RangeLemmas
pub mod LogLemmas
pub mod DerivingLemmas
pub mod ClauseNumberLemmas
pub mod NumberLemmas
pub mod CountLemmas
pub mod PairLemmas
pub mod PartLemmas
pub mod GoalLemmas
pub mod LeastLemmas
pub mod PassedLemmas
pub mod SpaceLemmas
pub use Rattle.lv_model_names.proofs.lv_base as lv_base
pub use Rattle.lv_boxes.proofs as lv_boxes
pub use Rattle.lv_search_zones.proofs.lv_compile as lv_compile
pub use Rattle.lv_formula_text.proofs as lv_formula_text
pub use Rattle.lv_meaning.proofs as lv_meaning
pub use Rattle.lv_model.proofs as lv_model
pub use Rattle.lv_model_names.proofs as lv_model_names
pub use Rattle.lv_search_zones.proofs as lv_search_zones
pub use Rattle.lv_system.proofs as lv_system
