pub mod Following
pub mod Blocks
pub mod Deriving
pub mod FollowingLaws
pub mod Counting
pub mod Stated
pub mod Space
pub mod Units
pub mod Judging
pub mod Contents
pub mod Laws
pub mod Certifying
pub mod Counts
pub mod Fitting
pub use Rattle.lv_base.specs as lv_base
pub use Rattle.lv_boxes.specs as lv_boxes
pub use Rattle.lv_cert.specs as lv_cert
pub use Rattle.lv_clauses.specs as lv_clauses
pub use Rattle.lv_search_zones.specs.lv_compile as lv_compile
pub use Rattle.lv_formula_text.specs as lv_formula_text
pub use Rattle.lv_meaning.specs as lv_meaning
pub use Rattle.lv_model.specs as lv_model
pub use Rattle.lv_model_names.specs as lv_model_names
pub use Rattle.lv_search_zones.specs as lv_search_zones
pub use Rattle.lv_system.specs as lv_system
pub use Rattle.lv_text.specs as lv_text
