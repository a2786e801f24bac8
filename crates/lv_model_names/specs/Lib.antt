pub mod Names
pub mod Lists
pub mod Laws
pub use Rattle.lv_base.specs as lv_base
pub use Rattle.lv_formula_text.specs as lv_formula_text
pub use Rattle.lv_model.specs as lv_model
pub use Rattle.lv_formula_text.specs.lv_text as lv_text
