pub mod Near
pub mod Narrowed
pub mod Beside
pub mod Remembered
pub mod Guide
pub use Rattle.lv_search.specs as lv_search
pub use Rattle.lv_search_guide.specs as lv_search_guide
