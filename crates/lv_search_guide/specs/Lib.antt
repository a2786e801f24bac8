pub mod Free
pub mod Cheapest
pub mod Lowest
pub mod First
pub mod Dear
pub use Rattle.lv_boxes.specs as lv_boxes
