pub mod Slots
pub mod Parts
pub mod Labels
pub use Rattle.lv_boxes.specs as lv_boxes
