pub mod Boxes
pub mod Bans
pub mod Narrow
pub mod Prices
pub use Rattle.lv_boxes.specs as lv_boxes
