pub mod Splits
pub mod Searches
pub mod Made
pub mod Walk
pub mod Zones
pub use Rattle.lv_boxes.specs as lv_boxes
