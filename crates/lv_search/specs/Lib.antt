pub mod Trial
pub mod Frontier
pub mod Standing
pub mod Turn
pub mod Free
pub mod Search
pub mod Laws
pub use Rattle.lv_boxes.specs as lv_boxes
