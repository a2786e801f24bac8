pub mod Moves
pub mod Slots
pub mod Commands
pub mod ControlSlots
pub mod Laws
pub use Rattle.lv_boxes.specs as lv_boxes
pub use Rattle.lv_compile.specs as lv_compile
pub use Rattle.lv_meaning.specs as lv_meaning
