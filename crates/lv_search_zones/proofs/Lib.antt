pub mod MaskLemmas
pub mod SlotLemmas
pub mod ZoneLemmas
pub mod ControlLemmas
pub mod CommandLemmas
pub use Rattle.lv_boxes.proofs as lv_boxes
pub use Rattle.lv_compile.proofs as lv_compile
pub use Rattle.lv_meaning.proofs as lv_meaning
