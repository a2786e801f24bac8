pub mod NextLemmas
pub mod GroupLemmas
pub mod FollowLemmas
pub mod LeftLemmas
pub mod RunLemmas
pub mod DeletedReasons
pub use Rattle.lv_boxes.proofs as lv_boxes
