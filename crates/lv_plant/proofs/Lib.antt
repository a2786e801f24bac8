pub mod SeeingLemmas
pub mod HandedLemmas
pub mod OwnLemmas
pub mod KeptLemmas
pub mod TakenLemmas
pub mod FollowedLemmas
pub mod PlantLemmas
pub mod ScriptLemmas
pub mod RefusedLemmas
pub mod SeenLemmas
pub use Rattle.lv_session.proofs as lv_session
