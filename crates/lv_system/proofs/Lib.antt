pub mod NumberingLemmas
pub mod EncodingLemmas
pub mod LiteralLemmas
pub mod SystemLemmas
pub mod RangeLemmas
pub mod DecodingLemmas
pub mod GoalLemmas
pub mod WindowLemmas
pub mod GatheringLemmas
pub use Rattle.lv_compile.proofs as lv_compile
