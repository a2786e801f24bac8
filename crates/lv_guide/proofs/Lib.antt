pub mod NearLemmas
pub mod BesideLemmas
pub mod RememberedLemmas
pub mod GuideLemmas
pub mod AlikeLemmas
pub mod SplitLemmas
pub use Rattle.lv_search.proofs as lv_search
