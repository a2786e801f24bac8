pub mod GivingLemmas
pub mod CheckLemmas
pub mod ShownLemmas
pub mod JudgeLemmas
pub mod LineLemmas
pub mod ProvingLemmas
pub use Rattle.lv_cert.proofs as lv_cert
