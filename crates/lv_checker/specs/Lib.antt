pub mod Faults
pub mod Drafts
pub mod Checking
pub mod Verdicts
pub mod VersionOne
pub mod Caches
pub mod Standing
pub mod Forms
pub mod Reading
pub mod Laws
pub use Rattle.lv_model_entries.specs as lv_model_entries
