pub mod Literals
pub mod Lemmas
pub mod Replies
pub mod Refutation
pub mod Reducing
pub mod Asking
pub mod Lawful
pub use Rattle.lv_system.specs as lv_system
