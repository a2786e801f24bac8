pub mod Among
pub mod ClapWords
pub mod ClapWalk
pub mod ClapCommands
pub mod NumberTests
pub mod Readings
pub use Rattle.lv_text.proofs as lv_text
