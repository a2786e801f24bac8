pub mod FirstList
pub mod PlantSteps
pub mod Assuming
pub mod Literals
pub mod Finding
pub mod Laws
pub use Rattle.lv_system.specs as lv_system
