pub mod Ranges
pub mod Lists
pub mod Moves
pub mod Names
pub mod Prices
pub mod Meaning
pub mod Counts
pub mod Denials
pub mod WellFormed
pub mod Laws
pub use Rattle.lv_base.specs as lv_base
