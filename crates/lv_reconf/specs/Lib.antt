pub mod Narrowing
pub mod Compiling
pub mod Assuming
pub mod Trying
pub mod Refuting
pub mod Judging
pub mod Lawful
pub mod Query
pub mod Tests
pub mod Testing
pub mod LawfulTests
pub use Rattle.lv_search.specs as lv_search
