pub mod Choices
pub mod Numbering
pub mod System
pub mod Encoding
pub mod Laws
pub mod Decoding
pub mod Goals
pub mod Windows
pub use Rattle.lv_clauses.specs as lv_clauses
pub use Rattle.lv_compile.specs as lv_compile
pub use Rattle.lv_model.specs as lv_model
