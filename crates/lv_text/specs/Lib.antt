pub mod Bytes
pub mod Pieces
pub mod Tokens
pub mod Kinds
pub mod Lines
pub mod Numbers
pub mod Lexemes
pub mod Laws
pub use Rattle.lv_base.specs as lv_base
