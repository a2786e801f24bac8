pub mod Probing
pub mod Laws
pub use Rattle.lv_ident.specs as lv_ident
