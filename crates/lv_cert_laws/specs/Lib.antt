pub mod Tables
pub use Rattle.lv_cert_meaning.specs as lv_cert_meaning
