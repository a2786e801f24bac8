pub mod Showing
pub mod Keeping
pub use Rattle.lv_cert_laws.specs.lv_cert_meaning as lv_cert_meaning
