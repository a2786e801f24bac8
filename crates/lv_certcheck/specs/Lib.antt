pub mod Settings
pub mod Stating
pub mod Giving
pub mod Verdicts
pub mod Splits
pub mod Judges
pub use Rattle.lv_cert.specs as lv_cert
pub use Rattle.lv_cert_laws.specs.lv_cert_meaning as lv_cert_meaning
