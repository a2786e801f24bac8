pub mod Numbers
pub mod Words
pub mod Parser
pub mod Commands
pub use Rattle.lv_text.specs as lv_text
