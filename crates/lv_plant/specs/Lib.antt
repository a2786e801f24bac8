pub mod Forms
pub mod Naming
pub mod Seeing
pub mod Findings
pub mod Replies
pub mod Standing
pub mod Plants
pub mod Answering
pub mod Scripts
pub mod LongLines
pub mod Laws
pub mod Seen
pub use Rattle.lv_session.specs as lv_session
