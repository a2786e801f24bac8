pub mod Listed
pub mod Asking
pub mod RecoveriesAsked
pub mod TestsAsked
pub mod WindowsAsked
pub mod Kept
pub mod WindowReadings
pub mod TestReadings
pub mod TestWalks
pub use Rattle.lv_model_names.proofs as lv_model_names
pub use Rattle.lv_meaning.proofs as lv_meaning
pub use Rattle.lv_tracker.proofs as lv_tracker
pub use Rattle.lv_system.proofs as lv_system
pub use Rattle.lv_ident.proofs as lv_ident
pub use Rattle.lv_session_request.proofs as lv_session_request
pub use Rattle.lv_session_history.proofs as lv_session_history
pub use Rattle.lv_window.proofs as lv_window
