pub mod State
pub mod Times
pub mod States
pub mod Current
pub mod Applying
pub mod TestLaws
pub mod WindowLaws
pub use Rattle.lv_model_names.specs as lv_model_names
pub use Rattle.lv_meaning.specs as lv_meaning
pub use Rattle.lv_tracker.specs as lv_tracker
pub use Rattle.lv_system.specs as lv_system
pub use Rattle.lv_ident.specs as lv_ident
pub use Rattle.lv_session_request.specs as lv_session_request
pub use Rattle.lv_session_history.specs as lv_session_history
pub use Rattle.lv_window.specs as lv_window
