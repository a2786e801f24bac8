pub mod Session
pub mod Compiled
pub mod Kept
pub mod Certificates
pub mod Transcript
pub mod Answering
pub mod Applying
pub mod LongLines
pub mod Laws
pub mod Answers
pub use Rattle.lv_session_state.specs.lv_model_names.lv_formula_text as lv_formula_text
pub use Rattle.lv_session_state.specs.lv_model_names as lv_model_names
pub use Rattle.lv_reply.specs as lv_reply
pub use Rattle.lv_serve.specs as lv_serve
pub use Rattle.lv_lanes.specs as lv_lanes
pub use Rattle.lv_session_state.specs.lv_session_request as lv_session_request
pub use Rattle.lv_session_state.specs.lv_tracker as lv_tracker
pub use Rattle.lv_session_state.specs as lv_session_state
