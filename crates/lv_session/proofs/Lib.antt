pub mod Transcripts
pub mod Fitting
pub mod Keeping
pub mod StepLaws
pub mod Slices
pub mod OneStep
pub mod Steps
pub mod Answering
pub mod TrueAnswers
pub mod Probing
pub mod Labelling
pub mod CurrentLemmas
pub mod Certifying
pub mod Applied
pub use Rattle.lv_io.proofs as lv_io
pub use Rattle.lv_serve.proofs as lv_serve
pub use Rattle.lv_session_state.proofs.lv_session_request as lv_session_request
pub use Rattle.lv_session_state.proofs.lv_tracker as lv_tracker
pub use Rattle.lv_session_state.proofs as lv_session_state
