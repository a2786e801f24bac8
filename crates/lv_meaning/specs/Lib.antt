pub mod Search
pub mod Facts
pub mod Possible
pub mod Candidates
pub mod Targets
pub mod Diagnosis
pub mod PossibleLaws
pub mod CandidateLaws
pub mod DiagnosisLaws
pub mod WorkedValve
pub mod Recovers
pub mod Commands
pub mod Recovery
pub mod Ranges
pub mod RecoveryLaws
pub mod WorkedRecovery
pub use Rattle.lv_boxes.specs as lv_boxes
