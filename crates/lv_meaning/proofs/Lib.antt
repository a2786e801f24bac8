pub mod Commanded
pub mod SomeList
pub mod Possibility
pub mod Rising
pub mod Among
pub mod Listing
pub mod Answering
pub mod OneAnswer
pub mod Reasons
pub mod TargetLemmas
pub mod DiagnosisWalks
pub mod NominalSteps
pub mod CommandSets
pub mod CommandReasons
pub mod RecoveryWalks
pub use Rattle.lv_boxes.proofs as lv_boxes
