pub mod OwnedModel
pub mod OwnedSession
pub mod Answers
