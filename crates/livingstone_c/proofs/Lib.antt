pub mod AcceptedAsBox
pub mod TalkAsBox
