pub mod History
pub mod Rooms
pub mod Steps
pub mod Pasts
