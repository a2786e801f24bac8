pub mod Chain
pub mod Names
pub mod Forms
pub mod Goals
pub mod Requests
pub mod Held
