pub mod Names
pub mod Priced
pub mod Places
