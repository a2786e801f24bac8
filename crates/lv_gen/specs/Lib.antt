pub mod Draws
pub mod Series
pub mod Session
