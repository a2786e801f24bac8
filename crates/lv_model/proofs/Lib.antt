pub mod Reading
pub mod Sizes
pub mod Controls
pub mod MoveLemmas
pub mod CountLemmas
