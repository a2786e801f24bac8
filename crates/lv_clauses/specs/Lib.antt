pub mod Literals
pub mod ClauseMap
pub mod Closure
pub mod Marks
pub mod Laws
pub mod Noted
pub mod Following
