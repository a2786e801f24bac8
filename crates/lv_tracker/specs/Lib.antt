pub mod Targets
pub mod Distinct
pub mod Tracked
pub mod Laws
pub mod Sets
