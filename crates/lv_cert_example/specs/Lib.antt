pub mod Valve
pub mod Laws
