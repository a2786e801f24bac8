pub mod Bytes
pub mod Forms
pub mod Laws
pub mod LongLines
pub mod Replies
pub mod Standing
