pub mod Showing
pub mod Leading
pub mod Closing
pub mod Telling
pub mod Asking
pub mod Keeping
