pub mod Texts
pub mod Numbers
pub mod Words
pub mod Reading
pub mod Order
pub mod Form
pub mod Laws
pub mod Taking
