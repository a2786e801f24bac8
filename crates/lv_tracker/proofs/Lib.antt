pub mod SameModes
pub mod SetLemmas
pub mod KeptLemmas
pub mod FirstLemmas
pub mod ListLemmas
pub mod OneList
