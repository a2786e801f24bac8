pub mod NameLemmas
pub mod PriceLemmas
pub mod KeyLemmas
pub mod PlaceLemmas
