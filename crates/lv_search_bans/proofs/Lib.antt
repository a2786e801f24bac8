pub mod BoxLemmas
pub mod BanLemmas
pub mod NarrowLemmas
pub mod PriceLemmas
