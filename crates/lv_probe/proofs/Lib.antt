pub mod LawLemmas
pub mod BestLemmas
pub mod ObservableLemmas
mod CountLemmas
