pub mod OrderLemmas
pub mod FoldLemmas
pub mod FitLemmas
pub mod WidenLemmas
pub mod CountLemmas
