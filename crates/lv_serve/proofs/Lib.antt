pub mod Writing
pub mod EndLemmas
pub mod KeptLemmas
pub mod ConversationLemmas
pub mod StandingLemmas
pub mod PieceLemmas
pub mod ReadLemmas
pub mod ToldLemmas
