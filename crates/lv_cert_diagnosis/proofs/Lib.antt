pub mod HeadingLemmas
pub mod ListingLemmas
pub mod RefutingLemmas
pub mod WholeLemmas
pub mod Telling
pub mod AddingLemmas
pub mod AnswerLemmas
pub mod AskedLemmas
