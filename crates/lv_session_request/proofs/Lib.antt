pub mod RequestLaws
pub mod GoalLaws
pub mod WordLaws
pub mod HeldLemmas
