pub mod Answers
pub mod Measure
pub mod Front
pub mod Search
pub mod Solver
pub mod Fronts
pub use Rattle.lv_clauses.specs as lv_clauses
