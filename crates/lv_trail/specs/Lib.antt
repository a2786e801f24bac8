pub mod Part
pub mod Trail
pub mod Analysis
pub use Rattle.lv_clauses.specs as lv_clauses
