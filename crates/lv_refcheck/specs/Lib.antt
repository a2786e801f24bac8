pub use Rattle.lv_clauses.specs as lv_clauses
