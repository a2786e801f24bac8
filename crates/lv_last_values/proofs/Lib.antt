pub mod RowLemmas
pub mod LastValuesLemmas
