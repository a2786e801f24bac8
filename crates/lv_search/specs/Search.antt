-- A search as contracts see it.
use Rattle.lv_search.specs.Standing.{Standing}

-- where it stands, and the frontier that the candidates are left in
pub record SearchValue (F : Type 0) : Type 0 where
  pub standing : Standing
  pub frontier : F
