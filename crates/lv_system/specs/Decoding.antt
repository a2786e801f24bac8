-- What truth values encode, read off them.
use Rattle.std.specs.Prelude.{◌≡◌, ◌<◌, ℕ, Bool, true, nat_eq, List, length, slice_index_or}
use Rattle.lv_base.specs.declared.ids.ValId.{ValId}
use Rattle.lv_base.specs.declared.ids.MoveId.{MoveId}
use Rattle.lv_model.specs.declared.plant.Plant.{Plant}
use Rattle.lv_model.specs.WellFormed.{is_well_formed}
use Rattle.lv_compile.specs.Booleans.{Booleans, value_bool}
use Rattle.lv_compile.specs.FormulaClauses.{size_of}
use Rattle.lv_system.specs.System.{SystemValue, IsSystemOf}
use Rattle.lv_system.specs.Laws.{IsWholeStep, IsModelOf}

-- of the booleans of each thing exactly the one of its number is true
pub record HaveNumbers (truth : ℕ → Bool) (b : Booleans) (number : ℕ → ℕ) : Type 0 where
  pub in_range : (x : ℕ) → x < length b.sizes → number x < size_of b x
  pub values : (x v : ℕ) → x < length b.sizes → v < size_of b x → truth (value_bool b x v) ≡ nat_eq (number x) v

-- where the booleans have numbers at all, this is the thing's
pub record IsNumberOf (truth : ℕ → Bool) (b : Booleans) (x n : ℕ) : Type 0 where
  pub same : (number : ℕ → ℕ) → HaveNumbers truth b number → n ≡ number x

-- the numbers of the things, in order
pub record AreNumbers (truth : ℕ → Bool) (b : Booleans) (numbers : List ℕ) : Type 0 where
  pub whole : length numbers ≡ length b.sizes
  pub each : (x : ℕ) → x < length b.sizes → IsNumberOf truth b x (slice_index_or numbers x 0)

-- of whichever plant this is the system, the assignments and the full choice are a step of it, and the truth values encode them
pub record IsDecoded (s : SystemValue) (values : List Bool) (a b : List ValId) (ms : List MoveId) : Type 0 where
  pub step : (plant : Plant) → is_well_formed plant ≡ true → IsSystemOf plant s → IsWholeStep plant a b ms
  pub encoded : (plant : Plant) → is_well_formed plant ≡ true → IsSystemOf plant s → IsModelOf plant s a b ms values
