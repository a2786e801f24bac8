-- What is known of a window as literals: of each step what was commanded and seen before it, and what was seen after it. The first of
-- these steps leads from the copy of the variables whose first boolean has this number.
use Rattle.std.specs.Prelude.{◌≡◌, ℕ, ◌+◌, length, List, [], ◌∷◌, ◌++◌}
use Rattle.std.specs.List.{sum}
use Rattle.lv_base.specs.declared.ids.Lit.{Lit}
use Rattle.lv_model.specs.declared.plant.Plant.{Plant}
use Rattle.lv_model.specs.Lists.{sizes}
use Rattle.lv_compile.specs.Booleans.{Booleans, booleans_from}
use Rattle.lv_system.specs.Windows.{copies_from}
use Rattle.lv_meaning.specs.declared.facts.Facts.{Facts}
use Rattle.lv_meaning.specs.Facts.{now_facts, FactsFit, FactsInRange}
use Rattle.lv_asking.specs.Literals.{observed_literals}

-- what is known of a step speaks of the plant's variables and their values
pub record StepFits (plant : Plant) (facts : Facts) : Type 0 where
  pub fit : FactsFit plant facts
  pub in_range : FactsInRange plant facts

-- the copies of the variables are those of the plant, one behind the other
pub record HasCopiesOf (plant : Plant) (copies : List Booleans) : Type 0 where
  pub are : copies ≡ copies_from plant 0 (length copies)

abbrev pub step_literals : Plant → ℕ → Facts → List Lit
step_literals plant first facts = observed_literals (booleans_from plant first) (now_facts plant facts) ++ observed_literals (booleans_from plant (first + sum (sizes plant))) facts.next

abbrev pub window_literals : Plant → ℕ → List Facts → List Lit
window_literals plant first [] = []
window_literals plant first (f ∷ fs) = step_literals plant first f ++ window_literals plant (first + sum (sizes plant)) fs
