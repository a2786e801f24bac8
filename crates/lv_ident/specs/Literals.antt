-- Facts as literals: each says of one variable, before the step or after it, that it has one value.
use Rattle.std.specs.Prelude.{List, ◌++◌}
use Rattle.lv_base.specs.declared.ids.Lit.{Lit}
use Rattle.lv_base.specs.declared.search.Pair.{Pair}
use Rattle.lv_model.specs.declared.plant.Plant.{Plant}
use Rattle.lv_model.specs.Lists.{move_counts}
use Rattle.lv_compile.specs.Booleans.{booleans_now, booleans_next, first_choice}
use Rattle.lv_system.specs.Choices.{Choices}
use Rattle.lv_meaning.specs.declared.facts.Facts.{Facts}
use Rattle.lv_meaning.specs.Facts.{now_facts}
use Rattle.lv_asking.specs.Asking.{IsPartial as IsPartialOf}
pub use Rattle.lv_asking.specs.Literals.{observed_literal, observed_literals, pair_literal, pair_literals, HasMove, IsPositive}

-- what was commanded and seen before the step, then what was seen after it
abbrev pub fact_literals : Plant → Facts → List Lit
fact_literals plant facts = observed_literals (booleans_now plant) (now_facts plant facts) ++ observed_literals (booleans_next plant) facts.next

-- the booleans of the plant's moves
abbrev pub plant_choices : Plant → Choices
plant_choices plant = record { first = first_choice plant; counts = move_counts plant }

-- pairs that can be asked for together: at most one for each part, in the order of the parts, each a move that the part has
abbrev pub IsPartial : Plant → List Pair → Type 0
IsPartial plant pairs = IsPartialOf (move_counts plant) pairs
