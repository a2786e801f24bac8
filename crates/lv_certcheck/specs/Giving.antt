-- Clauses that are given to a block, and what has to be known of what they say.
use Rattle.std.specs.Prelude.{◌≡◌, ◌≤◌, List, ◌++◌, All, length, IfSome}
use Rattle.lv_search_zones.specs.lv_compile.FormulaClauses.{Clauses}
use Rattle.lv_base.specs.declared.ids.ValId.{ValId}
use Rattle.lv_base.specs.declared.limits.TheConstants.{TRACKED}
use Rattle.lv_model.specs.declared.plant.Plant.{Plant}
use Rattle.lv_model.specs.Lists.{variable_count}
use Rattle.lv_meaning.specs.Facts.{IsInRange}
use Rattle.lv_meaning.specs.Ranges.{GoalFits}
use Rattle.lv_system.specs.System.{SystemValue}
use Rattle.lv_cert_meaning.specs.Blocks.{BlockValue}
use Rattle.lv_cert_meaning.specs.Fitting.{IsStateOf, HasFewChoices}
use Rattle.lv_certcheck.specs.declared.judged.Judged.{Judged}

-- the block with clauses more
abbrev pub with_clauses : BlockValue → Clauses → BlockValue
with_clauses b cs = record { system = b.system; own = b.own ++ cs }

-- values for all variables
pub record IsWhole (plant : Plant) (a : List ValId) : Type 0 where
  pub len : length a ≡ variable_count plant

-- what was judged so far speaks of things of the plant, over the clauses of its system
pub record Fits (plant : Plant) (system : SystemValue) (j : Judged) : Type 0 where
  pub block_is : j.block.system ≡ system
  pub few : length j.stated.tracked ≤ TRACKED
  pub states : All (IsStateOf plant) j.stated.tracked
  pub present : All (IsInRange (variable_count plant)) j.stated.facts.present
  pub next : All (IsInRange (variable_count plant)) j.stated.facts.next
  pub goals : All (GoalFits plant) j.stated.goals
  pub listed : All HasFewChoices j.listed.items
  pub before : IfSome j.before (IsWhole plant)
