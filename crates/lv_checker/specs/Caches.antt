-- What a draft keeps beside its plant, so that nothing is counted anew at each statement.
use Rattle.std.specs.Prelude.{◌≡◌, ℕ, List, map, take}
use Rattle.lv_model.specs.Ranges.{plant_ranges}
use Rattle.lv_model.specs.Counts.{law_sizes, plant_count}
use Rattle.lv_model.specs.Denials.{held_type_count}
use Rattle.lv_reader.specs.declared.statement.ModelText.{ModelText}
use Rattle.lv_reader.specs.Texts.{ReadsAs}
use Rattle.lv_model_entries.specs.declared.draft.Draft.{Draft}
use Rattle.lv_checker.specs.Drafts.{empty}
use Rattle.lv_checker.specs.Checking.{fine, all_added}

-- the ranges of the plant's variables and their sizes, for each type the clauses that a part of it gives, and all clauses so far
pub record KeepsCounts (d : Draft) : Type 0 where
  pub ranges : d.ranges ≡ plant_ranges d.plant
  pub sizes : d.sizes ≡ law_sizes d.plant
  pub shares : d.shares ≡ map (held_type_count d.plant.domains) d.plant.types
  pub clauses : d.clauses ≡ plant_count d.plant

-- behind however many of the statements that bytes read as, what is kept is what is counted of the plant so far
abbrev pub CountsAreKept : Type 0
CountsAreKept = (bytes : List ℕ) (text : ModelText) (n : ℕ) (d : Draft) → ReadsAs bytes text → all_added empty (take n text.statements) ≡ fine d → KeepsCounts d
