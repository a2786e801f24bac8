-- What a certificate states: for which tracked states, facts and goals it answers.
use Rattle.std.specs.Prelude.{ℕ, ◌+◌, ◌-◌, Bool, true, false, nat_lt, nat_le, nat_eq, ◌&&◌, List, [], ◌∷◌, ◌++◌, length, map, Option, Some, None, slice_index_or, if◌then◌else◌, Result, Ok, Err}
use Rattle.std.specs.List.{list_all}
use Rattle.std.specs.Option.{option_and_then}
use Rattle.std.specs.Cmp.Lexicographic.{pointwise}
use Rattle.lv_model_names.specs.lv_base.declared.limits.TheConstants.{TRACKED_COST}
use Rattle.lv_model_names.specs.lv_base.declared.ids.Lit.{Lit}
use Rattle.lv_model_names.specs.lv_base.declared.rank.Rank.{Rank}
use Rattle.lv_model_names.specs.lv_text.Lexemes.{Reading, reads, has_bad_byte, is_too_long, line_reading}
use Rattle.lv_model_names.specs.lv_base.Tree.{Tree}
use Rattle.lv_model_names.specs.lv_model.declared.plant.Plant.{Plant}
use Rattle.lv_model_names.specs.lv_model.declared.state.TrackedState.{TrackedState}
use Rattle.lv_model_names.specs.lv_model.Lists.{sizes, controls}
use Rattle.lv_model_names.specs.lv_model.Counts.{has_count, law_sizes}
use Rattle.lv_model_names.specs.lv_formula_text.PhraseTree.{PhraseTree}
use Rattle.lv_model_names.specs.lv_formula_text.Nesting.{is_too_deep}
use Rattle.lv_model_names.specs.lv_formula_text.Canonical.{canonical_text}
use Rattle.lv_model_names.specs.lv_formula_text.Resolving.{resolved}
use Rattle.lv_model_names.specs.lv_formula_text.declared.resolver.NameFault.{NameFault}
use Rattle.lv_model_names.specs.lv_formula_text.Descent.{phrase_of}
use Rattle.lv_model_names.specs.Names.{plant_names, classes, is_observable}
use Rattle.lv_search_zones.specs.lv_meaning.declared.facts.Observation.{Observation}
use Rattle.lv_search_zones.specs.lv_meaning.declared.facts.Facts.{Facts}
use Rattle.lv_search_zones.specs.lv_meaning.Facts.{commanded}
use Rattle.lv_search_zones.specs.lv_meaning.CandidateLaws.{are_moves, moves_cost}
use Rattle.lv_search_zones.specs.lv_compile.Booleans.{Booleans, value_literal, booleans_now, booleans_next}
use Rattle.lv_cert.specs.declared.line.Moment.{Moment}
use Rattle.lv_cert.specs.declared.line.Moment.TheVariants.{Now, Next}
use Rattle.lv_cert_meaning.specs.Counting.{is_one_of, are_of, places_of, values_of, at_number, mode_counts}

-- how many candidates a diagnosis lists at most, and whether no two of them may lead to one state
pub record Limit : Type 0 where
  pub most : ℕ
  pub distinct : Bool

-- the limit of a diagnosis, and whether it asks for distinct targets; the tracked states; what was commanded and seen, and the same as
-- literals in the order in which it is stated; the goals of a recovery
pub record Stated : Type 0 where
  pub k : ℕ
  pub distinct : Bool
  pub tracked : List TrackedState
  pub facts : Facts
  pub literals : List Lit
  pub goals : List Tree

abbrev pub nothing_stated : ℕ → Stated
nothing_stated k = record { k = k; distinct = false; tracked = []; facts = record { controls = []; present = []; next = [] }; literals = []; goals = [] }

abbrev pub with_limit : Stated → Limit → Stated
with_limit s limit = record s { k = limit.most; distinct = limit.distinct }

abbrev pub stated_limit : Stated → Limit
stated_limit s = record { most = s.k; distinct = s.distinct }

-- a cost, and a mode of each part
abbrev pub state_of : Plant → List ℕ → Option TrackedState
state_of plant [] = None
state_of plant (cost ∷ modes) =
    if nat_le cost TRACKED_COST && are_of (mode_counts plant) modes then Some (record { state = record { modes = values_of modes }; cost = record { 0 = cost } }) else None

abbrev pub with_state : Stated → TrackedState → Stated
with_state s state = record s { tracked = s.tracked ++ state ∷ [] }

abbrev pub observed_literal : Booleans → Observation → Lit
observed_literal b o = value_literal b o.var.0 o.val.0 true

-- a value of each control
abbrev pub with_controls : Plant → Stated → List ℕ → Stated
with_controls plant s ns =
    record s {
      facts = record s.facts { controls = values_of ns };
      literals = s.literals ++ map (observed_literal (booleans_now plant)) (commanded (controls plant) (values_of ns));
    }

-- an observable, and one of its values
abbrev pub observation_of : Plant → ℕ → ℕ → Option Observation
observation_of plant x v =
    if (is_one_of (length (sizes plant)) x && is_observable (classes plant) (x - 1)) && is_one_of (slice_index_or (sizes plant) (x - 1) 0) v
    then Some (record { var = record { 0 = x - 1 }; val = record { 0 = v - 1 } })
    else None

-- what was seen before the step, or after it
abbrev pub with_observation : Plant → Moment → Stated → Observation → Stated
with_observation plant Now s o =
    record s { facts = record s.facts { present = s.facts.present ++ o ∷ [] }; literals = s.literals ++ observed_literal (booleans_now plant) o ∷ [] }
with_observation plant Next s o =
    record s { facts = record s.facts { next = s.facts.next ++ o ∷ [] }; literals = s.literals ++ observed_literal (booleans_next plant) o ∷ [] }

-- a formula that gives few enough clauses, in either sign
abbrev pub simple_goal : Plant → Result Tree NameFault → Option Tree
simple_goal plant (Err fault) = None
simple_goal plant (Ok f) = if has_count (law_sizes plant) true f && has_count (law_sizes plant) false f then Some f else None

-- a formula over the plant that the text is the canonical text of
abbrev pub goal_as : Plant → List ℕ → PhraseTree → Option Tree
goal_as plant text phrase = if pointwise nat_eq (canonical_text phrase) text then simple_goal plant (resolved (plant_names plant) phrase) else None

abbrev pub goal_in : Plant → List ℕ → Reading → Option Tree
goal_in plant text (reads line) = if is_too_deep line then None else option_and_then (goal_as plant text) (phrase_of line)
goal_in plant text (has_bad_byte place) = None
goal_in plant text is_too_long = None

-- the goal of this text: the canonical text, within the limits of a line, of a formula over the plant
unfoldable pub goal_of : Plant → List ℕ → Option Tree
goal_of plant text = goal_in plant text (line_reading text)

abbrev pub with_goal : Stated → Tree → Stated
with_goal s goal = record s { goals = s.goals ++ goal ∷ [] }

-- the candidate that goes on from a tracked state by these moves, which have to be from its modes
abbrev pub rank_from : Plant → ℕ → List ℕ → TrackedState → Option Rank
rank_from plant place moves state =
    if list_all (nat_lt 0) moves && are_moves plant.types plant.parts state.state.modes (places_of moves)
    then Some (record { cost = record { 0 = state.cost.0 + moves_cost plant.types plant.parts (places_of moves) }; source = place; choices = places_of moves })
    else None

-- the candidate of a state and moves by their numbers
abbrev pub candidate_of_numbers : Plant → List TrackedState → List ℕ → Option Rank
candidate_of_numbers plant tracked [] = None
candidate_of_numbers plant tracked (s ∷ moves) = option_and_then (rank_from plant (s - 1) moves) (at_number tracked s)
