-- A pair of lines that shows a step of a recovery shows a nominal step, with moves that are its parts' own.
use Rattle.std.proofs.Common.{◌≡◌, ℕ, zero, suc, ◌+◌, ◌<◌, Bool, true, false, ◌&&◌, List, [], ◌∷◌, Some, slice_get, ⊎_elim, refl, sym, arith}
use Rattle.std.specs.Prelude.{map}
use Rattle.std.specs.Option.{option_map_or}
use Rattle.std.specs.List.{list_all, list_any, range_with_len}
use Rattle.std.proofs.lemmas.Bool.{and_parts, and_from, or_cases, lt-ltb}
use Rattle.lv_cert_meaning.specs.lv_base.declared.ids.ValId.{ValId}
use Rattle.lv_cert_meaning.specs.lv_base.Choices.{pairs_of}
use Rattle.lv_cert_meaning.specs.lv_clauses.Literals.{same_truth}
use Rattle.lv_cert_meaning.specs.lv_model.declared.plant.Plant.{Plant}
use Rattle.lv_cert_meaning.specs.lv_model.declared.plant.ComponentType.{ComponentType}
use Rattle.lv_cert_meaning.specs.lv_model.declared.plant.Part.{Part}
use Rattle.lv_cert_meaning.specs.lv_model.declared.state.TrackedState.{TrackedState}
use Rattle.lv_cert_meaning.specs.lv_model.Lists.{sizes, part_moves, controls}
use Rattle.lv_cert_meaning.specs.lv_model.Meaning.{is_feasible, part_steps, part_is_nominal, parts_step, parts_are_nominal}
use Rattle.lv_cert_meaning.specs.lv_meaning.Facts.{meets}
use Rattle.lv_cert_meaning.specs.lv_meaning.Possible.{value, move_number}
use Rattle.lv_cert_meaning.specs.lv_meaning.PossibleLaws.{are_below}
use Rattle.lv_cert_meaning.specs.lv_meaning.Recovers.{has_modes, has_controls, meets_goals}
use Rattle.lv_cert_meaning.specs.lv_meaning.RecoveryLaws.{NominalStep}
use Rattle.lv_cert_meaning.specs.lv_cert.declared.line.Question.TheVariants.{Recovery}
use Rattle.lv_cert_meaning.specs.Counting.{are_of, places_of, values_of}
use Rattle.lv_cert_meaning.specs.Judging.{Aimed, Judged, steps_nominally, is_nominal_pair, is_aimed_step, is_as_aimed}
use Rattle.lv_cert_laws.proofs.Options.{tested}
use Rattle.lv_cert_laws.proofs.Shown.{places_below}
use Rattle.lv_cert_laws.proofs.Ahead.{IsShown}

-- a number of a range that passes
pub record NumberIn (f : ℕ → Bool) (first n : ℕ) : Type 0 where
  pub number : ℕ
  pub below : number < first + n
  pub passes : f number ≡ true

number_in : (f : ℕ → Bool) (first n : ℕ) → list_any f (range_with_len first n) ≡ true → NumberIn f first n
number_in f first zero any = absurd (cc any)
number_in f first (suc n) any =
    ⊎_elim (λ here. record { number = first; below = omega arith; passes = here })
    (λ later.
    let r : NumberIn f (first + 1) n = number_in f (first + 1) n later in
    let less = r.below in
    record { number = r.number; below = omega (arith, less); passes = r.passes })
    (or_cases (f first) (list_any f (range_with_len (first + 1) n)) any)

-- a move for each part by which it steps without a fault
pub record AreMoving (types : List ComponentType) (a b : List ValId) (ps : List Part) : Type 0 where
  pub moves : List ℕ
  pub below : are_below (map (part_moves types) ps) moves ≡ true
  pub steps : parts_step types a b ps (map move_number moves) ≡ true
  pub nominal : parts_are_nominal types ps (map move_number moves) ≡ true

gathered : (types : List ComponentType) (a b : List ValId) (ps : List Part) → list_all (steps_nominally types a b) ps ≡ true → AreMoving types a b ps
gathered types a b [] all = record { moves = []; below = refl; steps = refl; nominal = refl }
gathered types a b (p ∷ ps) all =
    let two = and_parts (steps_nominally types a b p) (list_all (steps_nominally types a b) ps) all in
    let n : NumberIn (λ n. part_steps types a b p n && part_is_nominal types p n) 0 (part_moves types p) =
    number_in (λ n. part_steps types a b p n && part_is_nominal types p n) 0 (part_moves types p) two.0 in
    let both = and_parts (part_steps types a b p n.number) (part_is_nominal types p n.number) n.passes in
    let rest : AreMoving types a b ps = gathered types a b ps two.1 in
    let less = n.below in
    record {
      moves = n.number ∷ rest.moves;
      below = and_from _ (are_below (map (part_moves types) ps) rest.moves) (lt-ltb n.number (part_moves types p) (omega (arith, less))) rest.below;
      steps = and_from (part_steps types a b p n.number) (parts_step types a b ps (map move_number rest.moves)) both.0 rest.steps;
      nominal = and_from (part_is_nominal types p n.number) (parts_are_nominal types ps (map move_number rest.moves)) both.1 rest.nominal;
    }

same_as : (b c : Bool) → same_truth b c ≡ true → b ≡ c
same_as true c h = sym h
same_as false true h = absurd (cc h)
same_as false false h = refl

-- a nominal step from the state that is aimed at, which ends as is aimed at
pub record IsAimed (plant : Plant) (j : Judged) (aimed : Aimed) : Type 0 where
  pub state : TrackedState
  pub at : slice_get j.stated.tracked aimed.place ≡ Some state
  pub step : NominalStep plant j.stated.facts.present state.state (pairs_of aimed.values)
  pub ends : meets_goals j.stated.goals (map value step.after) ≡ aimed.reaches

module _ (plant : Plant) (j : Judged) (aimed : Aimed) (before after : List ℕ) (b : are_of (sizes plant) before ≡ true) (a : are_of (sizes plant) after ≡ true) where
  step_aims : is_as_aimed plant j (values_of before) (values_of after) aimed ≡ true → IsAimed plant j aimed
  step_aims h =
      record {
        state = found.0;
        at = found.1;
        step = record {
          before = places_of before;
          after = places_of after;
          moves = moving.moves;
          before_below = places_below (sizes plant) before b;
          after_below = places_below (sizes plant) after a;
          moves_below = moving.below;
          modes = from.0;
          commanded = seen.0;
          observed = seen.1;
          step =
              and_from (is_feasible plant (values_of before)) (is_feasible plant (values_of after) && parts_step plant.types (values_of before) (values_of after) plant.parts (map move_number moving.moves)) pair.0
              (and_from (is_feasible plant (values_of after)) (parts_step plant.types (values_of before) (values_of after) plant.parts (map move_number moving.moves)) rest.0 moving.steps);
          nominal = moving.nominal;
        };
        ends = same_as (meets_goals j.stated.goals (values_of after)) aimed.reaches two.1;
      }
    where
      two : (option_map_or (is_aimed_step plant j aimed.values (values_of before) (values_of after)) (slice_get j.stated.tracked aimed.place) false ≡ true) × (same_truth (meets_goals j.stated.goals (values_of after)) aimed.reaches ≡ true)
      two = and_parts (option_map_or (is_aimed_step plant j aimed.values (values_of before) (values_of after)) (slice_get j.stated.tracked aimed.place) false) (same_truth (meets_goals j.stated.goals (values_of after)) aimed.reaches) h

      found : (s : TrackedState) × (slice_get j.stated.tracked aimed.place ≡ Some s) × (is_aimed_step plant j aimed.values (values_of before) (values_of after) s ≡ true)
      found = tested (is_aimed_step plant j aimed.values (values_of before) (values_of after)) (slice_get j.stated.tracked aimed.place) two.0

      begins : Bool
      begins = has_modes plant.parts found.0.state.modes (values_of before) && (has_controls (controls plant) (values_of before) (pairs_of aimed.values) && meets (values_of before) j.stated.facts.present)

      halves : (begins ≡ true) × (is_nominal_pair plant (values_of before) (values_of after) ≡ true)
      halves = and_parts begins (is_nominal_pair plant (values_of before) (values_of after)) found.2

      from : (has_modes plant.parts found.0.state.modes (values_of before) ≡ true) × ((has_controls (controls plant) (values_of before) (pairs_of aimed.values) && meets (values_of before) j.stated.facts.present) ≡ true)
      from = and_parts (has_modes plant.parts found.0.state.modes (values_of before)) (has_controls (controls plant) (values_of before) (pairs_of aimed.values) && meets (values_of before) j.stated.facts.present) halves.0

      seen : (has_controls (controls plant) (values_of before) (pairs_of aimed.values) ≡ true) × (meets (values_of before) j.stated.facts.present ≡ true)
      seen = and_parts (has_controls (controls plant) (values_of before) (pairs_of aimed.values)) (meets (values_of before) j.stated.facts.present) from.1

      pair : (is_feasible plant (values_of before) ≡ true) × ((is_feasible plant (values_of after) && list_all (steps_nominally plant.types (values_of before) (values_of after)) plant.parts) ≡ true)
      pair = and_parts (is_feasible plant (values_of before)) (is_feasible plant (values_of after) && list_all (steps_nominally plant.types (values_of before) (values_of after)) plant.parts) halves.1

      rest : (is_feasible plant (values_of after) ≡ true) × (list_all (steps_nominally plant.types (values_of before) (values_of after)) plant.parts ≡ true)
      rest = and_parts (is_feasible plant (values_of after)) (list_all (steps_nominally plant.types (values_of before) (values_of after)) plant.parts) pair.1

      moving : AreMoving plant.types (values_of before) (values_of after) plant.parts
      moving = gathered plant.types (values_of before) (values_of after) plant.parts rest.1

-- what a pair of lines shows where this is aimed at
pub shown_aims : (plant : Plant) (j : Judged) (aimed : Aimed) → IsShown Recovery plant (record j { aimed = Some aimed }) → IsAimed plant j aimed
shown_aims plant j aimed shown = step_aims plant j aimed shown.before shown.after shown.before_of shown.after_of shown.shown
