-- What is asked of a step, as literals.
use Rattle.std.specs.Prelude.{ℕ, ◌+◌, true, false, if◌then◌else◌, List, [], ◌∷◌, ◌++◌, Option, Some, None}
use Rattle.lv_base.specs.declared.ids.Lit.{Lit}
use Rattle.lv_base.specs.declared.ids.ValId.{ValId}
use Rattle.lv_base.specs.declared.ids.MoveId.{MoveId}
use Rattle.lv_model.specs.declared.plant.Plant.{Plant}
use Rattle.lv_model.specs.declared.plant.ComponentType.{ComponentType}
use Rattle.lv_model.specs.declared.plant.Part.{Part}
use Rattle.lv_model.specs.declared.plant.Move.{Move}
use Rattle.lv_model.specs.Meaning.{is_no_fault}
use Rattle.lv_meaning.specs.declared.facts.Observation.{Observation}
use Rattle.lv_meaning.specs.Facts.{now_facts}
use Rattle.lv_meaning.specs.Candidates.{type_moves}
use Rattle.lv_system.specs.lv_compile.Booleans.{booleans_now}
use Rattle.lv_system.specs.Choices.{Choices, choice_literal}
use Rattle.lv_ident.specs.Literals.{observed_literals, plant_choices}
use Rattle.lv_plant_step.specs.declared.asked.Asked.{Asked}

-- each part is in its mode
abbrev pub mode_facts : List Part → List ValId → List Observation
mode_facts [] vs = []
mode_facts (p ∷ ps) [] = []
mode_facts (p ∷ ps) (v ∷ vs) = record { var = p.first; val = v } ∷ mode_facts ps vs

-- what is to hold before the step
abbrev pub begin_facts : Plant → Asked → List Observation
begin_facts plant asked = now_facts plant asked.facts ++ mode_facts plant.parts asked.modes

-- the part of this number makes none of these moves, which are numbered from n on, that is a fault
abbrev pub no_fault_literals : Choices → ℕ → ℕ → List Move → List Lit
no_fault_literals c k n [] = []
no_fault_literals c k n (m ∷ ms) = if is_no_fault m.kind then no_fault_literals c k (n + 1) ms else choice_literal c k n false ∷ no_fault_literals c k (n + 1) ms

-- the part, which has these moves, makes the one that is named, or none that is a fault
abbrev pub named_literals : Choices → ℕ → List Move → Option MoveId → List Lit
named_literals c k moves None = no_fault_literals c k 0 moves
named_literals c k moves (Some m) = choice_literal c k m.0 true ∷ []

-- each of these parts, which are numbered from k on
abbrev pub move_literals : List ComponentType → Choices → ℕ → List Part → List (Option MoveId) → List Lit
move_literals types c k [] fs = []
move_literals types c k (p ∷ ps) [] = []
move_literals types c k (p ∷ ps) (f ∷ fs) = named_literals c k (type_moves types p) f ++ move_literals types c (k + 1) ps fs

abbrev pub asked_literals : Plant → Asked → List Lit
asked_literals plant asked =
    observed_literals (booleans_now plant) (begin_facts plant asked) ++ move_literals plant.types (plant_choices plant) 0 plant.parts asked.faults
