-- The clauses of a block behind the model's: what is stated, and what is to be refuted.
use Rattle.std.specs.Prelude.{ℕ, ◌+◌, Bool, true, false, List, [], ◌∷◌, ◌++◌, map, slice_index_or, if◌then◌else◌}
use Rattle.lv_model_names.specs.lv_base.declared.ids.Lit.{Lit}
use Rattle.lv_model_names.specs.lv_base.declared.ids.ValId.{ValId}
use Rattle.lv_model_names.specs.lv_base.declared.search.Pair.{Pair}
use Rattle.lv_model_names.specs.lv_base.Tree.{Tree}
use Rattle.lv_model_names.specs.lv_model.declared.plant.Plant.{Plant}
use Rattle.lv_model_names.specs.lv_model.declared.plant.Part.{Part}
use Rattle.lv_model_names.specs.lv_model.declared.plant.Move.{Move}
use Rattle.lv_model_names.specs.lv_model.Lists.{controls}
use Rattle.lv_model_names.specs.lv_model.Meaning.{is_no_fault}
use Rattle.lv_search_zones.specs.lv_meaning.Candidates.{type_moves}
use Rattle.lv_search_zones.specs.lv_compile.Booleans.{value_literal, booleans_now, booleans_next, choice_bool, literal}
use Rattle.lv_search_zones.specs.lv_compile.FormulaClauses.{Clauses, formula_clauses}
use Rattle.lv_search_zones.specs.lv_compile.Cleaning.{cleaned}

-- each literal as a clause of its own
abbrev pub units : List Lit → Clauses
units lits = map (λ (l : Lit). l ∷ []) lits

-- a part makes a move
abbrev pub choice_literal : Plant → Pair → Lit
choice_literal plant p = literal (choice_bool plant p.slot p.choice) true

-- each part is in its mode
abbrev pub mode_literals : Plant → List Part → List ValId → List Lit
mode_literals plant [] modes = []
mode_literals plant (p ∷ ps) [] = []
mode_literals plant (p ∷ ps) (v ∷ vs) = value_literal (booleans_now plant) p.first.0 v.0 true ∷ mode_literals plant ps vs

-- the part of this place makes none of its faults among these moves, the first of which has this number
abbrev pub no_fault_of : Plant → ℕ → ℕ → List Move → List Lit
no_fault_of plant part n [] = []
no_fault_of plant part n (m ∷ ms) =
    (if is_no_fault m.kind then no_fault_of plant part (n + 1) ms else literal (choice_bool plant part n) false ∷ no_fault_of plant part (n + 1) ms)

-- none of these parts does, the first of which has this place
abbrev pub no_fault_literals : Plant → ℕ → List Part → List Lit
no_fault_literals plant part [] = []
no_fault_literals plant part (p ∷ ps) = no_fault_of plant part 0 (type_moves plant.types p) ++ no_fault_literals plant (part + 1) ps

-- the control at the pair's slot has the pair's value
abbrev pub control_literal : Plant → Pair → Lit
control_literal plant p = value_literal (booleans_now plant) (slice_index_or (controls plant) p.slot (record { 0 = 0 })).0 p.choice true

-- the clauses of a goal after the step, in a sign
abbrev pub goal_clauses : Plant → Bool → Tree → Clauses
goal_clauses plant sign goal = cleaned (formula_clauses (booleans_next plant) 0 sign goal)

-- a nominal step from these modes, with what is stated and these values of controls
abbrev pub nominal_units : Plant → List ValId → List Lit → List Pair → Clauses
nominal_units plant modes stated pairs =
    units ((mode_literals plant plant.parts modes ++ no_fault_literals plant 0 plant.parts) ++ (stated ++ map (control_literal plant) pairs))
