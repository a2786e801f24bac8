-- What a plant does: assignments that are feasible, moves that a part takes, steps of the system.
use Rattle.std.specs.Prelude.{ℕ, Bool, true, false, nat_eq, ◌&&◌, ◌||◌, not, List, [], ◌∷◌, take, Option, option_map, slice_get}
use Rattle.std.specs.List.{list_all, list_any}
use Rattle.std.specs.Option.{option_map_or}
use Rattle.lv_base.specs.declared.ids.ValId.{ValId}
use Rattle.lv_base.specs.declared.ids.MoveId.{MoveId}
use Rattle.lv_base.specs.Tree.{truth_of, number_of}
use Rattle.lv_model.specs.declared.plant.Plant.{Plant}
use Rattle.lv_model.specs.declared.plant.ComponentType.{ComponentType}
use Rattle.lv_model.specs.declared.plant.ModeFormula.{ModeFormula}
use Rattle.lv_model.specs.declared.plant.Move.{Move}
use Rattle.lv_model.specs.declared.plant.MoveKind.{MoveKind}
use Rattle.lv_model.specs.declared.plant.MoveKind.TheVariants.{Step, Stay, Fault}
use Rattle.lv_model.specs.declared.plant.Part.{Part}
use Rattle.lv_model.specs.Moves.{move_at}

-- the formula is true, or the instance is in another mode
abbrev pub mode_formula_holds : List ValId → ℕ → ModeFormula → Bool
mode_formula_holds a base f = not (nat_eq f.mode.0 (number_of a base)) || truth_of a base f.condition

-- the laws of the type and the formulas of the present mode are true of the part
abbrev pub part_is_feasible : List ComponentType → List ValId → Part → Bool
part_is_feasible types a p =
    option_map_or (λ (t : ComponentType). list_all (truth_of a p.first.0) t.laws && list_all (mode_formula_holds a p.first.0) t.formulas) (slice_get types p.kind) false

-- every law of the system is true, and every law and every formula of the present mode of each part
abbrev pub is_feasible : Plant → List ValId → Bool
is_feasible plant a = list_all (truth_of a 0) plant.laws && list_all (part_is_feasible plant.types a) plant.parts

-- the guard is true, or there is none
abbrev pub is_open : List ValId → ℕ → Move → Bool
is_open a base m = option_map_or (truth_of a base) m.guard true

abbrev pub is_step_kind : MoveKind → Bool
is_step_kind Step = true
is_step_kind Stay = false
is_step_kind Fault = false

-- a step of this mode with a true guard
abbrev pub is_open_step : List ValId → ℕ → ℕ → Move → Bool
is_open_step a base mode m = is_step_kind m.kind && (nat_eq m.source.0 mode && is_open a base m)

-- whether the move of this kind may go on: a step where its guard is true and no earlier step of the mode has a true guard, a
-- stay where no step of the mode has one, a fault where it has no guard or its guard is true
abbrev pub goes : MoveKind → List ValId → ℕ → List Move → ℕ → Move → Bool
goes Step a base moves n m = is_open a base m && not (list_any (is_open_step a base m.source.0) (take n moves))
goes Stay a base moves n m = not (list_any (is_open_step a base m.source.0) moves)
goes Fault a base moves n m = is_open a base m

-- the instance is in the source of its type's n-th move, and the move may go on
abbrev pub type_takes : List ValId → ℕ → List Move → ℕ → Bool
type_takes a base moves n = option_map_or (λ (m : Move). nat_eq (number_of a base) m.source.0 && goes m.kind a base moves n m) (slice_get moves n) false

abbrev pub part_takes : List ComponentType → List ValId → Part → ℕ → Bool
part_takes types a p n = option_map_or (λ (t : ComponentType). type_takes a p.first.0 t.moves n) (slice_get types p.kind) false

-- the part of this place takes the move in the assignment
abbrev pub takes : Plant → ℕ → ℕ → List ValId → Bool
takes plant part n a = option_map_or (λ (p : Part). part_takes plant.types a p n) (slice_get plant.parts part) false

-- the target of the part's n-th move, if there is such a move
abbrev pub target_of : List ComponentType → Part → ℕ → Option ℕ
target_of types p n = option_map (λ (m : Move). m.target.0) (move_at types p n)

-- the part takes its move in a, and has the move's target mode in b
abbrev pub part_steps : List ComponentType → List ValId → List ValId → Part → ℕ → Bool
part_steps types a b p n = part_takes types a p n && option_map_or (λ mode. nat_eq (number_of b p.first.0) mode) (target_of types p n) false

-- each part steps by its move, and there is one move for each part
abbrev pub parts_step : List ComponentType → List ValId → List ValId → List Part → List MoveId → Bool
parts_step types a b [] [] = true
parts_step types a b [] (n ∷ ns) = false
parts_step types a b (p ∷ ps) [] = false
parts_step types a b (p ∷ ps) (n ∷ ns) = part_steps types a b p n.0 && parts_step types a b ps ns

-- both assignments are feasible, and each part steps by its move
abbrev pub is_step : Plant → List ValId → List ValId → List MoveId → Bool
is_step plant a b moves = is_feasible plant a && (is_feasible plant b && parts_step plant.types a b plant.parts moves)

abbrev pub is_no_fault : MoveKind → Bool
is_no_fault Step = true
is_no_fault Stay = true
is_no_fault Fault = false

-- the part's type has a move of this number, and it is no fault
abbrev pub part_is_nominal : List ComponentType → Part → ℕ → Bool
part_is_nominal types p n = option_map_or (λ (m : Move). is_no_fault m.kind) (move_at types p n) false

-- one move for each part, and none of them is a fault
abbrev pub parts_are_nominal : List ComponentType → List Part → List MoveId → Bool
parts_are_nominal types [] [] = true
parts_are_nominal types [] (n ∷ ns) = false
parts_are_nominal types (p ∷ ps) [] = false
parts_are_nominal types (p ∷ ps) (n ∷ ns) = part_is_nominal types p n.0 && parts_are_nominal types ps ns

-- a step of the system is nominal where none of its moves is a fault
abbrev pub is_nominal : Plant → List MoveId → Bool
is_nominal plant moves = parts_are_nominal plant.types plant.parts moves
