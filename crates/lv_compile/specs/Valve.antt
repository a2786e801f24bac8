-- Two small plants: a valve that opens and closes at commands and may get stuck, and a part with two steps that are always
-- open.
use Rattle.std.specs.Prelude.{ℕ, List, [], ◌∷◌, Some, None, codes}
use Rattle.lv_base.specs.Tree.{Tree, always, is, same}
use Rattle.lv_model.specs.declared.plant.Plant.{Plant}
use Rattle.lv_base.specs.declared.names.Class.TheVariants.{Control, Dependent, Observable}
use Rattle.lv_model.specs.declared.plant.ComponentType.{ComponentType}
use Rattle.lv_model.specs.declared.plant.ModeFormula.{ModeFormula}
use Rattle.lv_model.specs.declared.plant.Move.{Move}
use Rattle.lv_model.specs.declared.plant.MoveKind.TheVariants.{Step, Stay, Fault}
use Rattle.lv_model.specs.declared.plant.Part.{Part}

abbrev pub step_of : ℕ → ℕ → Tree → ℕ → Move
step_of source target guard line =
    record { kind = Step; source = record { 0 = source }; target = record { 0 = target }; guard = Some guard; cost = record { 0 = 0 }; line = line }

abbrev pub stay_of : ℕ → Move
stay_of mode = record { kind = Stay; source = record { 0 = mode }; target = record { 0 = mode }; guard = None; cost = record { 0 = 0 }; line = 0 }

abbrev pub fault_of : ℕ → ℕ → ℕ → ℕ → Move
fault_of source target cost line =
    record { kind = Fault; source = record { 0 = source }; target = record { 0 = target }; guard = None; cost = record { 0 = cost }; line = line }

abbrev pub in_mode : ℕ → Tree → ModeFormula
in_mode mode f = record { mode = record { 0 = mode }; condition = f }

-- a part of the first type, in its first mode
abbrev pub only_part : List ℕ → Part
only_part name = record { name = name; kind = 0; start = record { 0 = 0 }; first = record { 0 = 0 } }

-- closed, open, stuck closed, stuck open: where it is closed nothing flows out, where it is open what flows in does
abbrev pub valve_type : ComponentType
valve_type =
    record {
      name = codes "valve";
      variables =
          record { name = codes "cmd"; class = Control; domain = 1 }
          ∷ record { name = codes "inn"; class = Dependent; domain = 0 }
          ∷ record { name = codes "out"; class = Observable; domain = 0 }
          ∷ [];
      modes = codes "closed" ∷ codes "open" ∷ codes "stuck_closed" ∷ codes "stuck_open" ∷ [];
      laws = [];
      formulas = in_mode 0 (is 3 0) ∷ in_mode 1 (same 3 2) ∷ in_mode 2 (is 3 0) ∷ in_mode 3 (same 3 2) ∷ [];
      moves =
          step_of 0 1 (is 1 1) 1
          ∷ stay_of 0
          ∷ fault_of 0 2 3 3
          ∷ fault_of 0 3 8 6
          ∷ step_of 1 0 (is 1 2) 2
          ∷ stay_of 1
          ∷ fault_of 1 3 5 4
          ∷ fault_of 1 2 4 5
          ∷ stay_of 2
          ∷ stay_of 3
          ∷ [];
    }

-- something flows in
abbrev pub valve : Plant
valve =
    record {
      name = codes "valve";
      domains =
          record { name = codes "flow"; values = codes "zero" ∷ codes "some" ∷ [] }
          ∷ record { name = codes "order"; values = codes "none" ∷ codes "open" ∷ codes "close" ∷ [] }
          ∷ [];
      types = valve_type ∷ [];
      parts = only_part (codes "v") ∷ [];
      laws = is 2 1 ∷ [];
      prices = [];
    }

-- from the first mode to the second, and from the first to the third, always
abbrev pub two_steps_type : ComponentType
two_steps_type =
    record {
      name = codes "t";
      variables = [];
      modes = codes "a" ∷ codes "b" ∷ codes "c" ∷ [];
      laws = [];
      formulas = [];
      moves = step_of 0 1 always 1 ∷ step_of 0 2 always 2 ∷ stay_of 0 ∷ stay_of 1 ∷ stay_of 2 ∷ [];
    }

abbrev pub two_steps : Plant
two_steps = record { name = codes "model"; domains = []; types = two_steps_type ∷ []; parts = only_part (codes "p") ∷ []; laws = []; prices = [] }
