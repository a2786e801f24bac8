-- A worked example: one valve, which is closed, and what follows from commands and a look at its flow.
use Rattle.std.specs.Prelude.{◌≡◌, ℕ, List, [], ◌∷◌, Some, None, codes}
use Rattle.lv_base.specs.declared.rank.Rank.{Rank}
use Rattle.lv_base.specs.Tree.{is}
use Rattle.lv_model.specs.declared.plant.Plant.{Plant}
use Rattle.lv_base.specs.declared.names.Class.TheVariants.{Control, Observable}
use Rattle.lv_model.specs.declared.plant.ComponentType.{ComponentType}
use Rattle.lv_model.specs.declared.plant.ModeFormula.{ModeFormula}
use Rattle.lv_model.specs.declared.plant.Move.{Move}
use Rattle.lv_model.specs.declared.plant.MoveKind.TheVariants.{Step, Stay, Fault}
use Rattle.lv_meaning.specs.declared.facts.Facts.{Facts}
use Rattle.lv_model.specs.declared.state.TrackedState.{TrackedState}
use Rattle.lv_meaning.specs.Candidates.{candidates, first_possible}

-- closed and stuck let nothing flow, open does
abbrev pub formulas : List ModeFormula
formulas =
    record { mode = record { 0 = 0 }; condition = is 2 0 }
    ∷ record { mode = record { 0 = 1 }; condition = is 2 1 }
    ∷ record { mode = record { 0 = 2 }; condition = is 2 0 }
    ∷ []

-- from closed: a step to open at the command to open, a stay, a fault of cost 5; from open a stay and a fault; from stuck a stay
abbrev pub moves : List Move
moves =
    record { kind = Step; source = record { 0 = 0 }; target = record { 0 = 1 }; guard = Some (is 1 1); cost = record { 0 = 0 }; line = 1 }
    ∷ record { kind = Stay; source = record { 0 = 0 }; target = record { 0 = 0 }; guard = None; cost = record { 0 = 0 }; line = 1 }
    ∷ record { kind = Fault; source = record { 0 = 0 }; target = record { 0 = 2 }; guard = None; cost = record { 0 = 5 }; line = 1 }
    ∷ record { kind = Stay; source = record { 0 = 1 }; target = record { 0 = 1 }; guard = None; cost = record { 0 = 0 }; line = 1 }
    ∷ record { kind = Fault; source = record { 0 = 1 }; target = record { 0 = 2 }; guard = None; cost = record { 0 = 5 }; line = 1 }
    ∷ record { kind = Stay; source = record { 0 = 2 }; target = record { 0 = 2 }; guard = None; cost = record { 0 = 0 }; line = 1 }
    ∷ []

-- its variables are a command, idle or open, and a flow, none or some
abbrev pub valve : ComponentType
valve =
    record {
      name = codes "Valve";
      variables = record { name = codes "command"; class = Control; domain = 0 } ∷ record { name = codes "flow"; class = Observable; domain = 1 } ∷ [];
      modes = codes "closed" ∷ codes "open" ∷ codes "stuck" ∷ [];
      laws = [];
      formulas = formulas;
      moves = moves;
    }

abbrev pub plant : Plant
plant =
    record {
      name = codes "One";
      domains =
          record { name = codes "Command"; values = codes "idle" ∷ codes "open" ∷ [] }
          ∷ record { name = codes "Flow"; values = codes "none" ∷ codes "some" ∷ [] }
          ∷ [];
      types = valve ∷ [];
      parts = record { name = codes "v"; kind = 0; start = record { 0 = 0 }; first = record { 0 = 0 } } ∷ [];
      laws = [];
      prices = [];
    }

-- closed at no cost
abbrev pub tracked : List TrackedState
tracked = record { state = record { modes = record { 0 = 0 } ∷ [] }; cost = record { 0 = 0 } } ∷ []

-- this command, and this flow after the step
abbrev pub facts : ℕ → ℕ → Facts
facts command flow = record { controls = record { 0 = command } ∷ []; present = []; next = record { var = record { 0 = 2 }; val = record { 0 = flow } } ∷ [] }

-- the state of place 0 goes on by this move, at this cost
abbrev pub by_move : ℕ → ℕ → Rank
by_move move cost = record { cost = record { 0 = cost }; source = 0; choices = move ∷ [] }

-- the step, the stay and the fault are candidates; the flow tells which of them is possible
pub record ValveExample : Type 0 where
  pub all : candidates plant tracked ≡ by_move 0 0 ∷ by_move 1 0 ∷ by_move 2 5 ∷ []
  pub opened : first_possible 3 plant (facts 1 1) tracked ≡ by_move 0 0 ∷ []
  pub got_stuck : first_possible 3 plant (facts 1 0) tracked ≡ by_move 2 5 ∷ []
  pub idle : first_possible 3 plant (facts 0 0) tracked ≡ by_move 1 0 ∷ by_move 2 5 ∷ []
  pub idle_first : first_possible 1 plant (facts 0 0) tracked ≡ by_move 1 0 ∷ []
  pub neither : first_possible 3 plant (facts 0 1) tracked ≡ []
