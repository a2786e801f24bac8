-- The lines that state and show things, each as a function of the thing: its numbers count from 1.
use Rattle.std.specs.Prelude.{ℕ, ◌+◌, List, [], ◌∷◌, map}
use Rattle.lv_base.specs.declared.ids.ValId.{ValId}
use Rattle.lv_base.specs.declared.search.Pair.{Pair}
use Rattle.lv_model.specs.declared.state.TrackedState.{TrackedState}
use Rattle.lv_meaning.specs.declared.facts.Observation.{Observation}
use Rattle.lv_cert_meaning.specs.Deriving.{Derived}
use Rattle.lv_cert_writing.specs.declared.closing.Split.{Split}
use Rattle.lv_cert.specs.declared.line.Moment.{Moment}
use Rattle.lv_cert.specs.declared.line.Head.{Head}
use Rattle.lv_cert.specs.declared.line.Head.TheVariants.{State}
use Rattle.lv_cert.specs.declared.line.Line.{Line}
use Rattle.lv_cert.specs.declared.line.Line.TheVariants as line

-- the numbers of these places
abbrev pub numbers_of : List ℕ → List ℕ
numbers_of places = map (λ (n : ℕ). n + 1) places

-- the numbers of values
abbrev pub value_numbers : List ValId → List ℕ
value_numbers values = map (λ (v : ValId). v.0 + 1) values

-- a tracked state: its cost and its modes
abbrev pub state_line : TrackedState → Line
state_line s = line.Numbers State (s.cost.0 ∷ value_numbers s.state.modes)

abbrev pub state_lines : List TrackedState → List Line
state_lines states = map state_line states

-- an observation
abbrev pub fact_line : Moment → Observation → Line
fact_line moment o = line.Fact moment (o.var.0 + 1) (o.val.0 + 1)

abbrev pub fact_lines : Moment → List Observation → List Line
fact_lines moment os = map (fact_line moment) os

-- a value for each of some things
abbrev pub values_line : Head → List ValId → Line
values_line head values = line.Numbers head (value_numbers values)

-- pairs of a slot and a choice, one behind the other
abbrev pub pair_numbers : List Pair → List ℕ
pair_numbers [] = []
pair_numbers (p ∷ ps) = (p.slot + 1) ∷ ((p.choice + 1) ∷ pair_numbers ps)

-- a derived clause
abbrev pub clause_line : Derived → Line
clause_line d = line.Clause d.literals d.hints

abbrev pub clause_lines : List Derived → List Line
clause_lines ds = map clause_line ds

-- a split
abbrev pub split_line : Split → Line
split_line s = line.Split s.zone s.by

abbrev pub split_lines : List Split → List Line
split_lines made = map split_line made
