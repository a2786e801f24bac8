-- What the code keeps of a plant while it counts clauses: for each move what it takes to deny it, for each type the share of a part.
use Rattle.std.specs.Prelude.{ℕ, true, false, ◌+◌, nat_eq, if◌then◌else◌, List, take, sum_by, slice_get}
use Rattle.std.specs.Option.{option_map_or}
use Rattle.lv_model.specs.declared.counts.Denial.{Denial}
use Rattle.lv_model.specs.declared.plant.Domain.{Domain}
use Rattle.lv_model.specs.declared.plant.ComponentType.{ComponentType}
use Rattle.lv_model.specs.declared.plant.Part.{Part}
use Rattle.lv_model.specs.declared.plant.Move.{Move}
use Rattle.lv_model.specs.declared.plant.MoveKind.{MoveKind}
use Rattle.lv_model.specs.declared.plant.MoveKind.TheVariants.{Step, Stay, Fault}
use Rattle.lv_model.specs.Meaning.{is_step_kind}
use Rattle.lv_model.specs.Counts.{held, guard_count, type_count}

abbrev pub denial : List ℕ → Move → Denial
denial sizes m = record { mode = m.source; count = if is_step_kind m.kind then guard_count sizes false m else 0 }

-- of a step from the mode
abbrev pub denied : ℕ → Denial → ℕ
denied mode d = if nat_eq d.mode.0 mode then d.count else 0

-- when the move may go on that stands behind so many others, where each of all moves has its denial
abbrev pub goes_of : MoveKind → List ℕ → List Denial → ℕ → Move → ℕ
goes_of Step sizes ds others m = guard_count sizes true m + sum_by (denied m.source.0) (take others ds)
goes_of Stay sizes ds others m = sum_by (denied m.source.0) ds
goes_of Fault sizes ds others m = guard_count sizes true m

-- a part's share, as far as the limit goes
abbrev pub held_type_count : List Domain → ComponentType → ℕ
held_type_count domains t = held (type_count domains t)

-- the share of a part whose type has this place
abbrev pub looked_up : List ℕ → Part → ℕ
looked_up counts p = option_map_or (λ (n : ℕ). n) (slice_get counts p.kind) 0
