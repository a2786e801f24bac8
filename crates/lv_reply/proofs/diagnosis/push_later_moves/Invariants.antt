use Rattle.std.proofs.Common.{◌≡◌, ◌-◌, ◌++◌}
use Rattle.lv_reply.specs.Diagnosis.{later_moves}
use Rattle.lv_reply.proofs.diagnosis.push_later_moves.Given as goal

-- what was added, with the moves of the steps that are left, is all
abbrev pub invariant-loop-step : goal.invariant-loop-step
invariant-loop-step l = l.out.items ++ later_moves l.plant (l.later - l._step) l.rest ≡ l.initial.out.items ++ later_moves l.plant l.later l.choices
