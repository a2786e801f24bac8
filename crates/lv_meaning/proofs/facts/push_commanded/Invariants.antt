use Rattle.std.proofs.Common.{◌≡◌, ◌++◌, drop}
use Rattle.lv_meaning.specs.Facts.{commanded}
use Rattle.lv_meaning.proofs.facts.push_commanded.Given as goal

-- what was added and what is left of controls and values are all commands
abbrev pub invariant-loop-i : goal.invariant-loop-i
invariant-loop-i l = l.out.items ++ commanded (drop l.i l.controls) (drop l.i l.values) ≡ l.initial.out.items ++ commanded l.controls l.values
