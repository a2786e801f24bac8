-- what is left of the part is a part of what is left exactly where all is a part of all
use Rattle.std.proofs.Common.{◌↔◌, ◌≤◌, length, drop}
use Rattle.lv_sat.specs.Answers.{IsSublist}
use Rattle.lv_sat.proofs.part.is_part.Given as goal

abbrev pub invariant-loop-lit : goal.invariant-loop-lit
invariant-loop-lit l =
    record {
      within : l.met ≤ length l.part;
      rest : IsSublist (drop l.met l.part) (drop l.lit-index l.whole) ↔ IsSublist l.part l.whole;
    }
