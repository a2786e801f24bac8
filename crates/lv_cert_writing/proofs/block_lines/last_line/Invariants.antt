-- what is left of the numbers goes behind those so far
use Rattle.std.proofs.Common.{◌≡◌, ◌++◌, drop, map}
use Rattle.lv_cert_writing.specs.BlockLines.{hint_number, unit_number}
use Rattle.lv_cert_writing.proofs.block_lines.last_line.Given as goal

abbrev pub invariant-loop-lit : goal.invariant-loop-lit
invariant-loop-lit l = l.hints.items ++ map (unit_number l.units) (drop l.lit-index l.step.clause) ≡ map (unit_number l.units) l.step.clause

abbrev pub invariant-loop-hint : goal.invariant-loop-hint
invariant-loop-hint l =
    l.hints.items ++ map (hint_number l.numbers l.placed) (drop l.hint-index l.step.hints)
    ≡ map (unit_number l.units) l.step.clause ++ map (hint_number l.numbers l.placed) l.step.hints
