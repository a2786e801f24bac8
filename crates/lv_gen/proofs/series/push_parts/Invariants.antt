use Rattle.std.proofs.Common.{◌≡◌, ◌++◌}
use Rattle.lv_gen.specs.Series.{part_lines}
use Rattle.lv_gen.proofs.series.push_parts.Given as goal

-- the lines of the valves so far were added
abbrev pub invariant-loop-before : goal.invariant-loop-before
invariant-loop-before l = l.out.items ≡ l.initial.out.items ++ part_lines l.before
