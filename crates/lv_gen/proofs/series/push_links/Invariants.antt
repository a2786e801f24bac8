use Rattle.std.proofs.Common.{◌≡◌, ◌++◌}
use Rattle.lv_gen.specs.Series.{link_lines}
use Rattle.lv_gen.proofs.series.push_links.Given as goal

-- the laws of the links so far were added
abbrev pub invariant-loop-before : goal.invariant-loop-before
invariant-loop-before l = l.out.items ≡ l.initial.out.items ++ link_lines l.before
