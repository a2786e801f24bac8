use Rattle.std.proofs.Common.{◌≡◌, ◌++◌, drop}
use Rattle.std.specs.List.{flat_map}
use Rattle.lv_reply.specs.Probes.{probed_line}
use Rattle.lv_reply.proofs.probes.push_lines.Given as goal

-- what was added, with the lines of the observables that are left, is all
abbrev pub invariant-loop-probed : goal.invariant-loop-probed
invariant-loop-probed l = l.out.items ++ flat_map (probed_line l.model) (drop l.probed-index l.observables) ≡ l.initial.out.items ++ flat_map (probed_line l.model) l.observables
