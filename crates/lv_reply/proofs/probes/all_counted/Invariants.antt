use Rattle.std.proofs.Common.{◌≡◌, ◌++◌, drop}
use Rattle.lv_reply.specs.Probes.{counted_from}
use Rattle.lv_reply.proofs.probes.all_counted.Given as goal

-- the values looked at, with those that are left, are all
abbrev pub invariant-loop-value : goal.invariant-loop-value
invariant-loop-value l = l.out.items ++ counted_from l.names l.value (drop l.value l.numbers) ≡ counted_from l.names 0 l.numbers
