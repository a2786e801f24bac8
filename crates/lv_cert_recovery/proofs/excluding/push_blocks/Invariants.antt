use Rattle.std.proofs.Common.{◌≡◌, take}
use Rattle.lv_cert_recovery.specs.Leading.{ExcludesAll}
use Rattle.lv_cert_recovery.proofs.excluding.push_blocks.Given as goal

abbrev pub invariant-loop-conflict : goal.invariant-loop-conflict
invariant-loop-conflict l = record { all : ExcludesAll l.asking.plant l.asking.aim (take l.conflict-index l.kept) l.initial.lines.items l.lines.items; kept : l.refuter ≡ l.fn.refuter }
