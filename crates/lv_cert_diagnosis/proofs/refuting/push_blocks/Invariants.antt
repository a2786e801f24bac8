-- the conflicts so far are refuted
use Rattle.std.proofs.Common.{◌≡◌, take}
use Rattle.lv_cert_diagnosis.specs.Showing.{AddsBlocks}
use Rattle.lv_cert_diagnosis.proofs.refuting.push_blocks.Given as goal

abbrev pub invariant-loop-conflict : goal.invariant-loop-conflict
invariant-loop-conflict l = record { refuted : AddsBlocks l.asking.plant l.asking.facts (take l.conflict-index l.kept) l.initial.lines.items l.lines.items; kept : l.refuter ≡ l.fn.refuter }
