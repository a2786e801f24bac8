use Rattle.std.proofs.Common.{◌≡◌, ◌++◌, drop}
use Rattle.lv_reply.specs.Pieces.{after_commas}
use Rattle.lv_reply.proofs.pieces.push_after_commas.Given as goal

-- what was added, with the texts that are left, is all
abbrev pub invariant-loop-text : goal.invariant-loop-text
invariant-loop-text l = l.out.items ++ after_commas (drop l.text-index l.texts) ≡ l.initial.out.items ++ after_commas l.texts
