-- the clauses so far have their numbers
use Rattle.std.proofs.Common.{take}
use Rattle.lv_cert_writing.specs.BlockNumbers.{AreSystemNumbers}
use Rattle.lv_cert_writing.proofs.block_numbers.numbers_of.Given as goal

abbrev pub invariant-loop-n : goal.invariant-loop-n
invariant-loop-n l = AreSystemNumbers l.system (take l.n l.system.ids) l.numbers.items
