use Rattle.std.proofs.Common.{◌≡◌, ◌++◌, map, drop}
use Rattle.std.specs.Prelude.{decimal}
use Rattle.lv_cert.specs.Texts.{spaced}
use Rattle.lv_cert.proofs.writing.push_numbers.Given as goal

-- what was added, with the numbers that are left, is all
abbrev pub invariant-loop-n : goal.invariant-loop-n
invariant-loop-n l = l.out.items ++ spaced (map decimal (drop l.n-index l.numbers)) ≡ l.initial.out.items ++ spaced (map decimal l.numbers)
