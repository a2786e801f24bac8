use Rattle.std.proofs.Common.{◌≡◌, ◌++◌, map, drop}
use Rattle.lv_cert.specs.Texts.{literal_word, spaced}
use Rattle.lv_cert.proofs.writing.push_literals.Given as goal

-- what was added, with the literals that are left, is all
abbrev pub invariant-loop-literal : goal.invariant-loop-literal
invariant-loop-literal l = l.out.items ++ spaced (map literal_word (drop l.literal-index l.literals)) ≡ l.initial.out.items ++ spaced (map literal_word l.literals)
