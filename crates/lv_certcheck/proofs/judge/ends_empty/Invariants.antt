use Rattle.std.proofs.Common.{◌≡◌, drop}
use Rattle.lv_cert_laws.specs.lv_cert_meaning.Judging.{ends_empty_after, ends_empty}
use Rattle.lv_certcheck.proofs.judge.ends_empty.Given as goal

-- what is left ends as all do
abbrev pub invariant-loop-line : goal.invariant-loop-line
invariant-loop-line l = ends_empty_after l.is_empty (drop l.line-index l.rest) ≡ ends_empty l.rest
