use Rattle.std.proofs.Common.{rules}
use Rattle.std.proofs.lemmas.Result.{err_from_is_err_and}
use Rattle.lv_reader.proofs.TakingLemmas.{taking_starts, line_taken, line_refuses, all_taken}
use Rattle.lv_reader.proofs.reader.take_lines.Goals as goal

pub returns-in_err-known-clause-fault : goal.returns-in_err-known-clause-fault
returns-in_err-known-clause-fault g c =
    let p = err_from_is_err_and c.from_residual.result c.from_residual.ensures.1 in
    rw (p.1, p.2) (line_refuses _ _ _ _ _ _ _ _ _ _ c.loop-line.invariant c.in-Some.ensures.line c.in_err-known.ensures.fault)

pub loop-line-init : goal.loop-line-init
loop-line-init g c = taking_starts _ _ _

pub loop-line-preserved : goal.loop-line-preserved
loop-line-preserved g c = line_taken _ _ _ _ _ _ _ _ _ _ _ c.loop-line.invariant c.in-Some.ensures.line c.in_ok-known.ensures.ok

pub returns-clause-ok : goal.returns-clause-ok
returns-clause-ok g c = all_taken _ _ _ _ _ _ _ c.loop-line.invariant (search rules) c.requires
