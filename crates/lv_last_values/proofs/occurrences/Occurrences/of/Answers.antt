-- no clause present has a number from the bound on
use Rattle.std.proofs.Common.{ap, unwrap_or, arith, Option, List, []}
use Rattle.lv_base.specs.declared.ids.Lit.{Lit}
use Rattle.lv_clauses.specs.ClauseMap.{clause_at}
use Rattle.lv_last_values.proofs.LastValuesLemmas.{below_then, names_all}
use Rattle.lv_last_values.proofs.occurrences.Occurrences.of.Goals as goal

pub loop-key-preserved : goal.loop-key-preserved
loop-key-preserved c =
    below_then c.loop-key.key c.args.set.now.slots (unwrap_or (clause_at c.args.set.now.slots c.loop-key.key) []) c.loop-key.occurrences c.add_present.new.self c.loop-key.invariant (λ d at. ap (λ (o : Option (List Lit)). unwrap_or o []) at) c.in_ok-add_present.ensures

pub returns : goal.returns
returns c = names_all c.bound-key-end.result c.loop-key.key c.args.set.now.slots c.loop-key.occurrences c.bound-key-end.ensures (omega (arith, c.loop-key-test.false)) c.loop-key.invariant
