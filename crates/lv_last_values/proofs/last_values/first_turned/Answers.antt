-- no boolean that turned leaves anything to be judged
use Rattle.std.proofs.Common.{arith}
use Rattle.lv_last_values.proofs.LastValuesLemmas.{all_settled, each_settled}
use Rattle.lv_last_values.proofs.last_values.first_turned.Goals as goal

pub returns-clause-none : goal.returns-clause-none
returns-clause-none c =
    all_settled c.args.set.now c.args.occurrences.now c.args.last.now c.args.values.now c.requires.names c.requires.last c.requires.len
    (λ var within.
    each_settled c.args.set.now.slots c.args.occurrences.now c.args.last.now c.args.values.now c.args.turned.now c.requires.turned (λ k d before. c.loop-at.invariant k d (omega (arith, before, c.loop-at-test.false))) var)
