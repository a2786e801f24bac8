-- no clause present has a number from the bound on
use Rattle.std.proofs.Common.{sym, ◌∙◌, arith}
use Rattle.lv_clauses.proofs.BoundLemmas.{none_left}
use Rattle.lv_last_values.proofs.last_values.first_of_all.Goals as goal

pub returns-clause-none : goal.returns-clause-none
returns-clause-none c =
    sym c.loop-key.invariant ∙ none_left c.args.values.now c.args.set.now.slots c.loop-key.key (λ id h. omega (arith, c.bound-key-end.ensures.above id h, c.loop-key-test.false))
