-- what the solver answers tells whether there is a nominal step
use Rattle.lv_reconf.proofs.AskingLemmas.{told_sat, told_unsat}
use Rattle.lv_reconf.proofs.commanded.Commanded.has_step.Goals as goal

pub returns-in-Sat-clause-answer : goal.returns-in-Sat-clause-answer
returns-in-Sat-clause-answer c =
    λ present ends asks.
    told_sat c.args.self.now.plant present ends c.args.solver.now.set c.in_ok-lits.lits.items c.args.state.now c.args.self.now.pairs asks (rw (← c.as_slice.ensures) c.in_ok-lits.ensures.says) c.as_slice-2.result.now c.as_slice-2.ensures.value
    c.in_ok-solve.field-0 c.in_ok-solve.ensures.answer c.in-Sat.values c.in-Sat.log c.in-Sat.is

pub returns-clause-answer : goal.returns-clause-answer
returns-clause-answer c =
    λ present ends asks.
    told_unsat c.args.self.now.plant present ends c.args.solver.now.set c.in_ok-lits.lits.items c.args.state.now c.args.self.now.pairs asks (rw (← c.as_slice.ensures) c.in_ok-lits.ensures.says) c.as_slice-2.result.now c.as_slice-2.ensures.value
    c.in_ok-solve.field-0 c.in_ok-solve.ensures.answer c.in-Unsat.core c.in-Unsat.log c.in-Unsat.is
