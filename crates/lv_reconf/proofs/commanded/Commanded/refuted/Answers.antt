-- what the solver answers tells whether there is a nominal step, or which values there is none with
use Rattle.std.proofs.Common.{[], refl}
use Rattle.std.proofs.lemmas.Result.{IfOk-weaker}
use Rattle.lv_reconf.proofs.AskingLemmas.{told_core}
use Rattle.lv_reconf.proofs.commanded.Commanded.refuted.Goals as goal

pub returns-clause-answer : goal.returns-clause-answer
returns-clause-answer c =
    λ present ends asks.
    IfOk-weaker c.refute_once.result _ _
    (λ core told.
    told_core c.args.self.now.plant present ends c.args.solver.now.set c.in_ok-lits.lits.items c.args.state.now c.args.self.now.pairs asks (rw (← c.as_slice.ensures) c.in_ok-lits.ensures.says)
    (rw (← c.as_slice.ensures) c.in_ok-lits.ensures.marked) c.as_slice-2.result.now [] c.as_slice-2.ensures.value refl core told)
    c.refute_once.ensures.answer
