-- the facts are of the plant and its values
use Rattle.std.proofs.Common.{sym, subst}
use Rattle.lv_model.specs.declared.plant.Plant.{Plant}
use Rattle.lv_session_state.specs.lv_meaning.Facts.{FactsFit, FactsInRange}
use Rattle.lv_session_state.proofs.Asking.{facts_fit, facts_in_range}
use Rattle.lv_session.proofs.probes.probed.Goals as goal

pub probe-requires-clause-fit : goal.probe-requires-clause-fit
probe-requires-clause-fit c =
    subst (λ (p : Plant). FactsFit p c.in_ok-facts.facts) (sym c.model.ensures)
    (subst (FactsFit c.args.compiled.now) (sym c.in_ok-facts.ensures) (facts_fit c.args.compiled.now c.args.state.now c.requires.state))

pub probe-requires-clause-in_range : goal.probe-requires-clause-in_range
probe-requires-clause-in_range c =
    subst (λ (p : Plant). FactsInRange p c.in_ok-facts.facts) (sym c.model.ensures)
    (subst (FactsInRange c.args.compiled.now) (sym c.in_ok-facts.ensures) (facts_in_range c.args.compiled.now c.args.state.now c.requires.state))
