-- the facts are of the plant and its values
use Rattle.std.proofs.Common.{sym, subst}
use Rattle.lv_meaning.specs.Facts.{FactsFit, FactsInRange}
use Rattle.lv_session_state.proofs.Asking.{facts_fit, facts_in_range}
use Rattle.lv_session_state.proofs.state.State.untried.Goals as goal

pub identify-requires-clause-fit : goal.identify-requires-clause-fit
identify-requires-clause-fit c = subst (FactsFit c.args.model.now) (sym c.in_ok-facts.ensures) (facts_fit c.args.model.now c.args.self.now c.requires.state)

pub identify-requires-clause-in_range : goal.identify-requires-clause-in_range
identify-requires-clause-in_range c = subst (FactsInRange c.args.model.now) (sym c.in_ok-facts.ensures) (facts_in_range c.args.model.now c.args.self.now c.requires.state)
