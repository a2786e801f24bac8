-- the facts are of values that their variables have
use Rattle.std.proofs.Common.{◌≡◌, true, sym, subst}
use Rattle.lv_model.specs.declared.plant.Plant.{Plant}
use Rattle.lv_model.specs.WellFormed.{is_well_formed}
use Rattle.lv_session_state.specs.lv_meaning.declared.facts.Facts.{Facts}
use Rattle.lv_labels.specs.Holding.{AreFactsIn}
use Rattle.lv_session.proofs.Labelling.{facts_are_in}
use Rattle.lv_session.proofs.labels.told.Goals as goal

pub tell-requires-clause-facts : goal.tell-requires-clause-facts
tell-requires-clause-facts c =
    let well : is_well_formed c.args.model.now ≡ true = subst (λ (p : Plant). is_well_formed p ≡ true) c.plant-plant.ensures.plant c.plant-plant.ensures.well_formed in
    subst (λ (p : Plant). AreFactsIn p c.in_ok-facts.facts) (sym c.requires.labeller)
    (subst (λ (f : Facts). AreFactsIn c.args.model.now f) (sym c.in_ok-facts.ensures) (facts_are_in c.args.model.now c.args.state.now well c.requires.state))
