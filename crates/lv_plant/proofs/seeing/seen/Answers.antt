use Rattle.std.proofs.Common.{◌≡◌, true, sym, subst, All}
use Rattle.std.proofs.lemmas.Result.{IfOk-weaker}
use Rattle.lv_model.specs.declared.plant.Plant.{Plant}
use Rattle.lv_model.specs.WellFormed.{is_well_formed}
use Rattle.lv_session.specs.lv_session_request.Requests.{IsSightingIn}
use Rattle.lv_plant.specs.Seeing.{seen}
use Rattle.lv_plant.proofs.SeeingLemmas.{seen_in}
use Rattle.lv_plant.proofs.seeing.seen.Goals as goal

pub returns-clause-fit : goal.returns-clause-fit
returns-clause-fit c =
    let well : is_well_formed c.args.model.now ≡ true = subst (λ (p : Plant). is_well_formed p ≡ true) c.plant-plant.ensures.plant c.plant-plant.ensures.well_formed in
    IfOk-weaker c.sightings.result (λ out. out.items ≡ seen c.args.model.now c.args.odd c.args.b.now) (λ out. All (IsSightingIn c.args.model.now) out.items)
    (λ out e. subst (All (IsSightingIn c.args.model.now)) (sym e) (seen_in c.args.model.now well c.args.b.now c.requires c.args.odd)) c.sightings.ensures
