-- the state at the place is the one of the number
use Rattle.std.proofs.Common.{rules, ◌≡◌, slice_get, Some}
use Rattle.std.proofs.lemmas.Option.{slice_get_read}
use Rattle.lv_cert_meaning.proofs.PartLemmas.{no_candidate, candidate_is}
use Rattle.lv_cert_meaning.proofs.candidates.candidate_from.Goals as goal

pub returns-in-Some-clause-candidate : goal.returns-in-Some-clause-candidate
returns-in-Some-clause-candidate c =
    let here : slice_get c.args.tracked.now c.in-Some.place ≡ Some c.index-tracked-place.result = search (rules, slice_get_read) in
    candidate_is c.args.model.now c.args.tracked.now c.args.s c.args.ns.now c.plant.result.now c.in-Some.place c.index-tracked-place.result c.rank_from.result c.plant.ensures.plant
    c.in-Some.ensures.place here c.rank_from.ensures.rank

pub returns-in-None-clause-candidate : goal.returns-in-None-clause-candidate
returns-in-None-clause-candidate c = no_candidate c.args.model.now c.args.tracked.now c.args.s c.args.ns.now c.in-None.ensures.place
