-- the trail has what is derived
use Rattle.lv_labels.proofs.TellLemmas.{true_found, false_unfound, unknown_unfound}
use Rattle.lv_labels.proofs.reading.is_found.Goals as goal

pub returns-in-True : goal.returns-in-True
returns-in-True c = true_found c.args.ltms.now c.args.lit c.requires.whole c.in-True.ensures

pub returns-in-False : goal.returns-in-False
returns-in-False c = false_unfound c.args.ltms.now c.args.lit c.requires.consistent c.requires.whole c.in-False.ensures

pub returns-in-Unknown : goal.returns-in-Unknown
returns-in-Unknown c = unknown_unfound c.args.ltms.now c.args.lit c.requires.whole (c.in-Unknown.ensures.0)
