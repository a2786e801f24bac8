-- the choices that rank after the first loose one are taken out
use Rattle.lv_search_guide.proofs.FirstLemmas.{slot_drops}
use Rattle.lv_search_guide.proofs.behind.drop_at.Goals as goal

pub returns-in-Some : goal.returns-in-Some
returns-in-Some c slots conflicts within row are =
    slot_drops slots conflicts c.args.masks.now c.args.loose.now c.args.slot c.args.costs.now c.at.result c.at-mask.result c.in-Some.kept c.replace.new.self within row c.at.ensures c.at-mask.ensures are
    (rw c.in-Some.is at c.kept_of.ensures) c.if-kept-mask.true c.replace.ensures
