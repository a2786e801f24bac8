-- a cheapest member without conflict is found; by a conflict that it contains the box falls apart
use Rattle.std.proofs.Common.{rules}
use Rattle.std.proofs.lemmas.Result.{IfOk-weaker}
use Rattle.lv_search_guide.proofs.SearchLemmas.{look_found, look_contained}
use Rattle.lv_search_guide.proofs.look.look_at.Goals as goal

pub returns-in-Some : goal.returns-in-Some
returns-in-Some c =
    IfOk-weaker c.split_by.result _ _
    (λ looked told slots under m less. look_contained slots c.args.masks.now under c.args.member c.args.conflicts.now c.in-Some.conflict.now c.pairs.result.now looked m (search rules) c.pairs.ensures.pairs told) c.split_by.ensures

pub returns-in-None : goal.returns-in-None
returns-in-None c slots under m less =
    look_found slots c.args.conflicts.now c.args.masks.now under c.args.member m less (search rules)
