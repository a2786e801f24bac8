-- listing does what is told
use Rattle.std.proofs.lemmas.Result.{IfOk-weaker}
use Rattle.lv_search.proofs.turn.try_first.Goals as goal

pub returns-in-Fits-clause-fits : goal.returns-in-Fits-clause-fits
returns-in-Fits-clause-fits g c = IfOk-weaker c.list_first.result _ _ (λ x is _. is) c.list_first.ensures
