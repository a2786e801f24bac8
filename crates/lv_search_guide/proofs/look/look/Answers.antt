-- what a look at the cheapest member tells
use Rattle.std.proofs.Common.{rules}
use Rattle.std.proofs.lemmas.Result.{IfOk-weaker}
use Rattle.lv_search_guide.proofs.look.look.Goals as goal

pub returns-in-Some : goal.returns-in-Some
returns-in-Some c = IfOk-weaker c.look_at.result _ _ (λ looked told. told c.args.problem.now.grid.now c.args.under (rw c.in-Some.is at c.in_ok-member.ensures) (search rules)) c.look_at.ensures
