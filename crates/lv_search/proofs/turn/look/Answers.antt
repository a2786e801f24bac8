-- with k listed, or with none left, the walk ends settled
use Rattle.std.proofs.Common.{length, sym, ◌∙◌}
use Rattle.std.proofs.lemmas.Bool.{eqb-true}
use Rattle.lv_search.specs.Turn.{standing}
use Rattle.lv_search.proofs.NextLemmas.{is_full, none_left}
use Rattle.lv_search.proofs.turn.look.Goals as goal

pub returns-then-is_full : goal.returns-then-is_full
returns-then-is_full g c =
    is_full (standing (g.F.Frontier.left c.args.frontier.now) c.args.held.now) c.args.budget
    (eqb-true (length c.args.held.now.listed) c.args.held.now.k (sym c.is_full.ensures ∙ c.if-is_full.true))

pub returns-in-None : goal.returns-in-None
returns-in-None g c =
    none_left (standing (g.F.Frontier.left c.args.frontier.now) c.args.held.now) c.args.budget (sym c.in_ok-rank.ensures ∙ c.in-None.is)
