-- a settled walk lists the first that fit, since the trial's reasons are sound
use Rattle.std.proofs.Common.{◌+◌, ap, arith}
use Rattle.std.proofs.lemmas.Result.{IfOk-weaker}
use Rattle.lv_search.specs.Turn.{standing}
use Rattle.lv_search.proofs.RunLemmas.{lists_first}
use Rattle.lv_search.proofs.search.Search.run.Goals as goal

pub returns-clause-first : goal.returns-clause-first
returns-clause-first g c entries way suit =
    let asked = c.trials.ensures in
    IfOk-weaker c.take_turns.result _ _
    (λ outcome ends. lists_first (g.T.Trial.suits c.args.trial.now) (g.T.Trial.fits c.args.trial.now) (g.T.Trial.reason c.args.trial.now)
    (record { apart = g.met.T.Trial.is_apart c.args.trial.now })
    (standing (g.F.Frontier.left c.self.inside.frontier) c.self.inside.held) c.args.self.now.standing (standing (g.F.Frontier.left c.take_turns.new.frontier) c.take_turns.new.held) entries
    (c.trials.result + c.args.more) outcome (ap (λ v. v.standing) c.self.view_is) (omega (arith, asked)) way suit ends)
    c.take_turns.ensures.ends
