-- where the search stands follows from where it began
use Rattle.std.proofs.Common.{◌≡◌, ◌≤◌}
use Rattle.lv_search.specs.Standing.{Follows, trials_of}
use Rattle.lv_search.specs.Turn.{standing, turns_left}
use Rattle.lv_search.proofs.turn.take_turns.Given as goal

abbrev pub invariant-turns : goal.invariant-turns
invariant-turns g l =
    record {
      same : l.trial ≡ l.fn.trial;
      follows : Follows (g.T.Trial.suits l.fn.trial) (g.T.Trial.fits l.fn.trial) (g.T.Trial.reason l.fn.trial) (standing (g.F.Frontier.left l.fn.frontier) l.fn.held) (standing (g.F.Frontier.left l.frontier) l.held);
      few : trials_of (standing (g.F.Frontier.left l.frontier) l.held) ≤ l.budget;
    }

abbrev pub decreases-turns : goal.decreases-turns
decreases-turns g l = turns_left l.budget (standing (g.F.Frontier.left l.frontier) l.held)
