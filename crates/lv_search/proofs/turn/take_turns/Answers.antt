-- each turn follows the one before, and the last one ends the walk
use Rattle.lv_search.specs.Turn.{standing}
use Rattle.lv_search.proofs.FollowLemmas.{follows_itself, suit_now, goes_on_after, ends_after}
use Rattle.std.proofs.Common.{refl, sym, subst, ◌∙◌, ◌≤◌}
use Rattle.lv_search.specs.Standing.{Standing, Follows, trials_of}
use Rattle.lv_search.proofs.turn.take_turns.Goals as goal

pub turns-init : goal.turns-init
turns-init g c =
    record {
      same = refl;
      follows = follows_itself (g.T.Trial.suits c.args.trial.now) (g.T.Trial.fits c.args.trial.now) (g.T.Trial.reason c.args.trial.now) (standing (g.F.Frontier.left c.args.frontier.now) c.args.held.now);
      few = c.requires.few;
    }

pub take_turn-requires-clause-suit : goal.take_turn-requires-clause-suit
take_turn-requires-clause-suit g c =
    suit_now g.T.Trial.suits g.T.Trial.fits g.T.Trial.reason c.args.trial.now c.turns.trial c.turns.invariant.same
    (standing (g.F.Frontier.left c.args.frontier.now) c.args.held.now) (standing (g.F.Frontier.left c.turns.frontier) c.turns.held) c.turns.invariant.follows c.requires.suit

pub take_turn-requires-clause-few : goal.take_turn-requires-clause-few
take_turn-requires-clause-few g c = c.turns.invariant.few

pub returns-in_err-take_turn-clause-same : goal.returns-in_err-take_turn-clause-same
returns-in_err-take_turn-clause-same g c =
    c.in_err-take_turn.ensures.same ∙ c.turns.invariant.same

pub turns-smaller : goal.turns-smaller
turns-smaller g c = (rw c.in-GoesOn.is at c.in_ok-take_turn.ensures.told).nearer

pub turns-preserved : goal.turns-preserved
turns-preserved g c =
    record {
      same = c.in_ok-take_turn.ensures.same ∙ c.turns.invariant.same;
      follows =
          goes_on_after g.T.Trial.suits g.T.Trial.fits g.T.Trial.reason c.args.trial.now c.turns.trial c.turns.invariant.same c.args.budget
          (standing (g.F.Frontier.left c.args.frontier.now) c.args.held.now) (standing (g.F.Frontier.left c.turns.frontier) c.turns.held)
          (standing (g.F.Frontier.left c.take_turn.new.frontier) c.take_turn.new.held) c.turns.invariant.follows (rw c.in-GoesOn.is at c.in_ok-take_turn.ensures.told);
      few = (rw c.in-GoesOn.is at c.in_ok-take_turn.ensures.told).few;
    }

pub returns-in-Ends-clause-same : goal.returns-in-Ends-clause-same
returns-in-Ends-clause-same g c =
    c.in_ok-take_turn.ensures.same ∙ c.turns.invariant.same

pub returns-in-Ends-clause-follows : goal.returns-in-Ends-clause-follows
returns-in-Ends-clause-follows g c =
    subst (λ (s : Standing). Follows (g.T.Trial.suits c.args.trial.now) (g.T.Trial.fits c.args.trial.now) (g.T.Trial.reason c.args.trial.now) (standing (g.F.Frontier.left c.args.frontier.now) c.args.held.now) s)
    (sym (rw c.in-Ends.is at c.in_ok-take_turn.ensures.told).0) c.turns.invariant.follows

pub returns-in-Ends-clause-ends : goal.returns-in-Ends-clause-ends
returns-in-Ends-clause-ends g c =
    ends_after g.T.Trial.suits g.T.Trial.fits g.T.Trial.reason c.args.trial.now c.turns.trial c.turns.invariant.same c.in-Ends.outcome c.args.budget
    (standing (g.F.Frontier.left c.args.frontier.now) c.args.held.now) (standing (g.F.Frontier.left c.turns.frontier) c.turns.held)
    (standing (g.F.Frontier.left c.take_turn.new.frontier) c.take_turn.new.held) c.turns.invariant.follows c.turns.invariant.few (rw c.in-Ends.is at c.in_ok-take_turn.ensures.told).1

pub returns-in-Ends-clause-few : goal.returns-in-Ends-clause-few
returns-in-Ends-clause-few g c =
    subst (λ (s : Standing). trials_of s ≤ c.args.budget) (sym (rw c.in-Ends.is at c.in_ok-take_turn.ensures.told).0) c.turns.invariant.few
