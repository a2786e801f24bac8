-- each way to go on leaves the walk as it was
use Rattle.std.proofs.Common.{refl}
use Rattle.lv_search.specs.Turn.{standing}
use Rattle.lv_search.proofs.FollowLemmas.{thinned_goes_on, repeated_goes_on, tried_goes_on, first_suits}
use Rattle.lv_search.proofs.turn.take_turn.Goals as goal

pub try_first-requires-clause-suits : goal.try_first-requires-clause-suits
try_first-requires-clause-suits g c =
    first_suits (g.T.Trial.suits c.args.trial.now) (g.T.Trial.fits c.args.trial.now) (g.T.Trial.reason c.args.trial.now)
    (standing (g.F.Frontier.left c.args.frontier.now) c.args.held.now) c.in-Try.rank c.in-Try.candidate c.args.budget (rw c.in-Try.is at c.in_ok-outcome.ensures) c.requires.suit

pub returns-in_ok-pass_over-in-PassOver-clause-told :
    goal.returns-in_ok-pass_over-in-PassOver-clause-told
returns-in_ok-pass_over-in-PassOver-clause-told g c =
    thinned_goes_on (g.T.Trial.suits c.args.trial.now) (g.T.Trial.fits c.args.trial.now) (g.T.Trial.reason c.args.trial.now) c.args.budget
    (standing (g.F.Frontier.left c.args.frontier.now) c.args.held.now) c.requires.few c.in-PassOver.number (g.F.Frontier.left c.pass_over.new.frontier)
    (standing (g.F.Frontier.left c.pass_over.new.frontier) c.args.held.now)
    (rw c.in-PassOver.is at c.in_ok-outcome.ensures)
    c.in_ok-pass_over-in-PassOver.ensures
    refl

pub returns-in_ok-try_first-in-Try-clause-told : goal.returns-in_ok-try_first-in-Try-clause-told
returns-in_ok-try_first-in-Try-clause-told g c =
    let suit = first_suits (g.T.Trial.suits c.args.trial.now) (g.T.Trial.fits c.args.trial.now) (g.T.Trial.reason c.args.trial.now)
    (standing (g.F.Frontier.left c.args.frontier.now) c.args.held.now) c.in-Try.rank c.in-Try.candidate c.args.budget (rw c.in-Try.is at c.in_ok-outcome.ensures) c.requires.suit
    in
    tried_goes_on (g.T.Trial.suits c.args.trial.now) (g.T.Trial.fits c.args.trial.now) (g.T.Trial.reason c.args.trial.now) c.args.budget
    (standing (g.F.Frontier.left c.args.frontier.now) c.args.held.now) c.requires.few c.in-Try.rank c.in-Try.candidate
    (rw c.in-Try.is at c.in_ok-outcome.ensures)
    (standing (g.F.Frontier.left c.try_first.new.frontier) c.try_first.new.held)
    c.in_ok-try_first-in-Try.ensures.fits
    c.in_ok-try_first-in-Try.ensures.refused
    (λ e. g.met.T.Trial.is_inside c.args.trial.now c.in-Try.candidate suit e)

pub returns-in_ok-leave_out-in-Repeat-clause-told : goal.returns-in_ok-leave_out-in-Repeat-clause-told
returns-in_ok-leave_out-in-Repeat-clause-told g c =
    repeated_goes_on (g.T.Trial.suits c.args.trial.now) (g.T.Trial.fits c.args.trial.now) (g.T.Trial.reason c.args.trial.now) c.args.budget
    (standing (g.F.Frontier.left c.args.frontier.now) c.args.held.now) c.requires.few (g.F.Frontier.left c.leave_out.new.frontier)
    (standing (g.F.Frontier.left c.leave_out.new.frontier) c.args.held.now)
    (rw c.in-Repeat.is at c.in_ok-outcome.ensures)
    c.in_ok-leave_out-in-Repeat.ensures
    refl
