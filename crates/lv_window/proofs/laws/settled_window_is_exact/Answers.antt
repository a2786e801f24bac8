use Rattle.std.proofs.Common.{length}
use Rattle.lv_window.specs.Trajectories.{trajectories}
use Rattle.lv_window.proofs.PossibleLemmas.{window_exact}
use Rattle.lv_window.proofs.laws.settled_window_is_exact.Goals as goal

pub returns : goal.returns
returns c = λ plant steps k budget tracked settled. window_exact plant steps k budget (trajectories plant (length steps) tracked) settled
