use Rattle.lv_window.proofs.TrajectoryLemmas.{trajectories_rise, trajectory_listed, trajectory_is}
use Rattle.lv_window.proofs.laws.trajectories_are_all.Goals as goal

pub returns : goal.returns
returns c = record { rise = λ plant steps tracked. trajectories_rise plant steps tracked; listed = λ plant steps tracked r h. trajectory_listed plant steps tracked r h; are = λ plant steps tracked r h. trajectory_is plant steps tracked r h }
