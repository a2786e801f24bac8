use Rattle.lv_window.proofs.ZoneLemmas.{zones_have_trajectories, window_zones_differ, trajectories_are_full}
use Rattle.lv_window.proofs.laws.zones_hold_the_trajectories.Goals as goal

pub returns : goal.returns
returns c =
    record {
      same = λ plant h later tracked. zones_have_trajectories plant h later tracked;
      differ = λ plant later tracked. window_zones_differ plant later 0 tracked;
      full = λ plant steps tracked. trajectories_are_full plant steps tracked;
    }
