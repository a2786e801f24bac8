-- Room for all commits that are kept.
use Rattle.std.specs.Prelude.{ℕ, ◌≤◌}
use Rattle.lv_session_history.specs.declared.history.TheConstants.{HISTORY}

-- there are no more than are kept, and there is room for as many
pub record IsRoomy (many capacity : ℕ) : Type 0 where
  pub few : many ≤ HISTORY
  pub room : HISTORY ≤ capacity
