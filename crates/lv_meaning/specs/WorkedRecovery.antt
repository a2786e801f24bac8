-- A worked example: the valve that is closed, or stuck at a higher cost, and the aim that something flows.
use Rattle.std.specs.Prelude.{◌≡◌, ℕ, false, List, [], ◌∷◌}
use Rattle.lv_base.specs.declared.rank.Rank.{Rank}
use Rattle.lv_base.specs.declared.search.Pair.{Pair}
use Rattle.lv_base.specs.Tree.{is}
use Rattle.lv_model.specs.declared.state.TrackedState.{TrackedState}
use Rattle.lv_boxes.specs.declared.outcome.Outcome.TheVariants.{Settled, Unsettled}
use Rattle.lv_meaning.specs.WorkedValve.{plant}
use Rattle.lv_meaning.specs.declared.aim.Aim.{Aim}
use Rattle.lv_meaning.specs.Recovers.{recovers}
use Rattle.lv_meaning.specs.Commands.{command_sets}
use Rattle.lv_meaning.specs.Recovery.{recovery_walk}

abbrev pub in_mode : ℕ → ℕ → TrackedState
in_mode mode cost = record { state = record { modes = record { 0 = mode } ∷ [] }; cost = record { 0 = cost } }

abbrev pub closed : TrackedState
closed = in_mode 0 0

abbrev pub stuck : TrackedState
stuck = in_mode 2 5

-- from these states something is to flow
abbrev pub flowing : List TrackedState → Aim
flowing tracked = record { tracked = tracked; present = []; goals = is 2 1 ∷ [] }

abbrev pub command : ℕ → Rank
command v = record { cost = record { 0 = v }; source = 0; choices = v ∷ [] }

abbrev pub pair : ℕ → Pair
pair v = record { slot = 0; choice = v }

-- commanded to open the closed valve lets something flow; nothing helps where it may be stuck
pub record RecoveryExample : Type 0 where
  pub all : command_sets plant ≡ command 0 ∷ command 1 ∷ []
  pub idle : recovers plant (flowing (closed ∷ [])) (0 ∷ []) ≡ false
  pub opened : recovery_walk plant (flowing (closed ∷ [])) 2 ≡ record { outcome = Settled; listed = command 1 ∷ []; kept = (pair 0 ∷ []) ∷ [] }
  pub used_up : recovery_walk plant (flowing (closed ∷ [])) 1 ≡ record { outcome = Unsettled; listed = []; kept = (pair 0 ∷ []) ∷ [] }
  pub either : recovery_walk plant (flowing (closed ∷ stuck ∷ [])) 2 ≡ record { outcome = Settled; listed = []; kept = (pair 0 ∷ []) ∷ [] ∷ [] }
  pub stuck_first : recovery_walk plant (flowing (stuck ∷ closed ∷ [])) 1 ≡ record { outcome = Settled; listed = []; kept = [] ∷ [] }
