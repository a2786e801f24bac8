-- A worked example: a valve that is closed is told to open; after the next step something flows out, and nothing else was seen. It opened
-- and stayed so, at no cost; or it opened and got stuck then; or it got stuck open at once. Of its second moves the others aren't possible.
use Rattle.std.specs.Prelude.{◌≡◌, ℕ, List, [], ◌∷◌}
use Rattle.lv_base.specs.declared.rank.Rank.{Rank}
use Rattle.lv_base.specs.declared.search.Pair.{Pair}
use Rattle.lv_model.specs.declared.state.TrackedState.{TrackedState}
use Rattle.lv_compile.specs.Valve.{valve}
use Rattle.lv_boxes.specs.declared.outcome.Outcome.TheVariants.{Settled}
use Rattle.lv_meaning.specs.declared.facts.Facts.{Facts}
use Rattle.lv_window.specs.Trajectories.{trajectories}
use Rattle.lv_window.specs.Walk.{window_walk}

abbrev pub closed : List TrackedState
closed = record { state = record { modes = record { 0 = 0 } ∷ [] }; cost = record { 0 = 0 } } ∷ []

-- the command to open, then none; after both, something flows out
abbrev pub steps : List Facts
steps =
    record { controls = record { 0 = 1 } ∷ []; present = []; next = [] }
    ∷ record { controls = record { 0 = 0 } ∷ []; present = []; next = record { var = record { 0 = 3 }; val = record { 0 = 1 } } ∷ [] }
    ∷ []

-- by these two moves from the first state, at this cost
abbrev pub by_moves : ℕ → ℕ → ℕ → Rank
by_moves cost one two = record { cost = record { 0 = cost }; source = 0; choices = one ∷ two ∷ [] }

-- the second move alone
abbrev pub second : ℕ → List Pair
second n = record { slot = 1; choice = n } ∷ []

abbrev pub WorkedWindow : Type 0
WorkedWindow =
    window_walk valve steps 4 10000 (trajectories valve 2 closed)
    ≡ record {
      outcome = Settled;
      listed = by_moves 0 0 5 ∷ by_moves 5 0 6 ∷ by_moves 8 3 9 ∷ [];
      kept = second 4 ∷ second 0 ∷ second 1 ∷ second 2 ∷ second 8 ∷ second 7 ∷ second 3 ∷ [];
    }
