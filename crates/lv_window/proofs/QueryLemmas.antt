-- A query is on the walk of the window.
use Rattle.std.proofs.Common.{◌≡◌, ℕ, suc, ◌+◌, Bool, true, List, [], length, refl, sym, subst, ap, ◌∙◌, arith, Result, Ok, Err}
use Rattle.std.specs.Prelude.{None}
use Rattle.std.specs.Result.{IfOk}
use Rattle.lv_base.specs.declared.rank.Rank.{Rank}
use Rattle.lv_base.specs.declared.ids.Cost.{Cost}
use Rattle.lv_base.specs.declared.search.Pair.{Pair}
use Rattle.lv_base.specs.declared.search.Candidate.{Candidate}
use Rattle.lv_boxes.specs.Members.{ZoneValue}
use Rattle.lv_boxes.specs.RankedMembers.{ranked_members, sources_differ}
use Rattle.lv_model.specs.declared.plant.Plant.{Plant}
use Rattle.lv_model.specs.declared.state.TrackedState.{TrackedState}
use Rattle.lv_model.specs.WellFormed.{is_well_formed}
use Rattle.lv_meaning.specs.declared.facts.Facts.{Facts}
use Rattle.lv_search.specs.Standing.{Standing, IsUnderWay}
use Rattle.lv_search.specs.Free.{free_of}
use Rattle.lv_window.specs.Trajectories.{trajectories}
use Rattle.lv_window.specs.Possible.{is_possible_trajectory}
use Rattle.lv_window.specs.Walk.{window_reason}
use Rattle.lv_window.specs.Joints.{window_slots, window_zones, joints, is_full_window}
use Rattle.lv_window.proofs.ZoneLemmas.{zones_have_trajectories, window_zones_differ, trajectories_are_full}
use Rattle.lv_window.specs.Query.{WindowQueryValue, IsWindowQueryOf}

-- where a search of this many trajectories begins
abbrev pub start : ℕ → List Rank → Standing
start k entries = record { k = k; groups = None; listed = []; kept = []; left = entries }

-- the zones' members without a joint are the trajectories
pub search_is : (plant : Plant) → is_well_formed plant ≡ true → (tracked : List TrackedState) (steps later : ℕ) → steps ≡ later + 1 → (grid : List (List Cost)) → grid ≡ window_slots plant steps
    → (zones : List ZoneValue) → zones ≡ window_zones plant later 0 tracked → (known : List (List Pair)) → known ≡ joints plant later → free_of known (ranked_members grid zones) ≡ trajectories plant steps tracked
search_is plant h tracked steps later same grid grid_is zones zones_are known known_are =
    let one : steps ≡ suc later = omega (arith, same) in
    (λ i. free_of (known_are i) (ranked_members (grid_is i) (zones_are i)))
    ∙ ap (λ (n : ℕ). free_of (joints plant later) (ranked_members (window_slots plant n) (window_zones plant later 0 tracked))) one
    ∙ zones_have_trajectories plant h later tracked
    ∙ ap (λ (n : ℕ). trajectories plant n tracked) (sym one)

pub zones_apart : (plant : Plant) (later : ℕ) (tracked : List TrackedState) (zones : List ZoneValue) → zones ≡ window_zones plant later 0 tracked → sources_differ zones ≡ true
zones_apart plant later tracked zones are = ap sources_differ are ∙ window_zones_differ plant later 0 tracked

started : (suits fits : Candidate → Bool) (reason : Candidate → List Pair) (k : ℕ) (entries : List Rank) → IsUnderWay suits fits reason entries (start k entries)
started suits fits reason k entries = record { walk = λ budget few. refl; trials = omega arith; k = refl; groups = refl; suit = λ suit. suit }

pub start_is : (plant : Plant) (steps : List Facts) (tracked : List TrackedState) (k : ℕ) (s : Standing) → s ≡ start k (trajectories plant (length steps) tracked)
    → (q : WindowQueryValue) → q ≡ record { plant = plant; steps = steps; standing = s } → q ≡ record { plant = plant; steps = steps; standing = start k (trajectories plant (length steps) tracked) }
start_is plant steps tracked k s is q made = made ∙ ap (λ (t : Standing). record { plant = plant; steps = steps; standing = t }) is

-- a query that has tried nothing
pub start_is_query : (plant : Plant) (steps : List Facts) (tracked : List TrackedState) (k : ℕ) (q : WindowQueryValue)
    → q ≡ record { plant = plant; steps = steps; standing = start k (trajectories plant (length steps) tracked) } → IsWindowQueryOf tracked q
start_is_query plant steps tracked k q is =
    subst (λ (v : WindowQueryValue). IsWindowQueryOf tracked v) (sym is)
    (record {
      under_way = started (is_full_window plant (length steps)) (is_possible_trajectory plant steps) (window_reason plant steps) k (trajectories plant (length steps) tracked);
      suit = trajectories_are_full plant (length steps) tracked;
      groups = refl;
    })

-- what three facts about a result's value say together
pub of_three : {X Y : Type 0} (r : Result X Y) (P Q R S : X → Type 0) → ((x : X) → P x → Q x → R x → S x) → IfOk r P → IfOk r Q → IfOk r R → IfOk r S
of_three (Ok x) P Q R S f p q t = f x p q t
of_three (Err e) P Q R S f p q t = tt
