-- The first states of a list are tracked states where the list's are.
use Rattle.std.proofs.Common.{◌≡◌, ◌≤◌, ℕ, List, [], ◌∷◌, length, filter, map, All, refl, sym, subst, arith}
use Rattle.std.proofs.lemmas.List.Elements.{All-filter, All-cons, All-head, All-tail, All-nil}
use Rattle.std.proofs.lemmas.List.Sums.{length-filter, count_by-le-length}
use Rattle.lv_base.specs.declared.limits.TheConstants.{TRACKED}
use Rattle.lv_base.specs.declared.rank.Rank.{Rank}
use Rattle.lv_model.specs.declared.plant.Plant.{Plant}
use Rattle.lv_model.specs.declared.plant.ComponentType.{ComponentType}
use Rattle.lv_model.specs.declared.plant.Part.{Part}
use Rattle.lv_model.specs.declared.state.TrackedState.{TrackedState}
use Rattle.lv_tracker.specs.Distinct.{differs, first_of_each}
use Rattle.lv_meaning.specs.Targets.{target_modes}
use Rattle.lv_tracker.specs.Targets.{target_state, HasMoves}
use Rattle.lv_tracker.specs.Tracked.{AreTracked, IsWithinCost, IsCheap, HasModes}
use Rattle.lv_tracker.proofs.FirstLemmas.{first_are_distinct}

pub first_all : (P : TrackedState → Type 0) (ss : List TrackedState) → All P ss → All P (first_of_each ss)
first_all P [] all = All-nil P
first_all P (s ∷ ss) all =
    All-cons P s (filter (differs s) (first_of_each ss)) (All-head P s ss all)
    (All-filter (differs s) P (first_of_each ss) (first_all P ss (All-tail P s ss all)))

first_few : (ss : List TrackedState) → length (first_of_each ss) ≤ length ss
first_few [] = omega arith
first_few (s ∷ ss) =
    let kept : length (filter (differs s) (first_of_each ss)) ≤ length (first_of_each ss) =
    subst (λ n. n ≤ length (first_of_each ss)) (sym (length-filter (differs s) (first_of_each ss))) (count_by-le-length (differs s) (first_of_each ss))
    in
    let rest : length (first_of_each ss) ≤ length ss = first_few ss in
    omega arith

first_some : (ss : List TrackedState) → 1 ≤ length ss → 1 ≤ length (first_of_each ss)
first_some [] some = absurd (omega arith)
first_some (s ∷ ss) some = omega arith

pub first_are_tracked : (ss : List TrackedState) → 1 ≤ length ss → length ss ≤ TRACKED → All IsWithinCost ss → AreTracked (first_of_each ss)
first_are_tracked ss some few costs =
    record {
      some = first_some ss some;
      few = (let kept : length (first_of_each ss) ≤ length ss = first_few ss in omega arith);
      distinct = first_are_distinct ss;
      costs = first_all IsWithinCost ss costs;
    }

-- what candidates of these lead to

all_map : {X Y : Type 0} (P : X → Type 0) (Q : Y → Type 0) (f : X → Y) → ((x : X) → P x → Q (f x)) → (xs : List X) → All P xs → All Q (map f xs)
all_map P Q f so [] all = All-nil Q
all_map P Q f so (x ∷ xs) all = All-cons Q (f x) (map f xs) (so x (All-head P x xs all)) (all_map P Q f so xs (All-tail P x xs all))

pub targets_are_cheap : (plant : Plant) (listed : List Rank) → All IsCheap listed → All IsWithinCost (map (target_state plant) listed)
targets_are_cheap plant = all_map IsCheap IsWithinCost (target_state plant) (λ r h. record { cost = h.cost })

mode_for_each : (types : List ComponentType) (parts : List Part) (moves : List ℕ) → length moves ≡ length parts → length (target_modes types parts moves) ≡ length parts
mode_for_each types [] moves e = refl
mode_for_each types (p ∷ ps) [] e = absurd (omega arith)
mode_for_each types (p ∷ ps) (n ∷ ns) e = let rest = mode_for_each types ps ns (omega arith) in omega arith

pub targets_have_modes : (plant : Plant) (listed : List Rank) → All (HasMoves (length plant.parts)) listed → All (HasModes (length plant.parts)) (first_of_each (map (target_state plant) listed))
targets_have_modes plant listed all =
    first_all (HasModes (length plant.parts)) (map (target_state plant) listed)
    (all_map (HasMoves (length plant.parts)) (HasModes (length plant.parts)) (target_state plant) (λ r h. record { modes = mode_for_each plant.types plant.parts r.choices h.moves }) listed all)
