-- Choices contain no joint exactly where each part's move goes from where the one before it led.
use Rattle.std.proofs.Common.{◌≡◌, ◌+◌, ◌<◌, ℕ, zero, suc, Bool, true, false, not, nat_eq, nat_lt, ◌&&◌, ◌||◌, List, [], ◌∷◌, ◌++◌, length, map, cond, get_or, slice_get, Option, Some, None, refl, sym, subst, ap, ap₂, ◌∙◌, arith}
use Rattle.std.specs.Option.{option_map_or}
use Rattle.std.proofs.lemmas.Bool.{and_parts, ltb-true}
use Rattle.std.proofs.lemmas.List.Folds.{list_any-append}
use Rattle.lv_base.specs.declared.search.Pair.{Pair}
use Rattle.lv_base.specs.Choices.{picks, contains_all}
use Rattle.lv_model.specs.declared.plant.ComponentType.{ComponentType}
use Rattle.lv_model.specs.declared.plant.Part.{Part}
use Rattle.lv_model.specs.declared.plant.Move.{Move}
use Rattle.lv_model.specs.Lists.{part_moves}
use Rattle.lv_boxes.specs.Walk.{is_ruled_out}
use Rattle.lv_meaning.specs.Candidates.{type_moves}
use Rattle.lv_meaning.specs.CandidateLaws.{goes_from, are_moves}
use Rattle.lv_meaning.specs.PossibleLaws.{are_below}
use Rattle.lv_meaning.specs.Targets.{target_mode, target_modes}
use Rattle.lv_window.specs.Joints.{breaks, breaks_of, joints_of, part_joints}

module _ (choices : List ℕ) where
  -- the choice of a slot
  pub record IsAt (slot c : ℕ) : Type 0 where
    pub picks_it : (x : ℕ) → picks choices (record { slot = slot; choice = x }) ≡ nat_eq c x

  abbrev ruled : List (List Pair) → Bool
  ruled conflicts = is_ruled_out conflicts choices

  pub ruled_both : (xs ys : List (List Pair)) → ruled (xs ++ ys) ≡ (ruled xs || ruled ys)
  ruled_both xs ys = list_any-append (contains_all choices) xs ys

  -- two neighbouring slots of a part
  module _ (slot behind c d : ℕ) (here : IsAt slot c) (there : IsAt behind d) where
    -- whether the move behind, where these are the moves from the k-th on, doesn't go from where this one led
    abbrev misses : Move → ℕ → List Move → Bool
    misses m k [] = false
    misses m k (l ∷ ls) = cond (nat_eq d k) (not (nat_eq l.source.0 m.target.0)) (misses m (k + 1) ls)

    none_behind : (m : Move) (k : ℕ) (ls : List Move) → d < k → misses m k ls ≡ false
    none_behind m k [] less = refl
    none_behind m k (l ∷ ls) less =
        let other : nat_eq d k ≡ false = grind (arith, less) in
        ap (λ b. cond b (not (nat_eq l.source.0 m.target.0)) (misses m (k + 1) ls)) other ∙ none_behind m (k + 1) ls (omega (arith, less))

    breaks_ruled : (n k : ℕ) (m : Move) (ls : List Move) → ruled (breaks_of slot behind n m k ls) ≡ (nat_eq c n && misses m k ls)
    breaks_ruled n k m [] = sym (never (nat_eq c n))
      where
        never : (b : Bool) → (b && false) ≡ false
        never true = refl
        never false = refl
    breaks_ruled n k m (l ∷ ls) =
        ruled_both (breaks slot behind n m k l) (breaks_of slot behind n m (k + 1) ls)
        ∙ ap (λ b. b || ruled (breaks_of slot behind n m (k + 1) ls)) (own (nat_eq l.source.0 m.target.0))
        ∙ both (nat_eq l.source.0 m.target.0) (nat_eq d k) (nat_eq c n) (ruled (breaks_of slot behind n m (k + 1) ls)) (misses m (k + 1) ls)
        (λ e. let same : d ≡ k = grind (arith, e) in none_behind m (k + 1) ls (omega (arith, same))) (breaks_ruled n (k + 1) m ls)
      where
        own : (t : Bool) → ruled (cond t [] ((record { slot = slot; choice = n } ∷ record { slot = behind; choice = k } ∷ []) ∷ [])) ≡ cond t false ((nat_eq c n && (nat_eq d k && true)) || false)
        own true = refl
        own false = λ i. (here.picks_it n i && (there.picks_it k i && true)) || false

        both : (t e cn r a : Bool) → (e ≡ true → a ≡ false) → r ≡ (cn && a) → (cond t false ((cn && (e && true)) || false) || r) ≡ (cn && cond e (not t) a)
        both true true cn r a none is = is ∙ ap (λ b. cn && b) (none refl)
        both true false cn r a none is = is
        both false true true r a none is = refl
        both false true false r a none is = is
        both false false true r a none is = is
        both false false false r a none is = is

    -- whether the chosen move, where these are the moves from the n-th on, leads elsewhere than where the one behind begins
    abbrev strays : ℕ → List Move → List Move → Bool
    strays n [] all = false
    strays n (m ∷ ms) all = cond (nat_eq c n) (misses m 0 all) (strays (n + 1) ms all)

    none_ahead : (n : ℕ) (ms all : List Move) → c < n → strays n ms all ≡ false
    none_ahead n [] all less = refl
    none_ahead n (m ∷ ms) all less =
        let other : nat_eq c n ≡ false = grind (arith, less) in
        ap (λ b. cond b (misses m 0 all) (strays (n + 1) ms all)) other ∙ none_ahead (n + 1) ms all (omega (arith, less))

    joints_ruled : (n : ℕ) (ms all : List Move) → ruled (joints_of slot behind n ms all) ≡ strays n ms all
    joints_ruled n [] all = refl
    joints_ruled n (m ∷ ms) all =
        ruled_both (breaks_of slot behind n m 0 all) (joints_of slot behind (n + 1) ms all)
        ∙ ap₂ (λ a b. a || b) (breaks_ruled n 0 m all) (joints_ruled (n + 1) ms all)
        ∙ either (nat_eq c n) (misses m 0 all) (strays (n + 1) ms all) (λ e. let same : c ≡ n = grind (arith, e) in none_ahead (n + 1) ms all (omega (arith, same)))
      where
        either : (e a r : Bool) → (e ≡ true → r ≡ false) → ((e && a) || r) ≡ cond e a r
        either true true r none = refl
        either true false r none = none refl
        either false a r none = refl

    misses_at : (m : Move) (k i : ℕ) (ls : List Move) → d ≡ k + i → i < length ls → misses m k ls ≡ not (goes_from ls m.target.0 i)
    misses_at m k i [] is inside = absurd (omega (arith, inside))
    misses_at m k zero (l ∷ ls) is inside =
        let own : nat_eq d k ≡ true = grind (arith, is) in
        ap (λ b. cond b (not (nat_eq l.source.0 m.target.0)) (misses m (k + 1) ls)) own
    misses_at m k (suc i) (l ∷ ls) is inside =
        let other : nat_eq d k ≡ false = grind (arith, is) in
        ap (λ b. cond b (not (nat_eq l.source.0 m.target.0)) (misses m (k + 1) ls)) other ∙ misses_at m (k + 1) i ls (omega (arith, is)) (omega (arith, inside))

    strays_at : (n i : ℕ) (ms all : List Move) (m : Move) → c ≡ n + i → slice_get ms i ≡ Some m → strays n ms all ≡ misses m 0 all
    strays_at n i [] all m is at = absurd (cc at)
    strays_at n zero (l ∷ ms) all m is at =
        let own : nat_eq c n ≡ true = grind (arith, is) in
        let same : l ≡ m = cc at in
        ap (λ b. cond b (misses l 0 all) (strays (n + 1) ms all)) own ∙ ap (λ (x : Move). misses x 0 all) same
    strays_at n (suc i) (l ∷ ms) all m is at =
        let other : nat_eq c n ≡ false = grind (arith, is) in
        ap (λ b. cond b (misses l 0 all) (strays (n + 1) ms all)) other ∙ strays_at (n + 1) i ms all m (omega (arith, is)) at

    pub joint_ruled : (ms : List Move) (m : Move) → slice_get ms c ≡ Some m → d < length ms → ruled (joints_of slot behind 0 ms ms) ≡ not (goes_from ms m.target.0 d)
    joint_ruled ms m at inside = joints_ruled 0 ms ms ∙ strays_at 0 c ms ms m (omega arith) at ∙ misses_at m 0 d ms (omega arith) inside

  -- the choices of slots in a row
  pub record AreAt (slot : ℕ) (cs : List ℕ) : Type 0 where
    pub each : (i : ℕ) → i < length cs → IsAt (slot + i) (get_or cs i 0)

  pub at_first : (slot c : ℕ) (cs : List ℕ) → AreAt slot (c ∷ cs) → IsAt slot c
  at_first slot c cs at = let none : slot + 0 ≡ slot = omega arith in subst (λ k. IsAt k c) none (at.each 0 (omega arith))

  at_rest : (slot c : ℕ) (cs : List ℕ) → AreAt slot (c ∷ cs) → AreAt (slot + 1) cs
  at_rest slot c cs at =
      record { each = λ i inside. let same : slot + suc i ≡ slot + 1 + i = omega arith in subst (λ k. IsAt k (get_or cs i 0)) same (at.each (suc i) (omega (arith, inside))) }

record Found (ms : List Move) (n : ℕ) : Type 0 where
  pub move : Move
  pub at : slice_get ms n ≡ Some move

found : (ms : List Move) (n : ℕ) → n < length ms → Found ms n
found [] n below = absurd (omega (arith, below))
found (m ∷ ms) zero below = record { move = m; at = refl }
found (m ∷ ms) (suc n) below = let rest : Found ms n = found ms n (omega (arith, below)) in record { move = rest.move; at = rest.at }

moves_many : (types : List ComponentType) (p : Part) → part_moves types p ≡ length (type_moves types p)
moves_many types p = by (slice_get types p.kind)
  where
    by : (o : Option ComponentType) → option_map_or (λ (t : ComponentType). length t.moves) o 0 ≡ length (option_map_or (λ (t : ComponentType). t.moves) o [])
    by None = refl
    by (Some t) = refl

-- the target of a move that is there
target_is : (types : List ComponentType) (p : Part) (n : ℕ) (m : Move) → slice_get (type_moves types p) n ≡ Some m → (target_mode types p n).0 ≡ m.target.0
target_is types p n m at = by (slice_get types p.kind) refl at
  where
    by : (o : Option ComponentType) → slice_get types p.kind ≡ o → slice_get (option_map_or (λ (t : ComponentType). t.moves) o []) n ≡ Some m → (target_mode types p n).0 ≡ m.target.0
    by None kind there = absurd (cc there)
    by (Some t) kind there = rw (kind, there) refl

pub parts_ruled : (types : List ComponentType) (choices : List ℕ) (ps : List Part) (slot behind : ℕ) (cs ds : List ℕ)
    → are_below (map (part_moves types) ps) cs ≡ true → are_below (map (part_moves types) ps) ds ≡ true → AreAt choices slot cs → AreAt choices behind ds
    → is_ruled_out (part_joints types slot behind ps) choices ≡ not (are_moves types ps (target_modes types ps cs) ds)
parts_ruled types choices [] slot behind [] [] below also here there = refl
parts_ruled types choices [] slot behind [] (d ∷ ds) below also here there = absurd (cc also)
parts_ruled types choices [] slot behind (c ∷ cs) ds below also here there = absurd (cc below)
parts_ruled types choices (p ∷ ps) slot behind [] ds below also here there = absurd (cc below)
parts_ruled types choices (p ∷ ps) slot behind (c ∷ cs) [] below also here there = absurd (cc also)
parts_ruled types choices (p ∷ ps) slot behind (c ∷ cs) (d ∷ ds) below also here there =
    let ms : List Move = type_moves types p in
    let many = moves_many types p in
    let one = and_parts (nat_lt c (part_moves types p)) (are_below (map (part_moves types) ps) cs) below in
    let two = and_parts (nat_lt d (part_moves types p)) (are_below (map (part_moves types) ps) ds) also in
    let c_below : c < part_moves types p = ltb-true c (part_moves types p) one.0 in
    let d_below : d < part_moves types p = ltb-true d (part_moves types p) two.0 in
    let own : Found ms c = found ms c (omega (arith, c_below, many)) in
    ruled_both choices (joints_of slot behind 0 ms ms) (part_joints types (slot + 1) (behind + 1) ps)
    ∙ ap₂ (λ (a b : Bool). a || b)
    (joint_ruled choices slot behind c d (at_first choices slot c cs here) (at_first choices behind d ds there) ms own.move own.at (omega (arith, d_below, many))
    ∙ ap (λ (k : ℕ). not (goes_from ms k d)) (sym (target_is types p c own.move own.at)))
    (parts_ruled types choices ps (slot + 1) (behind + 1) cs ds one.1 two.1 (at_rest choices slot c cs here) (at_rest choices behind d ds there))
    ∙ both (goes_from ms (target_mode types p c).0 d) (are_moves types ps (target_modes types ps cs) ds)
  where
    both : (a b : Bool) → (not a || not b) ≡ not (a && b)
    both true b = refl
    both false b = refl
