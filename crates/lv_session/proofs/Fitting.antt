-- The tracked states of a well-formed plant are of its modes: that of the start, and whatever candidates lead to.
use Rattle.std.proofs.Common.{◌≡◌, ℕ, zero, suc, ◌+◌, ◌<◌, ◌≤◌, Bool, true, false, ◌&&◌, nat_lt, List, [], ◌∷◌, length, map, slice_get, slice_index_or, Option, Some, None, option_map, refl, sym, subst, arith, All}
use Rattle.std.specs.List.{list_all}
use Rattle.std.specs.Cmp.Derive.{both_true}
use Rattle.std.specs.Option.{option_map_or, option_and_then}
use Rattle.std.proofs.lemmas.Bool.{and_parts, ltb-true, lt-ltb}
use Rattle.std.proofs.lemmas.List.Elements.{All-cons, All-head, All-tail, All-nil}
use Rattle.lv_base.specs.declared.rank.Rank.{Rank}
use Rattle.lv_base.specs.declared.range.Range.{Range}
use Rattle.lv_base.specs.declared.range.Sort.TheVariants.{Modes}
use Rattle.lv_base.specs.Fits.{has_value}
use Rattle.lv_model.specs.declared.plant.Plant.{Plant}
use Rattle.lv_model.specs.declared.plant.ComponentType.{ComponentType}
use Rattle.lv_model.specs.declared.plant.Part.{Part}
use Rattle.lv_model.specs.declared.plant.Move.{Move}
use Rattle.lv_model.specs.Lists.{sizes}
use Rattle.lv_model.specs.Ranges.{plant_ranges, type_ranges}
use Rattle.lv_model.specs.WellFormed.{is_well_formed, names_fit, counts_fit, formulas_fit, moves_fit, move_fits, kind_fits, guard_fits, part_fits, name_fits, moves_rise, stays_once}
use Rattle.lv_model.proofs.Reading.{All-at, All-of_test, type_of_place, types_pass, parts_pass, follow_pass}
use Rattle.lv_session_state.specs.lv_system.lv_compile.Booleans.{booleans_now}
use Rattle.lv_session_state.proofs.lv_system.lv_compile.RangeLemmas.{have_part}
use Rattle.lv_session_state.specs.lv_meaning.Ranges.{modes_fit, StateFits}
use Rattle.lv_session_state.specs.lv_meaning.Targets.{target_mode, target_modes}
use Rattle.lv_session_state.specs.lv_tracker.Targets.{target_state, HasMoves}
use Rattle.lv_session_state.specs.lv_tracker.Tracked.{start_state}

-- a number below a variable's size is one of its values
by_size : (ranges : List Range) (x v : ℕ) → v < slice_index_or (map (λ (r : Range). r.size) ranges) x 0 → has_value ranges x v ≡ true
by_size [] x v h = absurd (omega (arith, h))
by_size (r ∷ rs) zero v h = lt-ltb v r.size h
by_size (r ∷ rs) (suc x) v h = by_size rs x v h

-- that a test holds of an element, as a proposition
record Passes {X : Type 0} (p : X → Bool) (x : X) : Type 0 where
  pub passes : p x ≡ true

module _ (plant : Plant) (h : is_well_formed plant ≡ true) where
  -- a mode of a part's type is one of the part's modes
  has_mode : (n : ℕ) (p : Part) (t : ComponentType) (v : ℕ) → slice_get plant.parts n ≡ Some p → slice_get plant.types p.kind ≡ Some t → v < length t.modes → has_value (plant_ranges plant) p.first.0 v ≡ true
  has_mode n p t v here kind below =
      let have = have_part plant (booleans_now plant) refl (follow_pass plant h) n p t here kind in
      let size = have.size 0 (record { sort = Modes p.kind; size = length t.modes }) refl in
      let first : p.first.0 + 0 ≡ p.first.0 = omega arith in
      by_size (plant_ranges plant) p.first.0 v (subst (λ m. v < slice_index_or (sizes plant) m 0) first (omega (arith, size, below)))

  -- each part's type is there, and has the mode in which the part starts
  start_there : (n : ℕ) (p : Part) → slice_get plant.parts n ≡ Some p → part_fits plant.types p ≡ true
  start_there n p here = (All-at (Passes (part_fits plant.types)) plant.parts n p (All-of_test (part_fits plant.types) (Passes (part_fits plant.types)) plant.parts (λ x e. record { passes = e }) (parts_pass plant h).1) here).passes

  -- a part's type, with a mode at least, and moves that end in its modes
  record IsOfType (p : Part) : Type 0 where
    pub type : ComponentType
    pub kind : slice_get plant.types p.kind ≡ Some type
    pub start : p.start.0 < length type.modes
    pub some : 1 ≤ length type.modes
    pub ends : (n : ℕ) (m : Move) → slice_get type.moves n ≡ Some m → m.target.0 < length type.modes

  move_ends : (t : ComponentType) (ranges : List Range) → list_all (move_fits ranges (length t.modes)) t.moves ≡ true → (n : ℕ) (m : Move) → slice_get t.moves n ≡ Some m → m.target.0 < length t.modes
  move_ends t ranges pass n m here =
      let one = (All-at (Passes (move_fits ranges (length t.modes))) t.moves n m (All-of_test (move_fits ranges (length t.modes)) (Passes (move_fits ranges (length t.modes))) t.moves (λ x e. record { passes = e }) pass) here).passes in
      let two = and_parts (nat_lt m.source.0 (length t.modes) && nat_lt m.target.0 (length t.modes)) (kind_fits m.kind m && guard_fits ranges m) one in
      ltb-true m.target.0 (length t.modes) (and_parts (nat_lt m.source.0 (length t.modes)) (nat_lt m.target.0 (length t.modes)) two.0).1

  of_type : (n : ℕ) (p : Part) → slice_get plant.parts n ≡ Some p → IsOfType p
  of_type n p here = by (slice_get plant.types p.kind) refl (and_parts (name_fits p.name) _ (start_there n p here)).1
    where
      by : (o : Option ComponentType) → slice_get plant.types p.kind ≡ o → option_map_or (λ (t : ComponentType). nat_lt p.start.0 (length t.modes)) o false ≡ true → IsOfType p
      by None e pass = absurd (cc pass)
      by (Some t) e pass =
          let fits = type_of_place plant.domains plant.types p.kind t (types_pass plant h) e in
          let ranges = type_ranges plant.domains p.kind t in
          let halves = and_parts (names_fit (length plant.domains) t && counts_fit t) (formulas_fit ranges t && moves_fit ranges t) fits in
          let moves = (and_parts (formulas_fit ranges t) (moves_fit ranges t) halves.1).1 in
          let start = ltb-true p.start.0 (length t.modes) pass in
          record {
            type = t;
            kind = e;
            start = start;
            some = omega (arith, start);
            ends = move_ends t ranges (and_parts (list_all (move_fits ranges (length t.modes)) t.moves) (moves_rise 0 0 t.moves && stays_once 0 t.modes t.moves) moves).0;
          }

  -- the mode that a move of a part ends in, or mode 0
  target_below : (p : Part) → (is : IsOfType p) → (n : ℕ) → (target_mode plant.types p n).0 < length is.type.modes
  target_below p is n = by (slice_get plant.types p.kind) is.kind
    where
      end : (o : Option Move) → slice_get is.type.moves n ≡ o → option_map_or (λ (mode : ℕ). mode) (option_map (λ (m : Move). m.target.0) o) 0 < length is.type.modes
      end None e = let some = is.some in omega (arith, some)
      end (Some m) e = is.ends n m e

      by : (o : Option ComponentType) → slice_get plant.types p.kind ≡ Some is.type → (target_mode plant.types p n).0 < length is.type.modes
      by o kind = subst (λ (q : Option ComponentType). option_map_or (λ (mode : ℕ). mode) (option_map (λ (m : Move). m.target.0) (option_and_then (λ (t : ComponentType). slice_get t.moves n) q)) 0 < length is.type.modes) (sym kind) (end (slice_get is.type.moves n) refl)

  -- the parts from a place on
  starts_fit : (n : ℕ) (ps : List Part) → ((k : ℕ) (p : Part) → slice_get ps k ≡ Some p → slice_get plant.parts (n + k) ≡ Some p)
      → modes_fit (plant_ranges plant) ps (map (λ (p : Part). p.start) ps) ≡ true
  starts_fit n [] at = refl
  starts_fit n (p ∷ ps) at =
      let none : n + 0 ≡ n = omega arith in
      let here : slice_get plant.parts n ≡ Some p = subst (λ m. slice_get plant.parts m ≡ Some p) none (at 0 p refl) in
      let is = of_type n p here in
      both_true (has_mode n p is.type p.start.0 here is.kind is.start)
      (starts_fit (n + 1) ps (λ k q there. let next : n + suc k ≡ n + 1 + k = omega arith in subst (λ m. slice_get plant.parts m ≡ Some q) next (at (suc k) q there)))

  targets_fit : (n : ℕ) (ps : List Part) (cs : List ℕ) → length cs ≡ length ps → ((k : ℕ) (p : Part) → slice_get ps k ≡ Some p → slice_get plant.parts (n + k) ≡ Some p)
      → modes_fit (plant_ranges plant) ps (target_modes plant.types ps cs) ≡ true
  targets_fit n [] cs long at = refl
  targets_fit n (p ∷ ps) [] long at = absurd (omega (arith, long))
  targets_fit n (p ∷ ps) (c ∷ cs) long at =
      let none : n + 0 ≡ n = omega arith in
      let here : slice_get plant.parts n ≡ Some p = subst (λ m. slice_get plant.parts m ≡ Some p) none (at 0 p refl) in
      let is = of_type n p here in
      both_true (has_mode n p is.type (target_mode plant.types p c).0 here is.kind (target_below p is c))
      (targets_fit (n + 1) ps cs (omega (arith, long)) (λ k q there. let next : n + suc k ≡ n + 1 + k = omega arith in subst (λ m. slice_get plant.parts m ≡ Some q) next (at (suc k) q there)))

  pub start_fits : StateFits plant (start_state plant)
  start_fits = record { modes = starts_fit 0 plant.parts (λ k p there. let same : k ≡ 0 + k = omega arith in subst (λ m. slice_get plant.parts m ≡ Some p) same there) }

  pub target_fits : (r : Rank) → HasMoves (length plant.parts) r → StateFits plant (target_state plant r)
  target_fits r has = record { modes = targets_fit 0 plant.parts r.choices has.moves (λ k p there. let same : k ≡ 0 + k = omega arith in subst (λ m. slice_get plant.parts m ≡ Some p) same there) }

  pub all_fit : (listed : List Rank) → All (HasMoves (length plant.parts)) listed → All (StateFits plant) (map (target_state plant) listed)
  all_fit [] all = All-nil (StateFits plant)
  all_fit (r ∷ rs) all =
      All-cons (StateFits plant) (target_state plant r) (map (target_state plant) rs) (target_fits r (All-head (HasMoves (length plant.parts)) r rs all))
      (all_fit rs (All-tail (HasMoves (length plant.parts)) r rs all))
