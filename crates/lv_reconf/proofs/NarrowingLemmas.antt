-- Clauses that are added one after the other, and what they say together.
use Rattle.std.proofs.Common.{◌≡◌, ◌≢◌, ◌+◌, ◌<◌, ◌≤◌, ℕ, zero, suc, Bool, true, false, ◌&&◌, ◌||◌, not, nat_eq, List, [], ◌∷◌, length, map, drop, get_or, slice_get, slice_index_or, Option, Some, None, refl, sym, subst, ap, ap₂, ◌∙◌, arith, inl, inr}
use Rattle.std.specs.List.{list_all}
use Rattle.std.specs.Option.{option_map_or, option_and_then}
use Rattle.std.proofs.lemmas.Bool.{and_parts, and_from, cases_eq, ltb-true}
use Rattle.std.proofs.lemmas.List.{drop_more, drop_all}
use Rattle.lv_base.specs.declared.ids.Lit.{Lit}
use Rattle.lv_base.specs.declared.ids.ValId.{ValId}
use Rattle.lv_base.specs.declared.ids.MoveId.{MoveId}
use Rattle.lv_clauses.specs.Literals.{clause_holds, lit_holds}
use Rattle.lv_clauses.specs.ClauseMap.{ClauseMap, clause_at, Puts, satisfies}
use Rattle.lv_clauses.proofs.LiteralLemmas.{present_holds}
use Rattle.lv_base.specs.declared.range.Range.{Range}
use Rattle.lv_base.specs.Fits.{has_value}
use Rattle.lv_model.specs.declared.plant.Plant.{Plant}
use Rattle.lv_model.specs.declared.plant.ComponentType.{ComponentType}
use Rattle.lv_model.specs.declared.plant.Move.{Move}
use Rattle.lv_model.specs.declared.plant.Part.{Part}
use Rattle.lv_model.specs.Ranges.{plant_ranges}
use Rattle.lv_model.specs.Lists.{part_moves, move_counts}
use Rattle.lv_model.specs.Meaning.{is_no_fault, part_is_nominal, parts_are_nominal}
use Rattle.lv_meaning.specs.Candidates.{type_moves}
use Rattle.lv_compile.specs.Booleans.{booleans_now, value_literal}
use Rattle.lv_compile.specs.FormulaClauses.{size_of}
use Rattle.lv_compile.specs.Laws.{move_number}
use Rattle.lv_meaning.specs.declared.facts.Observation.{Observation}
use Rattle.lv_meaning.specs.Facts.{agrees, meets}
use Rattle.lv_search.proofs.lv_boxes.RankedMemberLemmas.{one_test}
use Rattle.lv_system.specs.Choices.{choice_literal}
use Rattle.lv_system.specs.Encoding.{truth_in}
use Rattle.lv_system.proofs.NumberingLemmas.{all_present_hold}
use Rattle.lv_system.proofs.LiteralLemmas.{value_true, choice_false}
use Rattle.lv_reconf.specs.Narrowing.{Encodes, choices_of_plant, Fact, Adds, NarrowsSoFar, Narrows, no_fault_from}

pub and_true : (b : Bool) → (b && true) ≡ b
and_true true = refl
and_true false = refl

pub and_in_turn : (a b c : Bool) → ((a && b) && c) ≡ (a && (b && c))
and_in_turn true b c = refl
and_in_turn false b c = refl

some_is : (d e : List Lit) → Some d ≡ Some e → d ≡ e
some_is d e same = cc same

drop_none : {X : Type 0} (k : ℕ) → drop {A = X} k [] ≡ []
drop_none zero = refl
drop_none (suc k) = refl

none_there : {X : Type 0} (k : ℕ) (x : X) (rest : List X) → drop k [] ≡ x ∷ rest → ⊥
none_there k x rest is = let clash : [] ≡ x ∷ rest = sym (drop_none k) ∙ is in cc clash

-- a clause at a number that had none
pub adds_one : (old new : ClauseMap) (id : ℕ) (c : List Lit) → clause_at old.slots id ≡ None → Puts old new id (Some c) → Adds old new (c ∷ [])
adds_one old new id c vacant puts =
    record {
      bools = puts.bools;
      says = λ values. one_test (satisfies values new.slots) (satisfies values old.slots && (clause_holds values c && true)) (down values) (up values);
    }
  where
    down : (values : List Bool) → satisfies values new.slots ≡ true → (satisfies values old.slots && (clause_holds values c && true)) ≡ true
    down values h =
        and_from (satisfies values old.slots) (clause_holds values c && true)
        (all_present_hold values old.slots
        (λ n d at.
        let other : n ≢ id = λ same. let clash : Some d ≡ None = sym at ∙ ap (λ (k : ℕ). clause_at old.slots k) same ∙ vacant in cc clash in
        present_holds values new.slots n d h (puts.others n other ∙ at)))
        (and_from (clause_holds values c) true (present_holds values new.slots id c h puts.changed) refl)

    up : (values : List Bool) → (satisfies values old.slots && (clause_holds values c && true)) ≡ true → satisfies values new.slots ≡ true
    up values h =
        let two = and_parts (satisfies values old.slots) (clause_holds values c && true) h in
        let holds = (and_parts (clause_holds values c) true two.1).0 in
        all_present_hold values new.slots
        (λ n d at. elim (cases_eq n id) [
          | inl same ↦ let is : Some c ≡ Some d = sym puts.changed ∙ ap (λ (k : ℕ). clause_at new.slots k) (sym same) ∙ at in
              subst (λ (e : List Lit). clause_holds values e ≡ true) (some_is c d is) holds
          | inr other ↦ present_holds values old.slots n d two.0 (sym (puts.others n other) ∙ at)
        ])

-- one clause more of those that are left
pub adds_more : (old mid new : ClauseMap) (c : List Lit) (left rest all : List (List Lit)) → left ≡ c ∷ rest → mid.bools ≡ old.bools
    → ((values : List Bool) → (satisfies values mid.slots && list_all (clause_holds values) left) ≡ (satisfies values old.slots && list_all (clause_holds values) all))
    → Adds mid new (c ∷ []) → (values : List Bool) → (satisfies values new.slots && list_all (clause_holds values) rest) ≡ (satisfies values old.slots && list_all (clause_holds values) all)
adds_more old mid new c left rest all is bools so_far adds values =
    ap (λ b. b && list_all (clause_holds values) rest) (adds.says values)
    ∙ and_in_turn (satisfies values mid.slots) (clause_holds values c && true) (list_all (clause_holds values) rest)
    ∙ ap (λ b. satisfies values mid.slots && (b && list_all (clause_holds values) rest)) (and_true (clause_holds values c))
    ∙ ap (λ (cs : List (List Lit)). satisfies values mid.slots && list_all (clause_holds values) cs) (sym is)
    ∙ so_far values

pub adds_all : (old new : ClauseMap) (left all : List (List Lit)) → left ≡ [] → new.bools ≡ old.bools
    → ((values : List Bool) → (satisfies values new.slots && list_all (clause_holds values) left) ≡ (satisfies values old.slots && list_all (clause_holds values) all)) → Adds old new all
adds_all old new left all none bools so_far =
    record {
      bools = bools;
      says = λ values. sym (and_true (satisfies values new.slots)) ∙ ap (λ (cs : List (List Lit)). satisfies values new.slots && list_all (clause_holds values) cs) (sym none) ∙ so_far values;
    }

module _ (plant : Plant) where
  -- clauses that say a fact of what is encoded
  pub adds_narrow : (old new : ClauseMap) (clauses : List (List Lit)) (fact : Fact) → Adds old new clauses
      → ((values : List Bool) (a b : List ValId) (ms : List MoveId) → Encodes plant values a b ms → list_all (clause_holds values) clauses ≡ fact a b ms) → Narrows plant old new fact
  adds_narrow old new clauses fact adds says =
      record {
        bools = adds.bools;
        fewer = λ values h. (and_parts (satisfies values old.slots) (list_all (clause_holds values) clauses) (sym (adds.says values) ∙ h)).0;
        exact = λ values a b ms code. adds.says values ∙ ap (λ t. satisfies values old.slots && t) (says values a b ms code);
      }

  pub narrows_start : (old : ClauseMap) (whole : Fact) → NarrowsSoFar plant old old whole whole
  narrows_start old whole = record { bools = refl; fewer = λ values h. h; exact = λ values a b ms code. refl }

  pub narrows_by : (old mid new : ClauseMap) (before after whole fact : Fact) → NarrowsSoFar plant old mid before whole → Narrows plant mid new fact
      → ((values : List Bool) (a b : List ValId) (ms : List MoveId) → Encodes plant values a b ms → before a b ms ≡ (fact a b ms && after a b ms)) → NarrowsSoFar plant old new after whole
  narrows_by old mid new before after whole fact so_far more splits =
      record {
        bools = more.bools ∙ so_far.bools;
        fewer = λ values h. so_far.fewer values (more.fewer values h);
        exact =
            λ values a b ms code.
            ap (λ t. t && after a b ms) (more.exact values a b ms code)
            ∙ and_in_turn (satisfies values mid.slots) (fact a b ms) (after a b ms)
            ∙ ap (λ t. satisfies values mid.slots && t) (sym (splits values a b ms code))
            ∙ so_far.exact values a b ms code;
      }

  -- what is left says the same
  pub narrows_same : (old mid : ClauseMap) (before after whole : Fact) → NarrowsSoFar plant old mid before whole → ((a b : List ValId) (ms : List MoveId) → before a b ms ≡ after a b ms)
      → NarrowsSoFar plant old mid after whole
  narrows_same old mid before after whole so_far same =
      record {
        bools = so_far.bools;
        fewer = so_far.fewer;
        exact = λ values a b ms code. ap (λ t. satisfies values mid.slots && t) (sym (same a b ms)) ∙ so_far.exact values a b ms code;
      }

  pub narrows_end : (old new : ClauseMap) (left whole : Fact) → NarrowsSoFar plant old new left whole
      → ((values : List Bool) (a b : List ValId) (ms : List MoveId) → Encodes plant values a b ms → left a b ms ≡ true) → Narrows plant old new whole
  narrows_end old new left whole so_far none =
      record {
        bools = so_far.bools;
        fewer = so_far.fewer;
        exact =
            λ values a b ms code.
            sym (and_true (satisfies values new.slots)) ∙ ap (λ t. satisfies values new.slots && t) (sym (none values a b ms code)) ∙ so_far.exact values a b ms code;
      }

-- a value that a variable has by its range has a boolean
below_size : (rs : List Range) (x v : ℕ) → has_value rs x v ≡ true → v < slice_index_or (map (λ (r : Range). r.size) rs) x 0
below_size [] x v h = absurd (cc h)
below_size (r ∷ rs) zero v h = ltb-true v r.size h
below_size (r ∷ rs) (suc x) v h = below_size rs x v h

pub value_has_bool : (plant : Plant) (x v : ℕ) → has_value (plant_ranges plant) x v ≡ true → v < size_of (booleans_now plant) x
value_has_bool plant x v h = below_size (plant_ranges plant) x v h

one_literal : (b : Bool) → ((b || false) && true) ≡ b
one_literal true = refl
one_literal false = refl

pub denied_not : (b : Bool) → not b ≡ true → b ≡ false
denied_not true h = absurd (cc h)
denied_not false h = refl

pub allowed_not : (b : Bool) → not b ≡ false → b ≡ true
allowed_not true h = refl
allowed_not false h = absurd (cc h)

module _ (plant : Plant) where
  pub observed_says : (o : Observation) (lit : Lit) → o.val.0 < size_of (booleans_now plant) o.var.0 → lit ≡ value_literal (booleans_now plant) o.var.0 o.val.0 true
      → (values : List Bool) (a b : List ValId) (ms : List MoveId) → Encodes plant values a b ms → list_all (clause_holds values) ((lit ∷ []) ∷ []) ≡ agrees a o
  observed_says o lit below is values a b ms code =
      one_literal (lit_holds values lit) ∙ ap (lit_holds values) is ∙ value_true (truth_in values) (booleans_now plant) a code.now o.var.0 o.val.0 below

  pub excluded_says : (part n : ℕ) (lit : Lit) → n < slice_index_or (move_counts plant) part 0 → lit ≡ choice_literal (choices_of_plant plant) part n false
      → (values : List Bool) (a b : List ValId) (ms : List MoveId) → Encodes plant values a b ms → list_all (clause_holds values) ((lit ∷ []) ∷ []) ≡ not (nat_eq (move_number ms part) n)
  excluded_says part n lit below is values a b ms code =
      one_literal (lit_holds values lit) ∙ ap (lit_holds values) is ∙ choice_false (truth_in values) (choices_of_plant plant) ms code.choice part n below

  -- one observation, one move more

  pub observe_more : (old mid new : ClauseMap) (o : Observation) (left rest all : List Observation) → left ≡ o ∷ rest
      → NarrowsSoFar plant old mid (λ a b ms. meets a left) (λ a b ms. meets a all) → Narrows plant mid new (λ a b ms. agrees a o) → NarrowsSoFar plant old new (λ a b ms. meets a rest) (λ a b ms. meets a all)
  observe_more old mid new o left rest all is so_far more =
      narrows_by plant old mid new (λ a b ms. meets a left) (λ a b ms. meets a rest) (λ a b ms. meets a all) (λ a b ms. agrees a o) so_far more (λ values a b ms code. ap (meets a) is)

  abbrev pub no_fault_left : ℕ → List Move → ℕ → Fact
  no_fault_left n moves part a b ms = no_fault_from n moves (move_number ms part)

  pub fault_more : (old mid new : ClauseMap) (m : Move) (n part : ℕ) (left rest all : List Move) → left ≡ m ∷ rest → is_no_fault m.kind ≡ false
      → NarrowsSoFar plant old mid (no_fault_left n left part) (no_fault_left 0 all part) → Narrows plant mid new (λ a b ms. not (nat_eq (move_number ms part) n))
      → NarrowsSoFar plant old new (no_fault_left (n + 1) rest part) (no_fault_left 0 all part)
  fault_more old mid new m n part left rest all is fault so_far more =
      narrows_by plant old mid new (no_fault_left n left part) (no_fault_left (n + 1) rest part) (no_fault_left 0 all part) (λ a b ms. not (nat_eq (move_number ms part) n)) so_far more
      (λ values a b ms code.
      ap (λ (xs : List Move). no_fault_from n xs (move_number ms part)) is
      ∙ ap (λ t. (not (nat_eq (move_number ms part) n) || t) && no_fault_from (n + 1) rest (move_number ms part)) fault
      ∙ ap (λ t. t && no_fault_from (n + 1) rest (move_number ms part)) (or_false (not (nat_eq (move_number ms part) n))))
    where
      or_false : (b : Bool) → (b || false) ≡ b
      or_false true = refl
      or_false false = refl

  pub no_fault_more : (old mid : ClauseMap) (m : Move) (n part : ℕ) (left rest all : List Move) → left ≡ m ∷ rest → is_no_fault m.kind ≡ true
      → NarrowsSoFar plant old mid (no_fault_left n left part) (no_fault_left 0 all part) → NarrowsSoFar plant old mid (no_fault_left (n + 1) rest part) (no_fault_left 0 all part)
  no_fault_more old mid m n part left rest all is none so_far =
      narrows_same plant old mid (no_fault_left n left part) (no_fault_left (n + 1) rest part) (no_fault_left 0 all part) so_far
      (λ a b ms.
      ap (λ (xs : List Move). no_fault_from n xs (move_number ms part)) is
      ∙ ap (λ t. (not (nat_eq (move_number ms part) n) || t) && no_fault_from (n + 1) rest (move_number ms part)) none
      ∙ ap (λ t. t && no_fault_from (n + 1) rest (move_number ms part)) (or_true (not (nat_eq (move_number ms part) n))))
    where
      or_true : (b : Bool) → (b || true) ≡ true
      or_true true = refl
      or_true false = refl

-- of moves numbered from n the one of number n + j is no fault
nominal_at : (n j k : ℕ) (moves : List Move) → k ≡ n + j → j < length moves → no_fault_from n moves k ≡ option_map_or (λ (m : Move). is_no_fault m.kind) (slice_get moves j) false
nominal_at n j k [] is below = absurd (omega (arith, below))
nominal_at n zero k (m ∷ ms) is below =
    let same : nat_eq k n ≡ true = grind (arith, is) in
    ap (λ t. (not t || is_no_fault m.kind) && no_fault_from (n + 1) ms k) same ∙ ap (λ t. is_no_fault m.kind && t) (before (n + 1) k ms (omega (arith, is))) ∙ and_true (is_no_fault m.kind)
  where
    before : (n k : ℕ) (ms : List Move) → k < n → no_fault_from n ms k ≡ true
    before n k [] less = refl
    before n k (m ∷ ms) less =
        let other : nat_eq k n ≡ false = grind (arith, less) in
        ap (λ t. (not t || is_no_fault m.kind) && no_fault_from (n + 1) ms k) other ∙ before (n + 1) k ms (omega (arith, less))
nominal_at n (suc j) k (m ∷ ms) is below =
    let other : nat_eq k n ≡ false = grind (arith, is) in
    ap (λ t. (not t || is_no_fault m.kind) && no_fault_from (n + 1) ms k) other ∙ nominal_at (n + 1) j k ms (omega (arith, is)) (omega (arith, below))

part_nominal : (types : List ComponentType) (p : Part) (k : ℕ) → k < length (type_moves types p) → no_fault_from 0 (type_moves types p) k ≡ part_is_nominal types p k
part_nominal types p k below = by (slice_get types p.kind) below
  where
    by : (o : Option ComponentType) → k < length (option_map_or (λ (t : ComponentType). t.moves) o [])
        → no_fault_from 0 (option_map_or (λ (t : ComponentType). t.moves) o []) k
        ≡ option_map_or (λ (m : Move). is_no_fault m.kind) (option_and_then (λ (t : ComponentType). slice_get t.moves k) o) false
    by None below = absurd (omega (arith, below))
    by (Some t) below = nominal_at 0 k k t.moves (omega arith) below

counted : (types : List ComponentType) (p : Part) → part_moves types p ≡ length (type_moves types p)
counted types p = by (slice_get types p.kind)
  where
    by : (o : Option ComponentType) → option_map_or (λ (t : ComponentType). length t.moves) o 0 ≡ length (option_map_or (λ (t : ComponentType). t.moves) o [])
    by None = refl
    by (Some t) = refl

counts_at : (types : List ComponentType) (ps : List Part) (k : ℕ) (p : Part) (rest : List Part) → drop k ps ≡ p ∷ rest → slice_index_or (map (part_moves types) ps) k 0 ≡ length (type_moves types p)
counts_at types [] k p rest is = absurd (none_there k p rest is)
counts_at types (q ∷ ps) zero p rest is = let same : q ≡ p = cc is in counted types q ∙ ap (λ (x : Part). length (type_moves types x)) same
counts_at types (q ∷ ps) (suc k) p rest is = counts_at types ps k p rest is

-- the moves left, where there are as many as parts
moves_at : (ms : List MoveId) (k : ℕ) → k < length ms → drop k ms ≡ record { 0 = move_number ms k } ∷ drop (k + 1) ms
moves_at ms k below = drop_more ms k (record { 0 = 0 }) below

part_there : (ps : List Part) (k : ℕ) (p : Part) (rest : List Part) → drop k ps ≡ p ∷ rest → k < length ps
part_there [] k p rest is = absurd (none_there k p rest is)
part_there (q ∷ ps) zero p rest is = omega arith
part_there (q ∷ ps) (suc k) p rest is = let less = part_there ps k p rest is in omega (arith, less)

length_counts : (types : List ComponentType) (ps : List Part) → length (map (part_moves types) ps) ≡ length ps
length_counts types [] = refl
length_counts types (p ∷ ps) = ap suc (length_counts types ps)

module _ (plant : Plant) where
  pub count_of_part : (k : ℕ) (p : Part) (rest : List Part) → drop k plant.parts ≡ p ∷ rest → slice_index_or (move_counts plant) k 0 ≡ length (type_moves plant.types p)
  count_of_part k p rest is = counts_at plant.types plant.parts k p rest is

  abbrev pub nominal_left : ℕ → Fact
  nominal_left k a b ms = parts_are_nominal plant.types (drop k plant.parts) (drop k ms)

  pub part_more : (old mid new : ClauseMap) (k : ℕ) (p : Part) (moves : List Move) → moves ≡ type_moves plant.types p → drop k plant.parts ≡ p ∷ drop (k + 1) plant.parts
      → NarrowsSoFar plant old mid (nominal_left k) (nominal_left 0) → Narrows plant mid new (λ a b ms. no_fault_from 0 moves (move_number ms k)) → NarrowsSoFar plant old new (nominal_left (k + 1)) (nominal_left 0)
  part_more old mid new k p moves are is so_far more =
      narrows_by plant old mid new (nominal_left k) (nominal_left (k + 1)) (nominal_left 0) (λ a b ms. no_fault_from 0 moves (move_number ms k)) so_far more
      (λ values a b ms code.
      let there : k < length plant.parts = part_there plant.parts k p (drop (k + 1) plant.parts) is in
      let counts : length (move_counts plant) ≡ length plant.parts = length_counts plant.types plant.parts in
      let each = code.choice.each in
      let below = code.choice.in_range k (omega (arith, there, counts)) in
      let many = count_of_part k p (drop (k + 1) plant.parts) is in
      ap₂ (parts_are_nominal plant.types) is (moves_at ms k (omega (arith, each, there, counts)))
      ∙ ap (λ t. t && parts_are_nominal plant.types (drop (k + 1) plant.parts) (drop (k + 1) ms))
      (sym (part_nominal plant.types p (move_number ms k) (omega (arith, below, many))) ∙ ap (λ (xs : List Move). no_fault_from 0 xs (move_number ms k)) (sym are)))

  pub part_next : (old mid new : ClauseMap) (k : ℕ) (p : Part) (parts : List Part) (types : List ComponentType) (moves : List Move) → parts ≡ plant.parts → types ≡ plant.types
      → moves ≡ type_moves types p → k < length parts → p ≡ get_or parts k p → NarrowsSoFar plant old mid (nominal_left k) (nominal_left 0)
      → Narrows plant mid new (λ a b ms. no_fault_from 0 moves (move_number ms k)) → NarrowsSoFar plant old new (nominal_left (k + 1)) (nominal_left 0)
  part_next old mid new k p parts types moves same typed are below at so_far more =
      part_more old mid new k p moves (are ∙ ap (λ (ts : List ComponentType). type_moves ts p) typed)
      (ap (drop k) (sym same)
      ∙ drop_more parts k p below
      ∙ ap (λ (y : Part). y ∷ drop (k + 1) parts) (sym at)
      ∙ ap (λ (xs : List Part). p ∷ drop (k + 1) xs) same)
      so_far more

  pub all_nominal : (k : ℕ) → length plant.parts ≤ k → (values : List Bool) (a b : List ValId) (ms : List MoveId) → Encodes plant values a b ms → nominal_left k a b ms ≡ true
  all_nominal k past values a b ms code =
      let counts : length (move_counts plant) ≡ length plant.parts = length_counts plant.types plant.parts in
      let each = code.choice.each in
      ap₂ (parts_are_nominal plant.types) (drop_all k plant.parts past) (drop_all k ms (omega (arith, each, counts, past)))
