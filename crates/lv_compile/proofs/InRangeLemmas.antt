-- The literals of a plant's clauses are of its booleans.
use Rattle.std.proofs.Common.{◌≡◌, ◌+◌, ◌≤◌, ◌<◌, ℕ, zero, suc, Bool, true, false, not, nat_lt, nat_le, ◌&&◌, List, [], ◌∷◌, ◌++◌, length, map, take, filter, sum_by, slice_get, Option, Some, None, refl, ap, ◌∙◌, arith, All}
use Rattle.std.specs.List.{sum, flat_map, list_all, range_with_len}
use Rattle.std.specs.Option.{option_map_or}
use Rattle.std.proofs.lemmas.Bool.{and_parts, and_from}
use Rattle.std.proofs.lemmas.List.Sums.{sum_by-cons}
use Rattle.std.proofs.lemmas.List.Folds.{list_all-append}
use Rattle.std.proofs.lemmas.List.Elements.{All-head, All-tail, All-take, All-filter}
use Rattle.lv_base.specs.declared.ids.Lit.{Lit}
use Rattle.lv_clauses.specs.Literals.{in_range}
use Rattle.lv_base.specs.Tree.{Tree, always, never, is, same, negation, all, any, implies, iff, Trees, none, more}
use Rattle.lv_model.specs.declared.plant.Plant.{Plant}
use Rattle.lv_model.specs.declared.plant.ComponentType.{ComponentType}
use Rattle.lv_model.specs.declared.plant.Move.{Move}
use Rattle.lv_model.specs.declared.plant.MoveKind.{MoveKind}
use Rattle.lv_model.specs.declared.plant.MoveKind.TheVariants.{Step, Stay, Fault}
use Rattle.lv_model.specs.declared.plant.Part.{Part}
use Rattle.lv_model.specs.Lists.{sizes, part_moves}
use Rattle.lv_model.specs.Counts.{is_step_from}
use Rattle.lv_model.specs.WellFormed.{is_well_formed}
use Rattle.lv_compile.specs.Booleans.{Booleans, literal, value_bool, value_literal, booleans_now, booleans_next, first_choice, bool_count}
use Rattle.lv_compile.specs.FormulaClauses.{Clauses, each_after, product, gather, when_true, size_of, equality_clause, formula_clauses, gathered_clauses, speaks_of, each_speaks_of}
use Rattle.lv_compile.specs.ModelClauses.{not_both, apart, exactly_one, values_clauses, unless, mode_formula_clauses, type_clauses, part_clauses, copy_clauses, guard_clauses, closed_clauses, goes_clauses, move_clauses, moves_clauses, choice_clauses, part_choice_clauses, choices_clauses, raw_clauses}
use Rattle.lv_compile.specs.Speaking.{Speaks, ModeFormulaSpeaks, GuardSpeaks, MoveSpeaks, TypeSpeaks, MovesSpeak, PartHolds, PartSpeaks}
use Rattle.lv_compile.proofs.BooleanLemmas.{is_there, among_all}
use Rattle.lv_compile.proofs.SumLemmas.{mapped_sum}
use Rattle.lv_compile.proofs.SpeakingLemmas.{system_speaks, parts_hold, parts_speak}

module _ (bools : ℕ) where
  abbrev pub lits_in : List Lit → Bool
  lits_in c = list_all (in_range bools) c

  abbrev pub all_in : Clauses → Bool
  all_in cs = list_all lits_in cs

  -- lists that are joined

  pub joined_in : (ps qs : Clauses) → all_in ps ≡ true → all_in qs ≡ true → all_in (ps ++ qs) ≡ true
  joined_in ps qs h k = list_all-append lits_in ps qs ∙ and_from (all_in ps) (all_in qs) h k

  longer_in : (p : List Lit) (qs : Clauses) → lits_in p ≡ true → all_in qs ≡ true → all_in (each_after qs p) ≡ true
  longer_in p [] h k = refl
  longer_in p (q ∷ qs) h k =
      let two = and_parts (lits_in q) (all_in qs) k in
      and_from (lits_in (p ++ q)) (all_in (each_after qs p)) (list_all-append (in_range bools) p q ∙ and_from (lits_in p) (lits_in q) h two.0) (longer_in p qs h two.1)

  product_in : (ps qs : Clauses) → all_in ps ≡ true → all_in qs ≡ true → all_in (product ps qs) ≡ true
  product_in [] qs h k = refl
  product_in (p ∷ ps) qs h k =
      let two = and_parts (lits_in p) (all_in ps) h in
      joined_in (each_after qs p) (product ps qs) (longer_in p qs two.0 k) (product_in ps qs two.1 k)

  gather_in : (of_all : Bool) (ps qs : Clauses) → all_in ps ≡ true → all_in qs ≡ true → all_in (gather of_all ps qs) ≡ true
  gather_in true ps qs h k = joined_in ps qs h k
  gather_in false ps qs h k = product_in ps qs h k

  unless_in : (l : Lit) (cs : Clauses) → in_range bools l ≡ true → all_in cs ≡ true → all_in (unless l cs) ≡ true
  unless_in l [] h k = refl
  unless_in l (c ∷ cs) h k =
      let two = and_parts (lits_in c) (all_in cs) k in
      and_from (lits_in (l ∷ c)) (all_in (unless l cs)) (and_from (in_range bools l) (lits_in c) h two.0) (unless_in l cs h two.1)

  when_in : (sign : Bool) → all_in (when_true sign) ≡ true
  when_in true = refl
  when_in false = refl

  mapped_in : (f : ℕ → List Lit) (first n : ℕ) → ((k : ℕ) → first ≤ k → k < first + n → lits_in (f k) ≡ true) → all_in (map f (range_with_len first n)) ≡ true
  mapped_in f first zero each = refl
  mapped_in f first (suc n) each =
      and_from (lits_in (f first)) (all_in (map f (range_with_len (first + 1) n))) (each first (omega arith) (omega arith))
      (mapped_in f (first + 1) n (λ k low high. each k (omega (arith, low)) (omega (arith, high))))

  flat_in : {X : Type 0} (f : X → Clauses) (P : X → Type 0) (xs : List X) → ((x : X) → P x → all_in (f x) ≡ true) → All P xs → all_in (flat_map f xs) ≡ true
  flat_in f P [] each h = refl
  flat_in f P (x ∷ xs) each h = joined_in (f x) (flat_map f xs) (each x (All-head P x xs h)) (flat_in f P xs each (All-tail P x xs h))

  -- booleans in a row

  lit_in : (k : ℕ) (sign : Bool) → k < bools → in_range bools (literal k sign) ≡ true
  lit_in k sign h = grind (arith, h)

  pair_in : (l m : Lit) → in_range bools l ≡ true → in_range bools m ≡ true → lits_in (l ∷ m ∷ []) ≡ true
  pair_in l m h k = and_from (in_range bools l) (lits_in (m ∷ [])) h (and_from (in_range bools m) true k refl)

  apart_in : (first n : ℕ) → first + n ≤ bools → all_in (apart first n) ≡ true
  apart_in first zero h = refl
  apart_in first (suc n) h =
      joined_in (map (not_both first) (range_with_len (first + 1) n)) (apart (first + 1) n)
      (mapped_in (not_both first) (first + 1) n (λ k low high. pair_in (literal first false) (literal k false) (lit_in first false (omega (arith, h))) (lit_in k false (omega (arith, h, high)))))
      (apart_in (first + 1) n (omega (arith, h)))

  row_in : (first n : ℕ) → first + n ≤ bools → lits_in (map (λ (k : ℕ). literal k true) (range_with_len first n)) ≡ true
  row_in first zero h = refl
  row_in first (suc n) h =
      and_from (in_range bools (literal first true)) (lits_in (map (λ (k : ℕ). literal k true) (range_with_len (first + 1) n))) (lit_in first true (omega (arith, h))) (row_in (first + 1) n (omega (arith, h)))

  one_of_in : (first n : ℕ) → first + n ≤ bools → all_in (exactly_one first n) ≡ true
  one_of_in first n h = and_from (lits_in (map (λ (k : ℕ). literal k true) (range_with_len first n))) (all_in (apart first n)) (row_in first n h) (apart_in first n h)

  values_in : (first : ℕ) (ns : List ℕ) → first + sum ns ≤ bools → all_in (values_clauses first ns) ≡ true
  values_in first [] h = refl
  values_in first (n ∷ ns) h =
      let total : sum (n ∷ ns) ≡ n + sum ns = sum_by-cons (λ (k : ℕ). k) n ns in
      joined_in (exactly_one first n) (values_clauses (first + n) ns) (one_of_in first n (omega (arith, h, total))) (values_in (first + n) ns (omega (arith, h, total)))

  -- formulas over one copy of the variables

  module _ (b : Booleans) (fit : b.first + sum b.sizes ≤ bools) where
    value_in : (x v : ℕ) (sign : Bool) → v < size_of b x → in_range bools (value_literal b x v sign) ≡ true
    value_in x v sign h =
        let among = among_all b.sizes x (is_there b.sizes x v h) in
        lit_in (value_bool b x v) sign (omega (arith, among, h, fit))

    alone_in : (x v : ℕ) (sign : Bool) → v < size_of b x → all_in ((value_literal b x v sign ∷ []) ∷ []) ≡ true
    alone_in x v sign h = and_from (lits_in (value_literal b x v sign ∷ [])) true (and_from (in_range bools (value_literal b x v sign)) true (value_in x v sign h) refl) refl

    mutual
      pub formula_in : (base : ℕ) (f : Tree) → speaks_of b base f ≡ true → (sign : Bool) → all_in (formula_clauses b base sign f) ≡ true
      formula_in base always h sign = when_in sign
      formula_in base never h sign = when_in (not sign)
      formula_in base (is x v) h sign = alone_in (base + x) v sign (grind (arith, h))
      formula_in base (same x y) h sign =
          let two = and_parts (nat_lt (base + x) (length b.sizes) && nat_lt (base + y) (length b.sizes)) (nat_le (size_of b (base + x)) (size_of b (base + y))) h in
          let few = two.1 in
          mapped_in (equality_clause b (base + x) (base + y) sign) 0 (size_of b (base + x))
          (λ k low high.
          pair_in (value_literal b (base + x) k false) (value_literal b (base + y) k sign) (value_in (base + x) k false (omega (arith, high))) (value_in (base + y) k sign (grind (arith, high, few))))
      formula_in base (negation f) h sign = formula_in base f h (not sign)
      formula_in base (all fs) h sign = gathered_in base fs h sign sign
      formula_in base (any fs) h sign = gathered_in base fs h (not sign) sign
      formula_in base (implies f g) h sign =
          let two = and_parts (speaks_of b base f) (speaks_of b base g) h in
          gather_in (not sign) (formula_clauses b base (not sign) f) (formula_clauses b base sign g) (formula_in base f two.0 (not sign)) (formula_in base g two.1 sign)
      formula_in base (iff f g) h sign =
          let two = and_parts (speaks_of b base f) (speaks_of b base g) h in
          joined_in (product (formula_clauses b base (not sign) f) (formula_clauses b base true g)) (product (formula_clauses b base sign f) (formula_clauses b base false g))
          (product_in (formula_clauses b base (not sign) f) (formula_clauses b base true g) (formula_in base f two.0 (not sign)) (formula_in base g two.1 true))
          (product_in (formula_clauses b base sign f) (formula_clauses b base false g) (formula_in base f two.0 sign) (formula_in base g two.1 false))

      gathered_in : (base : ℕ) (fs : Trees) → each_speaks_of b base fs ≡ true → (of_all sign : Bool) → all_in (gathered_clauses b base of_all sign fs) ≡ true
      gathered_in base none h of_all sign = when_in of_all
      gathered_in base (more f fs) h of_all sign =
          let two = and_parts (speaks_of b base f) (each_speaks_of b base fs) h in
          gather_in of_all (formula_clauses b base sign f) (gathered_clauses b base of_all sign fs) (formula_in base f two.0 sign) (gathered_in base fs two.1 of_all sign)

    laws_in : (base : ℕ) (fs : List Tree) → All (Speaks b base) fs → all_in (flat_map (formula_clauses b base true) fs) ≡ true
    laws_in base fs h = flat_in (formula_clauses b base true) (Speaks b base) fs (λ f s. formula_in base f s.of true) h

    type_in : (base : ℕ) (t : ComponentType) → TypeSpeaks b base t → all_in (type_clauses b base t) ≡ true
    type_in base t h =
        joined_in (flat_map (formula_clauses b base true) t.laws) (flat_map (mode_formula_clauses b base) t.formulas) (laws_in base t.laws h.laws)
        (flat_in (mode_formula_clauses b base) (ModeFormulaSpeaks b base) t.formulas
        (λ f s. unless_in (value_literal b base f.mode.0 false) (formula_clauses b base true f.condition) (value_in base f.mode.0 false s.mode) (formula_in base f.condition s.condition true)) h.formulas)

    part_in : (types : List ComponentType) (p : Part) → PartHolds b types p → all_in (part_clauses b types p) ≡ true
    part_in types p h = by (slice_get types p.kind) refl
      where
        by : (o : Option ComponentType) → slice_get types p.kind ≡ o → all_in (part_clauses b types p) ≡ true
        by None kind = rw kind refl
        by (Some t) kind = rw kind (type_in p.first.0 t (h.kind t kind))

    pub copy_in : (plant : Plant) → All (PartHolds b plant.types) plant.parts → All (Speaks b 0) plant.laws → all_in (copy_clauses b plant) ≡ true
    copy_in plant parts laws =
        joined_in (values_clauses b.first b.sizes ++ flat_map (part_clauses b plant.types) plant.parts) (flat_map (formula_clauses b 0 true) plant.laws)
        (joined_in (values_clauses b.first b.sizes) (flat_map (part_clauses b plant.types) plant.parts) (values_in b.first b.sizes fit)
        (flat_in (part_clauses b plant.types) (PartHolds b plant.types) plant.parts (λ p s. part_in plant.types p s) parts))
        (laws_in 0 plant.laws laws)

    -- guards and moves

    guard_in : (base : ℕ) (sign : Bool) (m : Move) → GuardSpeaks b base m → all_in (guard_clauses b base sign m) ≡ true
    guard_in base sign m h = by m.guard h.guard
      where
        by : (o : Option Tree) → option_map_or (speaks_of b base) o true ≡ true → all_in (option_map_or (formula_clauses b base sign) o (when_true sign)) ≡ true
        by None e = when_in sign
        by (Some f) e = formula_in base f e sign

    closed_in : (base mode : ℕ) (ms : List Move) → All (GuardSpeaks b base) ms → all_in (closed_clauses b base mode ms) ≡ true
    closed_in base mode ms h =
        flat_in (guard_clauses b base false) (GuardSpeaks b base) (filter (is_step_from mode) ms) (λ m s. guard_in base false m s) (All-filter (is_step_from mode) (GuardSpeaks b base) ms h)

    goes_in : (base : ℕ) (kind : MoveKind) (moves : List Move) (n : ℕ) (m : Move) → GuardSpeaks b base m → All (GuardSpeaks b base) moves → all_in (goes_clauses kind b base moves n m) ≡ true
    goes_in base Step moves n m own h =
        joined_in (guard_clauses b base true m) (closed_clauses b base m.source.0 (take n moves)) (guard_in base true m own)
        (closed_in base m.source.0 (take n moves) (All-take (GuardSpeaks b base) n moves h))
    goes_in base Stay moves n m own h = closed_in base m.source.0 moves h
    goes_in base Fault moves n m own h = guard_in base true m own

  module _ (a b : Booleans) (fit : a.first + sum a.sizes ≤ bools) (fit_after : b.first + sum b.sizes ≤ bools) where
    move_in : (base choice : ℕ) (moves : List Move) (n : ℕ) (m : Move) → choice + n < bools → GuardSpeaks a base m → MoveSpeaks a b base m → All (GuardSpeaks a base) moves
        → all_in (move_clauses a b base choice moves n m) ≡ true
    move_in base choice moves n m inside own ends h =
        unless_in (literal (choice + n) false) ((value_literal a base m.source.0 true ∷ []) ∷ (value_literal b base m.target.0 true ∷ []) ∷ goes_clauses m.kind a base moves n m)
        (lit_in (choice + n) false inside)
        (joined_in ((value_literal a base m.source.0 true ∷ []) ∷ []) ((value_literal b base m.target.0 true ∷ []) ∷ goes_clauses m.kind a base moves n m)
        (alone_in a fit base m.source.0 true ends.source)
        (joined_in ((value_literal b base m.target.0 true ∷ []) ∷ []) (goes_clauses m.kind a base moves n m) (alone_in b fit_after base m.target.0 true ends.target)
        (goes_in a fit base m.kind moves n m own h)))

    moves_in : (base choice : ℕ) (moves : List Move) (n : ℕ) (ms : List Move) → choice + n + length ms ≤ bools → All (GuardSpeaks a base) ms → All (MoveSpeaks a b base) ms
        → All (GuardSpeaks a base) moves → all_in (moves_clauses a b base choice moves n ms) ≡ true
    moves_in base choice moves n [] inside own ends h = refl
    moves_in base choice moves n (m ∷ ms) inside own ends h =
        joined_in (move_clauses a b base choice moves n m) (moves_clauses a b base choice moves (n + 1) ms)
        (move_in base choice moves n m (omega (arith, inside)) (All-head (GuardSpeaks a base) m ms own) (All-head (MoveSpeaks a b base) m ms ends) h)
        (moves_in base choice moves (n + 1) ms (omega (arith, inside)) (All-tail (GuardSpeaks a base) m ms own) (All-tail (MoveSpeaks a b base) m ms ends) h)

    choice_in : (base choice : ℕ) (t : ComponentType) → choice + length t.moves ≤ bools → MovesSpeak a b base t → all_in (choice_clauses a b base choice t.moves) ≡ true
    choice_in base choice t inside h =
        joined_in (exactly_one choice (length t.moves)) (moves_clauses a b base choice t.moves 0 t.moves) (one_of_in choice (length t.moves) inside)
        (moves_in base choice t.moves 0 t.moves (omega (arith, inside)) h.guards h.ends h.guards)

    part_choice_in : (types : List ComponentType) (choice : ℕ) (p : Part) → choice + part_moves types p ≤ bools → PartSpeaks a b types p → all_in (part_choice_clauses a b types choice p) ≡ true
    part_choice_in types choice p inside h = by (slice_get types p.kind) refl
      where
        by : (o : Option ComponentType) → slice_get types p.kind ≡ o → all_in (part_choice_clauses a b types choice p) ≡ true
        by None kind = rw kind refl
        by (Some t) kind =
            let many : part_moves types p ≡ length t.moves = ap (λ o. option_map_or (λ (u : ComponentType). length u.moves) o 0) kind in
            rw kind (choice_in p.first.0 choice t (omega (arith, inside, many)) (h.kind t kind))

    pub choices_in : (types : List ComponentType) (choice : ℕ) (ps : List Part) → choice + sum_by (part_moves types) ps ≤ bools → All (PartSpeaks a b types) ps → all_in (choices_clauses a b types choice ps) ≡ true
    choices_in types choice [] inside h = refl
    choices_in types choice (p ∷ ps) inside h =
        let total = sum_by-cons (part_moves types) p ps in
        joined_in (part_choice_clauses a b types choice p) (choices_clauses a b types (choice + part_moves types p) ps)
        (part_choice_in types choice p (omega (arith, inside, total)) (All-head (PartSpeaks a b types) p ps h))
        (choices_in types (choice + part_moves types p) ps (omega (arith, inside, total)) (All-tail (PartSpeaks a b types) p ps h))

pub raw_in : (plant : Plant) → is_well_formed plant ≡ true → all_in (bool_count plant) (raw_clauses plant) ≡ true
raw_in plant h =
    let bools = bool_count plant in
    let a : Booleans = booleans_now plant in
    let b : Booleans = booleans_next plant in
    let total = mapped_sum plant.types plant.parts in
    let fit : 0 + sum (sizes plant) ≤ bools = omega arith in
    let fit_after : sum (sizes plant) + sum (sizes plant) ≤ bools = omega arith in
    joined_in bools (copy_clauses a plant ++ copy_clauses b plant) (choices_clauses a b plant.types (first_choice plant) plant.parts)
    (joined_in bools (copy_clauses a plant) (copy_clauses b plant) (copy_in bools a fit plant (parts_hold plant h a refl) (system_speaks plant h a refl))
    (copy_in bools b fit_after plant (parts_hold plant h b refl) (system_speaks plant h b refl)))
    (choices_in bools a b fit fit_after plant.types (first_choice plant) plant.parts (omega (arith, total)) (parts_speak plant h a refl b refl))
