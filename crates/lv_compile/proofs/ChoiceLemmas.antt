-- The clauses of a part's choice are all true exactly where the part steps by its move.
use Rattle.std.proofs.Common.{◌≡◌, ◌+◌, ◌<◌, ◌≤◌, ℕ, zero, suc, Bool, true, false, not, nat_eq, nat_lt, ◌&&◌, ◌||◌, List, [], ◌∷◌, length, take, slice_get, Option, Some, None, refl, sym, ap, ap₂, ◌∙◌, arith}
use Rattle.std.specs.List.{list_all, list_any}
use Rattle.std.specs.Option.{option_map_or}
use Rattle.std.proofs.lemmas.Bool.{and_parts}
use Rattle.std.proofs.lemmas.Option.{slice_get_within}
use Rattle.lv_base.specs.declared.ids.ValId.{ValId}
use Rattle.lv_clauses.specs.Literals.{same_truth}
use Rattle.lv_base.specs.declared.range.Range.{Range}
use Rattle.lv_base.specs.Tree.{Tree, truth_of, number_of}
use Rattle.lv_base.specs.Fits.{fits}
use Rattle.lv_model.specs.declared.plant.Move.{Move}
use Rattle.lv_model.specs.declared.plant.MoveKind.{MoveKind}
use Rattle.lv_model.specs.declared.plant.MoveKind.TheVariants.{Step, Stay, Fault}
use Rattle.lv_model.specs.WellFormed.{kind_fits, guard_fits, move_fits}
use Rattle.lv_model.specs.Meaning.{is_open, is_step_kind, is_open_step, goes}
use Rattle.lv_compile.specs.Booleans.{Booleans, value_bool, value_literal, literal}
use Rattle.lv_compile.specs.FormulaClauses.{size_of, when_true, formula_clauses}
use Rattle.lv_compile.specs.Laws.{are_true, Encode, HaveBooleans}
use Rattle.lv_compile.specs.ModelClauses.{guard_clauses, closed_clauses, goes_clauses, move_clauses, moves_clauses, choice_clauses, exactly_one}
use Rattle.lv_compile.proofs.FormulaLemmas.{joined_true, as_true, as_false, exact}
use Rattle.lv_compile.proofs.CopyLemmas.{unless_true}
use Rattle.lv_compile.proofs.ChosenLemmas.{one_of_row}

pub all_taken : {X : Type 0} (p : X → Bool) (n : ℕ) (xs : List X) → list_all p xs ≡ true → list_all p (take n xs) ≡ true
all_taken p zero xs h = refl
all_taken p (suc n) [] h = refl
all_taken p (suc n) (x ∷ xs) h = let two = and_parts (p x) (list_all p xs) h in ap₂ (λ (a b : Bool). a && b) two.0 (all_taken p n xs two.1)

module _ (ranges : List Range) (b : Booleans) (base : ℕ) (have : HaveBooleans ranges b base) (truth : ℕ → Bool) (a : List ValId) (code : Encode truth b a) where
  option_exact : (o : Option Tree) → option_map_or (fits ranges) o true ≡ true → (sign : Bool)
      → are_true truth (option_map_or (formula_clauses b base sign) o (when_true sign)) ≡ same_truth (option_map_or (truth_of a base) o true) sign
  option_exact None h true = refl
  option_exact None h false = refl
  option_exact (Some f) h sign = exact ranges b base have truth a code f h sign

  guard_exact : (m : Move) → guard_fits ranges m ≡ true → (sign : Bool) → are_true truth (guard_clauses b base sign m) ≡ same_truth (is_open a base m) sign
  guard_exact m h sign = option_exact m.guard h sign

  closed_exact : (mode : ℕ) (ms : List Move) → list_all (guard_fits ranges) ms ≡ true → are_true truth (closed_clauses b base mode ms) ≡ not (list_any (is_open_step a base mode) ms)
  closed_exact mode [] h = refl
  closed_exact mode (m ∷ ms) h = by (is_step_kind m.kind) refl (nat_eq m.source.0 mode) refl (is_open a base m) refl (closed_exact mode ms two.1)
    where
      two : (guard_fits ranges m ≡ true) × (list_all (guard_fits ranges) ms ≡ true)
      two = and_parts (guard_fits ranges m) (list_all (guard_fits ranges) ms) h

      by : (s : Bool) → is_step_kind m.kind ≡ s → (e : Bool) → nat_eq m.source.0 mode ≡ e → (o : Bool) → is_open a base m ≡ o
          → are_true truth (closed_clauses b base mode ms) ≡ not (list_any (is_open_step a base mode) ms)
          → are_true truth (closed_clauses b base mode (m ∷ ms)) ≡ not (list_any (is_open_step a base mode) (m ∷ ms))
      by true f true g true k rest =
          let denied = guard_exact m two.0 false in
          rw (f, g) (joined_true truth (guard_clauses b base false m) (closed_clauses b base mode ms) ∙ ap₂ (λ (x y : Bool). x && y) (denied ∙ ap (λ (x : Bool). same_truth x false) k) rest ∙ sym (ap (λ (x : Bool). not (x || list_any (is_open_step a base mode) ms)) k))
      by true f true g false k rest =
          let denied = guard_exact m two.0 false in
          rw (f, g) (joined_true truth (guard_clauses b base false m) (closed_clauses b base mode ms) ∙ ap₂ (λ (x y : Bool). x && y) (denied ∙ ap (λ (x : Bool). same_truth x false) k) rest ∙ sym (ap (λ (x : Bool). not (x || list_any (is_open_step a base mode) ms)) k))
      by true f false g o k rest = rw (f, g) rest
      by false f e g o k rest = rw (f) rest

  goes_exact : (kind : MoveKind) (moves : List Move) (n : ℕ) (m : Move) → guard_fits ranges m ≡ true → list_all (guard_fits ranges) moves ≡ true
      → are_true truth (goes_clauses kind b base moves n m) ≡ goes kind a base moves n m
  goes_exact Step moves n m own all =
      joined_true truth (guard_clauses b base true m) (closed_clauses b base m.source.0 (take n moves))
      ∙ ap₂ (λ (x y : Bool). x && y) (guard_exact m own true ∙ as_true (is_open a base m)) (closed_exact m.source.0 (take n moves) (all_taken (guard_fits ranges) n moves all))
  goes_exact Stay moves n m own all = closed_exact m.source.0 moves all
  goes_exact Fault moves n m own all = guard_exact m own true ∙ as_true (is_open a base m)

  -- the choice of one move

  module _ (c : Booleans) (after : List ValId) (later : Encode truth c after) (there : base < length b.sizes) (there_after : base < length c.sizes) where
    abbrev tells : List Move → ℕ → Move → Bool
    tells moves n m = nat_eq (number_of a base) m.source.0 && (nat_eq (number_of after base) m.target.0 && goes m.kind a base moves n m)

    body_exact : (moves : List Move) (n : ℕ) (m : Move) → m.source.0 < size_of b base → m.target.0 < size_of c base → guard_fits ranges m ≡ true → list_all (guard_fits ranges) moves ≡ true
        → are_true truth ((value_literal b base m.source.0 true ∷ []) ∷ (value_literal c base m.target.0 true ∷ []) ∷ goes_clauses m.kind b base moves n m) ≡ tells moves n m
    body_exact moves n m source target own all =
        ap₂ (λ (x y : Bool). x && y) (alone (truth (value_bool b base m.source.0)) ∙ code.values base m.source.0 there source)
        (ap₂ (λ (x y : Bool). x && y) (alone (truth (value_bool c base m.target.0)) ∙ later.values base m.target.0 there_after target) (goes_exact m.kind moves n m own all))
      where
        alone : (p : Bool) → (same_truth p true || false) ≡ p
        alone true = refl
        alone false = refl

    module _ (modes : ℕ) (all_modes : size_of b base ≡ modes) (also : size_of c base ≡ modes) (choice : ℕ) (moves : List Move) (all : list_all (guard_fits ranges) moves ≡ true) (chosen : ℕ) where
      -- what the choice of the n-th move asks for, if it is chosen
      one_move : (n : ℕ) (m : Move) → move_fits ranges modes m ≡ true → truth (choice + n) ≡ nat_eq chosen n → are_true truth (move_clauses b c base choice moves n m) ≡ (not (nat_eq chosen n) || tells moves n m)
      one_move n m fit here =
          let ends = and_parts (nat_lt m.source.0 modes) (nat_lt m.target.0 modes) (and_parts (nat_lt m.source.0 modes && nat_lt m.target.0 modes) _ fit).0 in
          let own = (and_parts (kind_fits m.kind m) (guard_fits ranges m) (and_parts (nat_lt m.source.0 modes && nat_lt m.target.0 modes) _ fit).1).1 in
          let source = ends.0 in
          let target = ends.1 in
          unless_true truth (literal (choice + n) false) ((value_literal b base m.source.0 true ∷ []) ∷ (value_literal c base m.target.0 true ∷ []) ∷ goes_clauses m.kind b base moves n m)
          ∙ ap₂ (λ (x y : Bool). x || y) (ap (λ (t : Bool). same_truth t false) here ∙ as_false (nat_eq chosen n))
          (body_exact moves n m (grind (arith, source, all_modes)) (grind (arith, target, also)) own all)

      -- none of the moves behind the chosen one asks for anything
      behind : (ms : List Move) (n : ℕ) → chosen < n → list_all (move_fits ranges modes) ms ≡ true → ((k : ℕ) → n ≤ k → k < n + length ms → truth (choice + k) ≡ nat_eq chosen k)
          → are_true truth (moves_clauses b c base choice moves n ms) ≡ true
      behind [] n past fit are = refl
      behind (m ∷ ms) n past fit are =
          let two = and_parts (move_fits ranges modes m) (list_all (move_fits ranges modes) ms) fit in
          let other : nat_eq chosen n ≡ false = grind (arith, past) in
          joined_true truth (move_clauses b c base choice moves n m) (moves_clauses b c base choice moves (n + 1) ms)
          ∙ ap₂ (λ (x y : Bool). x && y)
          (one_move n m two.0 (are n (omega arith) (omega arith)) ∙ ap (λ (x : Bool). not x || tells moves n m) other)
          (behind ms (n + 1) (omega (arith, past)) two.1 (λ k low high. are k (omega (arith, low)) (omega (arith, high))))

      -- they ask for what the chosen one does
      among : (ms : List Move) (n k : ℕ) (m : Move) → chosen ≡ n + k → slice_get ms k ≡ Some m → list_all (move_fits ranges modes) ms ≡ true
          → ((j : ℕ) → n ≤ j → j < n + length ms → truth (choice + j) ≡ nat_eq chosen j) → are_true truth (moves_clauses b c base choice moves n ms) ≡ tells moves chosen m
      among [] n k m is here fit are = absurd (cc)
      among (x ∷ ms) n zero m is here fit are =
          let two = and_parts (move_fits ranges modes x) (list_all (move_fits ranges modes) ms) fit in
          let same : x ≡ m = cc here in
          let number : n ≡ chosen = omega (arith, is) in
          let own : nat_eq chosen n ≡ true = grind (arith, number) in
          joined_true truth (move_clauses b c base choice moves n x) (moves_clauses b c base choice moves (n + 1) ms)
          ∙ ap₂ (λ (p q : Bool). p && q)
          (one_move n x two.0 (are n (omega arith) (omega arith)) ∙ ap (λ (p : Bool). not p || tells moves n x) own)
          (behind ms (n + 1) (omega (arith, number)) two.1 (λ j low high. are j (omega (arith, low)) (omega (arith, high))))
          ∙ and_true (tells moves n x)
          ∙ ap₂ (λ (j : ℕ) (y : Move). tells moves j y) number same
        where
          and_true : (p : Bool) → (p && true) ≡ p
          and_true true = refl
          and_true false = refl
      among (x ∷ ms) n (suc k) m is here fit are =
          let two = and_parts (move_fits ranges modes x) (list_all (move_fits ranges modes) ms) fit in
          let other : nat_eq chosen n ≡ false = grind (arith, is) in
          joined_true truth (move_clauses b c base choice moves n x) (moves_clauses b c base choice moves (n + 1) ms)
          ∙ ap₂ (λ (p q : Bool). p && q)
          (one_move n x two.0 (are n (omega arith) (omega arith)) ∙ ap (λ (p : Bool). not p || tells moves n x) other)
          (among ms (n + 1) k m (omega (arith, is)) here two.1 (λ j low high. are j (omega (arith, low)) (omega (arith, high))))

      pub choice_exact : (m : Move) → slice_get moves chosen ≡ Some m → list_all (move_fits ranges modes) moves ≡ true → ((n : ℕ) → n < length moves → truth (choice + n) ≡ nat_eq chosen n)
          → are_true truth (choice_clauses b c base choice moves) ≡ (nat_eq (number_of a base) m.source.0 && (nat_eq (number_of after base) m.target.0 && goes m.kind a base moves chosen m))
      choice_exact m here fit are =
          joined_true truth (exactly_one choice (length moves)) (moves_clauses b c base choice moves 0 moves)
          ∙ ap₂ (λ (p q : Bool). p && q) (one_of_row truth chosen choice (length moves) are (slice_get_within moves chosen m here))
          (among moves 0 chosen m (omega arith) here fit (λ j low high. are j (omega (arith, high))))
