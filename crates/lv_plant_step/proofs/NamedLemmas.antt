-- What the literals of named moves say where truth values encode a full choice, and that they are of booleans that there are.
use Rattle.std.proofs.Common.{◌≡◌, ◌+◌, ◌<◌, ◌≤◌, ℕ, zero, suc, Bool, true, false, not, ◌&&◌, ◌||◌, nat_eq, if◌then◌else◌, List, [], ◌∷◌, length, map, drop, get_or, slice_get, Option, Some, None, refl, sym, ap, ap₂, ◌∙◌, arith, All}
use Rattle.std.specs.List.{list_all}
use Rattle.std.specs.Option.{option_map_or, option_and_then}
use Rattle.std.specs.Cmp.Lexicographic.{pointwise}
use Rattle.std.proofs.lemmas.Bool.{and_parts, ltb-true}
use Rattle.std.proofs.lemmas.List.{drop_more}
use Rattle.std.proofs.lemmas.List.Elements.{All-cons, All-append, All-nil}
use Rattle.std.proofs.lemmas.List.Folds.{list_all-append}
use Rattle.lv_base.specs.declared.ids.Lit.{Lit}
use Rattle.lv_base.specs.declared.ids.MoveId.{MoveId}
use Rattle.lv_model.specs.declared.plant.Plant.{Plant}
use Rattle.lv_model.specs.declared.plant.ComponentType.{ComponentType}
use Rattle.lv_model.specs.declared.plant.Part.{Part}
use Rattle.lv_model.specs.declared.plant.Move.{Move}
use Rattle.lv_model.specs.Lists.{part_moves, move_counts}
use Rattle.lv_model.specs.Meaning.{is_no_fault, part_is_nominal}
use Rattle.lv_meaning.specs.Candidates.{type_moves}
use Rattle.lv_system.specs.lv_compile.Booleans.{bool_count}
use Rattle.lv_system.specs.lv_compile.Laws.{literal_is_true, EncodeMoves, move_number}
use Rattle.lv_system.specs.Choices.{Choices, move_count, choice_literal}
use Rattle.lv_system.proofs.LiteralLemmas.{choice_true, choice_false, choice_in_range}
use Rattle.lv_ident.specs.Literals.{plant_choices}
use Rattle.lv_plant_step.specs.PlantSteps.{is_as_named, are_as_named, fault_fits}
use Rattle.lv_plant_step.specs.Literals.{no_fault_literals, named_literals, move_literals}
use Rattle.lv_plant_step.specs.Assuming.{IsLit}

and_true : (b : Bool) → (b && true) ≡ b
and_true true = refl
and_true false = refl

or_true : (b : Bool) → (b || true) ≡ true
or_true true = refl
or_true false = refl

or_false : (b : Bool) → (b || false) ≡ b
or_false true = refl
or_false false = refl

-- a literal is asked for only of a fault
asked_or : (test : Lit → Bool) (b : Bool) (l : Lit) (ls : List Lit) → list_all test (if b then ls else l ∷ ls) ≡ ((b || test l) && list_all test ls)
asked_or test true l ls = refl
asked_or test false l ls = refl

-- as many moves as the part's type has
pub counted : (types : List ComponentType) (p : Part) → part_moves types p ≡ length (type_moves types p)
counted types p = by (slice_get types p.kind)
  where
    by : (o : Option ComponentType) → option_map_or (λ (t : ComponentType). length t.moves) o 0 ≡ length (option_map_or (λ (t : ComponentType). t.moves) o [])
    by None = refl
    by (Some t) = refl

module _ (truth : ℕ → Bool) (c : Choices) (ms : List MoveId) (code : EncodeMoves truth c.first c.counts ms) where
  denied : (k n : ℕ) → n < move_count c k → (nat_eq (move_number ms k) n ≡ false) → literal_is_true truth (choice_literal c k n false) ≡ true
  denied k n below other = choice_false truth c ms code k n below ∙ ap not other

  -- a part whose move stands before these
  before_all : (k n : ℕ) (moves : List Move) → move_number ms k < n → n + length moves ≤ move_count c k → list_all (literal_is_true truth) (no_fault_literals c k n moves) ≡ true
  before_all k n [] less within = refl
  before_all k n (m ∷ rest) less within =
      let other : nat_eq (move_number ms k) n ≡ false = grind (arith, less) in
      asked_or (literal_is_true truth) (is_no_fault m.kind) (choice_literal c k n false) (no_fault_literals c k (n + 1) rest)
      ∙ ap₂ (λ (a b : Bool). (is_no_fault m.kind || a) && b) (denied k n (omega (arith, within)) other) (before_all k (n + 1) rest (omega (arith, less)) (omega (arith, within)))
      ∙ ap (λ b. b && true) (or_true (is_no_fault m.kind))

  -- the part's move is the i-th of these
  no_fault_at : (k n i : ℕ) (moves : List Move) → move_number ms k ≡ n + i → i < length moves → n + length moves ≤ move_count c k
      → list_all (literal_is_true truth) (no_fault_literals c k n moves) ≡ option_map_or (λ (m : Move). is_no_fault m.kind) (slice_get moves i) false
  no_fault_at k n i [] is below within = absurd (omega (arith, below))
  no_fault_at k n zero (m ∷ rest) is below within =
      let same : nat_eq (move_number ms k) n ≡ true = grind (arith, is) in
      asked_or (literal_is_true truth) (is_no_fault m.kind) (choice_literal c k n false) (no_fault_literals c k (n + 1) rest)
      ∙ ap₂ (λ (a b : Bool). (is_no_fault m.kind || a) && b) (choice_false truth c ms code k n (omega (arith, within)) ∙ ap not same) (before_all k (n + 1) rest (omega (arith, is)) (omega (arith, within)))
      ∙ and_true (is_no_fault m.kind || false)
      ∙ or_false (is_no_fault m.kind)
  no_fault_at k n (suc i) (m ∷ rest) is below within =
      let other : nat_eq (move_number ms k) n ≡ false = grind (arith, is) in
      asked_or (literal_is_true truth) (is_no_fault m.kind) (choice_literal c k n false) (no_fault_literals c k (n + 1) rest)
      ∙ ap₂ (λ (a b : Bool). (is_no_fault m.kind || a) && b) (denied k n (omega (arith, within)) other) (no_fault_at k (n + 1) i rest (omega (arith, is)) (omega (arith, below)) (omega (arith, within)))
      ∙ ap (λ b. b && option_map_or (λ (x : Move). is_no_fault x.kind) (slice_get rest i) false) (or_true (is_no_fault m.kind))

  part_no_fault : (types : List ComponentType) (p : Part) (k : ℕ) → move_number ms k < move_count c k → move_count c k ≡ length (type_moves types p)
      → list_all (literal_is_true truth) (no_fault_literals c k 0 (type_moves types p)) ≡ part_is_nominal types p (move_number ms k)
  part_no_fault types p k below count =
      no_fault_at k 0 (move_number ms k) (type_moves types p) (omega arith) (omega (arith, below, count)) (omega (arith, count)) ∙ by (slice_get types p.kind)
    where
      by : (o : Option ComponentType)
          → option_map_or (λ (m : Move). is_no_fault m.kind) (slice_get (option_map_or (λ (t : ComponentType). t.moves) o []) (move_number ms k)) false
          ≡ option_map_or (λ (m : Move). is_no_fault m.kind) (option_and_then (λ (t : ComponentType). slice_get t.moves (move_number ms k)) o) false
      by None = refl
      by (Some t) = refl

  part_as_named : (types : List ComponentType) (p : Part) (k : ℕ) (f : Option MoveId) → move_number ms k < move_count c k → move_count c k ≡ length (type_moves types p)
      → fault_fits f (move_count c k) ≡ true → list_all (literal_is_true truth) (named_literals c k (type_moves types p) f) ≡ is_as_named types p f (move_number ms k)
  part_as_named types p k None below count fits = part_no_fault types p k below count
  part_as_named types p k (Some m) below count fits =
      and_true (literal_is_true truth (choice_literal c k m.0 true)) ∙ choice_true truth c ms code k m.0 (ltb-true m.0 (move_count c k) fits)

-- what stands at a place, and behind it
pub record StandsAt {X : Type 0} (xs : List X) (k : ℕ) (d y : X) (ys : List X) : Type 0 where
  pub within : k < length xs
  pub is : get_or xs k d ≡ y
  pub behind : drop (k + 1) xs ≡ ys

pub stands_at : {X : Type 0} (xs : List X) (k : ℕ) (d y : X) (ys : List X) → drop k xs ≡ y ∷ ys → StandsAt xs k d y ys
stands_at [] zero d y ys is = absurd (cc is)
stands_at [] (suc k) d y ys is = absurd (cc is)
stands_at (x ∷ xs) zero d y ys is = let here : x ≡ y = cc is in let rest : xs ≡ ys = cc is in record { within = omega arith; is = here; behind = rest }
stands_at (x ∷ xs) (suc k) d y ys is =
    let more : StandsAt xs k d y ys = stands_at xs k d y ys is in
    let within = more.within in
    let next : suc k + 1 ≡ suc (k + 1) = omega arith in
    record { within = omega (arith, within); is = more.is; behind = ap (λ (n : ℕ). drop n (x ∷ xs)) next ∙ more.behind }

module _ (truth : ℕ → Bool) (c : Choices) (ms : List MoveId) (code : EncodeMoves truth c.first c.counts ms) (types : List ComponentType) where
  pub moves_as_named : (k : ℕ) (ps : List Part) (fs : List (Option MoveId)) → drop k c.counts ≡ map (part_moves types) ps → pointwise fault_fits fs (map (part_moves types) ps) ≡ true
      → list_all (literal_is_true truth) (move_literals types c k ps fs) ≡ are_as_named types ps fs (drop k ms)
  moves_as_named k [] [] counts fit = refl
  moves_as_named k [] (f ∷ fs) counts fit = absurd (cc fit)
  moves_as_named k (p ∷ ps) [] counts fit = absurd (cc fit)
  moves_as_named k (p ∷ ps) (f ∷ fs) counts fit =
      let at : StandsAt c.counts k 0 (part_moves types p) (map (part_moves types) ps) = stands_at c.counts k 0 (part_moves types p) (map (part_moves types) ps) counts in
      let within = at.within in
      let each = code.each in
      let two = and_parts (fault_fits f (part_moves types p)) (pointwise fault_fits fs (map (part_moves types) ps)) fit in
      let left : drop k ms ≡ record { 0 = move_number ms k } ∷ drop (k + 1) ms = drop_more ms k (record { 0 = 0 }) (omega (arith, within, each)) in
      list_all-append (literal_is_true truth) (named_literals c k (type_moves types p) f) (move_literals types c (k + 1) ps fs)
      ∙ ap₂ (λ (a b : Bool). a && b)
      (part_as_named truth c ms code types p k f (code.in_range k within) (at.is ∙ counted types p) (ap (fault_fits f) at.is ∙ two.0))
      (moves_as_named (k + 1) ps fs at.behind two.1)
      ∙ sym (ap (are_as_named types (p ∷ ps) (f ∷ fs)) left)

-- a move that is named fits the part that it is named of
pub fits_at : (fs : List (Option MoveId)) (ns : List ℕ) → pointwise fault_fits fs ns ≡ true → (k : ℕ) → fault_fits (get_or fs k None) (get_or ns k 0) ≡ true
fits_at [] ns h k = refl
fits_at (f ∷ fs) [] h k = absurd (cc h)
fits_at (f ∷ fs) (n ∷ ns) h zero = (and_parts (fault_fits f n) (pointwise fault_fits fs ns) h).0
fits_at (f ∷ fs) (n ∷ ns) h (suc k) = fits_at fs ns ((and_parts (fault_fits f n) (pointwise fault_fits fs ns) h).1) k

-- the literals are of booleans that there are

module _ (plant : Plant) where
  abbrev chosen : Choices
  chosen = plant_choices plant

  no_faults_are_lits : (k n : ℕ) (moves : List Move) → n + length moves ≤ move_count chosen k → All (IsLit (bool_count plant)) (no_fault_literals chosen k n moves)
  no_faults_are_lits k n [] within = All-nil (IsLit (bool_count plant))
  no_faults_are_lits k n (m ∷ rest) within = by (is_no_fault m.kind) (no_faults_are_lits k (n + 1) rest (omega (arith, within)))
    where
      by : (b : Bool) → All (IsLit (bool_count plant)) (no_fault_literals chosen k (n + 1) rest)
          → All (IsLit (bool_count plant)) (if b then no_fault_literals chosen k (n + 1) rest else choice_literal chosen k n false ∷ no_fault_literals chosen k (n + 1) rest)
      by true all = all
      by false all =
          All-cons (IsLit (bool_count plant)) (choice_literal chosen k n false) (no_fault_literals chosen k (n + 1) rest)
          (record { below = choice_in_range plant false k n (omega (arith, within)) }) all

  named_are_lits : (types : List ComponentType) (p : Part) (k : ℕ) (f : Option MoveId) → move_count chosen k ≡ length (type_moves types p) → fault_fits f (move_count chosen k) ≡ true
      → All (IsLit (bool_count plant)) (named_literals chosen k (type_moves types p) f)
  named_are_lits types p k None count fits = no_faults_are_lits k 0 (type_moves types p) (omega (arith, count))
  named_are_lits types p k (Some m) count fits =
      All-cons (IsLit (bool_count plant)) (choice_literal chosen k m.0 true) [] (record { below = choice_in_range plant true k m.0 (ltb-true m.0 (move_count chosen k) fits) }) (All-nil (IsLit (bool_count plant)))

  pub moves_are_lits : (types : List ComponentType) (k : ℕ) (ps : List Part) (fs : List (Option MoveId)) → drop k (move_counts plant) ≡ map (part_moves types) ps
      → pointwise fault_fits fs (map (part_moves types) ps) ≡ true → All (IsLit (bool_count plant)) (move_literals types chosen k ps fs)
  moves_are_lits types k [] fs counts fit = All-nil (IsLit (bool_count plant))
  moves_are_lits types k (p ∷ ps) [] counts fit = absurd (cc fit)
  moves_are_lits types k (p ∷ ps) (f ∷ fs) counts fit =
      let at : StandsAt (move_counts plant) k 0 (part_moves types p) (map (part_moves types) ps) = stands_at (move_counts plant) k 0 (part_moves types p) (map (part_moves types) ps) counts in
      let two = and_parts (fault_fits f (part_moves types p)) (pointwise fault_fits fs (map (part_moves types) ps)) fit in
      All-append (IsLit (bool_count plant)) (named_literals chosen k (type_moves types p) f) (move_literals types chosen (k + 1) ps fs)
      (named_are_lits types p k f (at.is ∙ counted types p) (ap (fault_fits f) at.is ∙ two.0)) (moves_are_lits types (k + 1) ps fs at.behind two.1)
