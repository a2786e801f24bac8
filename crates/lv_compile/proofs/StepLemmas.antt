-- The clauses of a plant are all true exactly where the values that are encoded are a step.
use Rattle.std.proofs.Common.{◌≡◌, ◌+◌, ◌<◌, ℕ, zero, suc, Bool, true, false, nat_eq, nat_lt, ◌&&◌, List, [], ◌∷◌, ◌++◌, length, map, take, slice_get, Option, Some, None, refl, ap, ap₂, subst, ◌∙◌, arith}
use Rattle.std.specs.List.{sum, list_all}
use Rattle.std.specs.Option.{option_map_or}
use Rattle.std.proofs.lemmas.Bool.{and_parts}
use Rattle.std.proofs.lemmas.List.Sums.{sum_by-cons}
use Rattle.lv_base.specs.declared.ids.ValId.{ValId}
use Rattle.lv_base.specs.declared.ids.MoveId.{MoveId}
use Rattle.lv_base.specs.declared.range.Range.{Range}
use Rattle.lv_base.specs.Tree.{number_of}
use Rattle.lv_model.specs.declared.plant.Plant.{Plant}
use Rattle.lv_model.specs.declared.plant.ComponentType.{ComponentType}
use Rattle.lv_model.specs.declared.plant.Move.{Move}
use Rattle.lv_model.specs.declared.plant.Part.{Part}
use Rattle.lv_model.specs.Ranges.{type_ranges}
use Rattle.lv_model.specs.Lists.{sizes, part_moves, move_counts}
use Rattle.lv_model.specs.WellFormed.{kind_fits, guard_fits, move_fits, is_well_formed}
use Rattle.lv_model.specs.Meaning.{goes, part_steps, parts_step, is_feasible, is_step}
use Rattle.lv_model.proofs.Reading.{follow_pass}
use Rattle.lv_compile.specs.Booleans.{booleans_from, booleans_now, booleans_next, first_choice}
use Rattle.lv_compile.specs.FormulaClauses.{size_of}
use Rattle.lv_compile.specs.Laws.{are_true, Encode, HaveBooleans, EncodeMoves}
use Rattle.lv_compile.specs.ModelClauses.{copy_clauses, choice_clauses, part_choice_clauses, choices_clauses, raw_clauses, model_clauses}
use Rattle.lv_compile.proofs.FormulaLemmas.{joined_true}
use Rattle.lv_compile.proofs.CleaningLemmas.{cleaned_true}
use Rattle.lv_compile.proofs.RangeLemmas.{have_part}
use Rattle.lv_compile.proofs.SpeakingLemmas.{modes_of, moves}
use Rattle.lv_compile.proofs.CopyLemmas.{copy_exact}
use Rattle.lv_compile.proofs.ChoiceLemmas.{choice_exact}

record Found {X : Type 0} (xs : List X) (n : ℕ) : Type 0 where
  pub item : X
  pub at : slice_get xs n ≡ Some item

found : {X : Type 0} (xs : List X) (n : ℕ) → n < length xs → Found xs n
found [] n below = absurd (omega (arith, below))
found (x ∷ xs) zero below = record { item = x; at = refl }
found (x ∷ xs) (suc n) below = let rest : Found xs n = found xs n (omega (arith, below)) in record { item = rest.item; at = rest.at }

pub weaker : {X : Type 0} (p q : X → Bool) → ((x : X) → p x ≡ true → q x ≡ true) → (xs : List X) → list_all p xs ≡ true → list_all q xs ≡ true
weaker p q f [] h = refl
weaker p q f (x ∷ xs) h = let two = and_parts (p x) (list_all p xs) h in ap₂ (λ (a b : Bool). a && b) (f x two.0) (weaker p q f xs two.1)

ordered : (source target can : Bool) → (source && (target && can)) ≡ ((source && can) && target)
ordered true true can = and_true can
  where
    and_true : (p : Bool) → p ≡ (p && true)
    and_true true = refl
    and_true false = refl
ordered true false true = refl
ordered true false false = refl
ordered false target can = refl

pub grouped : (p q r : Bool) → ((p && q) && r) ≡ (p && (q && r))
grouped true q r = refl
grouped false q r = refl

-- from a copy of the variables that begins at one place to one that begins at another
module _ (plant : Plant) (h : is_well_formed plant ≡ true) (truth : ℕ → Bool) (a b : List ValId) (first behind : ℕ) (now : Encode truth (booleans_from plant first) a) (next : Encode truth (booleans_from plant behind) b) where
  -- what the choice of the part asks for is that the part steps by the move that is chosen
  record IsExact (p : Part) : Type 0 where
    pub exact : (choice chosen : ℕ) → chosen < part_moves plant.types p → ((j : ℕ) → j < part_moves plant.types p → truth (choice + j) ≡ nat_eq chosen j)
        → are_true truth (part_choice_clauses (booleans_from plant first) (booleans_from plant behind) plant.types choice p) ≡ part_steps plant.types a b p chosen

  module _ (n : ℕ) (p : Part) (here : slice_get plant.parts n ≡ Some p) where
    of_type : (t : ComponentType) → slice_get plant.types p.kind ≡ Some t → (choice chosen : ℕ) → chosen < length t.moves → ((j : ℕ) → j < length t.moves → truth (choice + j) ≡ nat_eq chosen j)
        → are_true truth (choice_clauses (booleans_from plant first) (booleans_from plant behind) p.first.0 choice t.moves) ≡ part_steps plant.types a b p chosen
    of_type t kind choice chosen below are =
        let ranges : List Range = type_ranges plant.domains p.kind t in
        let have : HaveBooleans ranges (booleans_from plant first) p.first.0 = have_part plant (booleans_from plant first) refl (follow_pass plant h) n p t here kind in
        let modes : size_of (booleans_from plant first) p.first.0 ≡ length t.modes = modes_of plant h (booleans_from plant first) refl n p t here kind in
        let none_past : p.first.0 + 0 ≡ p.first.0 = omega arith in
        let there : p.first.0 < length (sizes plant) = subst (λ (k : ℕ). k < length (sizes plant)) none_past (have.within 0 _ refl) in
        let fit : list_all (move_fits ranges (length t.modes)) t.moves ≡ true = moves plant h (booleans_from plant first) refl p t kind in
        let guards : list_all (guard_fits ranges) t.moves ≡ true =
        weaker (move_fits ranges (length t.modes)) (guard_fits ranges)
        (λ m e. (and_parts (kind_fits m.kind m) (guard_fits ranges m) (and_parts (nat_lt m.source.0 (length t.modes) && nat_lt m.target.0 (length t.modes)) _ e).1).1) t.moves fit in
        let move : Found t.moves chosen = found t.moves chosen below in
        let m : Move = move.item in
        let at : slice_get t.moves chosen ≡ Some m = move.at in
        choice_exact ranges (booleans_from plant first) p.first.0 have truth a now (booleans_from plant behind) b next there there (length t.modes) modes modes choice t.moves guards chosen m at fit are
        ∙ ordered (nat_eq (number_of a p.first.0) m.source.0) (nat_eq (number_of b p.first.0) m.target.0) (goes m.kind a p.first.0 t.moves chosen m)
        ∙ steps t kind chosen m at
      where
        steps : (t : ComponentType) → slice_get plant.types p.kind ≡ Some t → (chosen : ℕ) (m : Move) → slice_get t.moves chosen ≡ Some m
            → ((nat_eq (number_of a p.first.0) m.source.0 && goes m.kind a p.first.0 t.moves chosen m) && nat_eq (number_of b p.first.0) m.target.0) ≡ part_steps plant.types a b p chosen
        steps t kind chosen m at = rw (kind, at) refl

    part_exact : IsExact p
    part_exact = record { exact = by (slice_get plant.types p.kind) refl }
      where
        by : (o : Option ComponentType) → slice_get plant.types p.kind ≡ o → (choice chosen : ℕ) → chosen < part_moves plant.types p
            → ((j : ℕ) → j < part_moves plant.types p → truth (choice + j) ≡ nat_eq chosen j)
            → are_true truth (part_choice_clauses (booleans_from plant first) (booleans_from plant behind) plant.types choice p) ≡ part_steps plant.types a b p chosen
        by None kind choice chosen below are =
            let none : part_moves plant.types p ≡ 0 = ap (λ o. option_map_or (λ (t : ComponentType). length t.moves) o 0) kind in
            absurd (omega (arith, below, none))
        by (Some t) kind choice chosen below are =
            let many : part_moves plant.types p ≡ length t.moves = ap (λ o. option_map_or (λ (u : ComponentType). length u.moves) o 0) kind in
            ap (λ o. are_true truth (option_map_or (λ (u : ComponentType). choice_clauses (booleans_from plant first) (booleans_from plant behind) p.first.0 choice u.moves) o [])) kind
            ∙ of_type t kind choice chosen (omega (arith, below, many)) (λ j inside. are j (omega (arith, inside, many)))

  parts_exact : (ps : List Part) (ms : List MoveId) (choice : ℕ) → ((k : ℕ) (p : Part) → slice_get ps k ≡ Some p → IsExact p) → EncodeMoves truth choice (map (part_moves plant.types) ps) ms
      → are_true truth (choices_clauses (booleans_from plant first) (booleans_from plant behind) plant.types choice ps) ≡ parts_step plant.types a b ps ms
  parts_exact [] [] choice each code = refl
  parts_exact [] (n ∷ ms) choice each code = let long : length (n ∷ ms) ≡ 0 = code.each in absurd (omega (arith, long))
  parts_exact (p ∷ ps) [] choice each code = let long : 0 ≡ length (part_moves plant.types p ∷ map (part_moves plant.types) ps) = code.each in absurd (omega (arith, long))
  parts_exact (p ∷ ps) (n ∷ ms) choice each code =
      let counts : List ℕ = map (part_moves plant.types) ps in
      let long : length (n ∷ ms) ≡ length (part_moves plant.types p ∷ map (part_moves plant.types) ps) = code.each in
      joined_true truth (part_choice_clauses (booleans_from plant first) (booleans_from plant behind) plant.types choice p)
      (choices_clauses (booleans_from plant first) (booleans_from plant behind) plant.types (choice + part_moves plant.types p) ps)
      ∙ ap₂ (λ (x y : Bool). x && y)
      ((each 0 p refl).exact choice n.0 (code.in_range 0 (omega arith))
      (λ j inside. let e : choice + j ≡ choice + 0 + j = omega arith in ap truth e ∙ code.values 0 j (omega arith) inside))
      (parts_exact ps ms (choice + part_moves plant.types p) (λ k q here. each (suc k) q here)
      (record {
        each = omega (arith, long);
        in_range = λ k inside. code.in_range (suc k) (omega (arith, inside));
        values = λ k j inside below.
            let more = sum_by-cons (λ (x : ℕ). x) (part_moves plant.types p) (take k counts) in
            let e : choice + part_moves plant.types p + sum (take k counts) + j ≡ choice + sum (part_moves plant.types p ∷ take k counts) + j = omega (arith, more) in
            ap truth e ∙ code.values (suc k) j (omega (arith, inside)) below;
      }))

  -- what the choices ask for is that each part steps by its move
  pub moves_exact : (choice : ℕ) (ms : List MoveId) → EncodeMoves truth choice (move_counts plant) ms
      → are_true truth (choices_clauses (booleans_from plant first) (booleans_from plant behind) plant.types choice plant.parts) ≡ parts_step plant.types a b plant.parts ms
  moves_exact choice ms code = parts_exact plant.parts ms choice (λ k p here. part_exact k p here) code

module _ (plant : Plant) (h : is_well_formed plant ≡ true) (truth : ℕ → Bool) (a b : List ValId) (now : Encode truth (booleans_now plant) a) (next : Encode truth (booleans_next plant) b) where
  pub step_exact : (ms : List MoveId) → EncodeMoves truth (first_choice plant) (move_counts plant) ms → are_true truth (model_clauses plant) ≡ is_step plant a b ms
  step_exact ms choice =
      let before : are_true truth (copy_clauses (booleans_now plant) plant) ≡ is_feasible plant a = copy_exact plant h (booleans_now plant) refl truth a now in
      let after : are_true truth (copy_clauses (booleans_next plant) plant) ≡ is_feasible plant b = copy_exact plant h (booleans_next plant) refl truth b next in
      cleaned_true truth (raw_clauses plant)
      ∙ joined_true truth (copy_clauses (booleans_now plant) plant ++ copy_clauses (booleans_next plant) plant)
      (choices_clauses (booleans_now plant) (booleans_next plant) plant.types (first_choice plant) plant.parts)
      ∙ ap₂ (λ (x y : Bool). x && y)
      (joined_true truth (copy_clauses (booleans_now plant) plant) (copy_clauses (booleans_next plant) plant) ∙ ap₂ (λ (x y : Bool). x && y) before after)
      (moves_exact plant h truth a b 0 (sum (sizes plant)) now next (first_choice plant) ms choice)
      ∙ grouped (is_feasible plant a) (is_feasible plant b) (parts_step plant.types a b plant.parts ms)
