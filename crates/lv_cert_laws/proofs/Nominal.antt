-- What a nominal step makes true: the literals of modes, of controls and of no fault.
use Rattle.std.proofs.Common.{◌≡◌, ℕ, zero, suc, ◌+◌, ◌<◌, Bool, true, false, not, nat_eq, List, [], ◌∷◌, length, Option, Some, None, All, cond, slice_get, slice_index_or, refl, sym, subst, ◌∙◌, ap, arith}
use Rattle.std.specs.Prelude.{map}
use Rattle.std.specs.Option.{option_map_or, option_and_then}
use Rattle.std.specs.List.{list_all}
use Rattle.std.proofs.lemmas.Bool.{and_parts, and_from, eqb-true}
use Rattle.std.proofs.lemmas.Option.{get_or_from_slice_get, slice_get_within}
use Rattle.std.proofs.lemmas.List.{length-map, get_or-map}
use Rattle.std.proofs.lemmas.List.Elements.{All-tail}
use Rattle.std.proofs.lemmas.List.Folds.{list_all-append}
use Rattle.lv_cert_meaning.specs.lv_base.declared.ids.MoveId.{MoveId}
use Rattle.lv_cert_meaning.specs.lv_base.declared.ids.ValId.{ValId}
use Rattle.lv_cert_meaning.specs.lv_base.declared.ids.VarId.{VarId}
use Rattle.lv_cert_meaning.specs.lv_base.declared.search.Pair.{Pair}
use Rattle.lv_cert_meaning.specs.lv_base.Tree.{number_of}
use Rattle.lv_cert_meaning.specs.lv_model.declared.plant.Plant.{Plant}
use Rattle.lv_cert_meaning.specs.lv_model.declared.plant.ComponentType.{ComponentType}
use Rattle.lv_cert_meaning.specs.lv_model.declared.plant.Move.{Move}
use Rattle.lv_cert_meaning.specs.lv_model.declared.plant.Part.{Part}
use Rattle.lv_cert_meaning.specs.lv_model.Lists.{sizes, variable_count, part_moves, move_counts, controls, IsVariable}
use Rattle.lv_cert_meaning.specs.lv_model.Meaning.{is_no_fault, part_is_nominal, parts_are_nominal, is_nominal}
use Rattle.lv_cert_meaning.specs.lv_model.WellFormed.{is_well_formed, PartReads}
use Rattle.lv_cert_meaning.proofs.lv_model.Controls.{controls-in_range}
use Rattle.lv_cert_meaning.proofs.lv_model.Reading.{All-at, parts-of_well_formed}
use Rattle.lv_cert_meaning.proofs.lv_model.Sizes.{length-sizes}
use Rattle.lv_cert_meaning.specs.lv_meaning.Candidates.{type_moves}
use Rattle.lv_cert_meaning.specs.lv_compile.Booleans.{value_literal, booleans_now, first_choice, choice_bool, literal}
use Rattle.lv_cert_meaning.specs.lv_compile.Laws.{literal_is_true, Encode, EncodeMoves}
use Rattle.lv_cert_meaning.proofs.lv_compile.FormulaLemmas.{as_true, as_false}
use Rattle.lv_cert_meaning.specs.lv_meaning.Recovers.{has_modes, has_control, has_controls}
use Rattle.lv_cert_meaning.specs.Units.{mode_literals, no_fault_of, no_fault_literals, control_literal}
use Rattle.lv_cert_laws.proofs.Options.{tested}

module _ (plant : Plant) (h : is_well_formed plant ≡ true) (truth : ℕ → Bool) (a : List ValId) (code : Encode truth (booleans_now plant) a) where
  valued_true : (x v : ℕ) → x < length (sizes plant) → nat_eq (number_of a x) v ≡ true → literal_is_true truth (value_literal (booleans_now plant) x v true) ≡ true
  valued_true x v there is =
      let same : number_of a x ≡ v = eqb-true (number_of a x) v is in
      let below = code.in_range x there in
      as_true _ ∙ code.values x v there (omega (arith, same, below)) ∙ is

  parts_in_modes : (ps : List Part) (vs : List ValId) → All (PartReads (variable_count plant) plant.types) ps → has_modes ps vs a ≡ true
      → list_all (literal_is_true truth) (mode_literals plant ps vs) ≡ true
  parts_in_modes [] vs read has = refl
  parts_in_modes (p ∷ ps) [] read has = refl
  parts_in_modes (p ∷ ps) (v ∷ vs) read has =
      let two = and_parts (nat_eq (number_of a p.first.0) v.0) (has_modes ps vs a) has in
      let first = (read 0 p (omega arith)).first in
      let long = length-sizes plant in
      and_from (literal_is_true truth (value_literal (booleans_now plant) p.first.0 v.0 true)) (list_all (literal_is_true truth) (mode_literals plant ps vs))
      (valued_true p.first.0 v.0 (omega (arith, first, long)) two.0)
      (parts_in_modes ps vs (All-tail (PartReads (variable_count plant) plant.types) p ps read) two.1)

  pub modes_true : (vs : List ValId) → has_modes plant.parts vs a ≡ true → list_all (literal_is_true truth) (mode_literals plant plant.parts vs) ≡ true
  modes_true vs has = parts_in_modes plant.parts vs (parts-of_well_formed plant h) has

  pub controls_true : (pairs : List Pair) → has_controls (controls plant) a pairs ≡ true → list_all (literal_is_true truth) (map (control_literal plant) pairs) ≡ true
  controls_true [] has = refl
  controls_true (p ∷ ps) has =
      let two = and_parts (has_control (controls plant) a p) (has_controls (controls plant) a ps) has in
      let found = tested (λ (c : VarId). nat_eq (number_of a c.0) p.choice) (slice_get (controls plant) p.slot) two.0 in
      let c : VarId = found.0 in
      let below = (All-at (IsVariable (variable_count plant)) (controls plant) p.slot c (controls-in_range plant h) found.1).below in
      let long = length-sizes plant in
      let same : slice_index_or (controls plant) p.slot (record { 0 = 0 }) ≡ c = get_or_from_slice_get (controls plant) p.slot c (record { 0 = 0 }) found.1 in
      and_from (literal_is_true truth (control_literal plant p)) (list_all (literal_is_true truth) (map (control_literal plant) ps))
      (ap (λ (x : VarId). literal_is_true truth (value_literal (booleans_now plant) x.0 p.choice true)) same ∙ valued_true c.0 p.choice (omega (arith, below, long)) found.2)
      (controls_true ps two.1)

-- the move of a part among nominal moves is nominal
nominal_at : (types : List ComponentType) (ps : List Part) (ms : List MoveId) → parts_are_nominal types ps ms ≡ true → (k : ℕ) (p : Part) → slice_get ps k ≡ Some p
    → part_is_nominal types p (slice_index_or ms k (record { 0 = 0 })).0 ≡ true
nominal_at types [] ms all k p at = absurd (cc at)
nominal_at types (q ∷ qs) [] all k p at = absurd (cc all)
nominal_at types (q ∷ qs) (m ∷ ms) all zero p at =
    let same : q ≡ p = cc at in
    subst (λ (x : Part). part_is_nominal types x m.0 ≡ true) same (and_parts (part_is_nominal types q m.0) (parts_are_nominal types qs ms) all).0
nominal_at types (q ∷ qs) (m ∷ ms) all (suc k) p at = nominal_at types qs ms (and_parts (part_is_nominal types q m.0) (parts_are_nominal types qs ms) all).1 k p at

moved : (o : Option ComponentType) (n : ℕ) → option_and_then (λ (t : ComponentType). slice_get t.moves n) o ≡ slice_get (option_map_or (λ (t : ComponentType). t.moves) o []) n
moved None n = refl
moved (Some t) n = refl

counted : (o : Option ComponentType) → option_map_or (λ (t : ComponentType). length t.moves) o 0 ≡ length (option_map_or (λ (t : ComponentType). t.moves) o [])
counted None = refl
counted (Some t) = refl

module _ (plant : Plant) (truth : ℕ → Bool) (ms : List MoveId) (code : EncodeMoves truth (first_choice plant) (move_counts plant) ms) (nominal : is_nominal plant ms ≡ true) where
  fault_false : (k n : ℕ) (p : Part) (m : Move) → slice_get plant.parts k ≡ Some p → slice_get (type_moves plant.types p) n ≡ Some m → is_no_fault m.kind ≡ false
      → literal_is_true truth (literal (choice_bool plant k n) false) ≡ true
  fault_false k n p m at there fault = as_false _ ∙ ap not (code.values k n within few ∙ other (nat_eq number n) refl)
    where
      number : ℕ
      number = (slice_index_or ms k (record { 0 = 0 })).0

      here : k < length plant.parts
      here = slice_get_within plant.parts k p at

      within : k < length (move_counts plant)
      within = let long = length-map plant.parts (part_moves plant.types) in let less = here in omega (arith, long, less)

      few : n < slice_index_or (move_counts plant) k 0
      few =
          let one : slice_index_or (move_counts plant) k 0 ≡ part_moves plant.types p =
          get_or-map (part_moves plant.types) plant.parts k p 0 here ∙ ap (part_moves plant.types) (get_or_from_slice_get plant.parts k p p at) in
          let count = counted (slice_get plant.types p.kind) in
          let less = slice_get_within (type_moves plant.types p) n m there in
          omega (arith, one, count, less)

      other : (b : Bool) → nat_eq number n ≡ b → nat_eq number n ≡ false
      other false e = e
      other true e =
          let same : number ≡ n = eqb-true number n e in
          let is : part_is_nominal plant.types p n ≡ true = subst (λ x. part_is_nominal plant.types p x ≡ true) same (nominal_at plant.types plant.parts ms nominal k p at) in
          let one : part_is_nominal plant.types p n ≡ is_no_fault m.kind = ap (λ (o : Option Move). option_map_or (λ (x : Move). is_no_fault x.kind) o false) (moved (slice_get plant.types p.kind) n ∙ there) in
          let clash : true ≡ false = sym is ∙ one ∙ fault in
          absurd (cc clash)

  faults_false : (k : ℕ) (p : Part) → slice_get plant.parts k ≡ Some p → (n : ℕ) (moves : List Move)
      → ((i : ℕ) (m : Move) → slice_get moves i ≡ Some m → slice_get (type_moves plant.types p) (n + i) ≡ Some m) → list_all (literal_is_true truth) (no_fault_of plant k n moves) ≡ true
  faults_false k p at n [] there = refl
  faults_false k p at n (m ∷ moves) there =
      by (is_no_fault m.kind) refl
      (faults_false k p at (n + 1) moves
      (λ i x is. let next : n + suc i ≡ n + 1 + i = omega arith in subst (λ j. slice_get (type_moves plant.types p) j ≡ Some x) next (there (suc i) x is)))
    where
      first : slice_get (type_moves plant.types p) n ≡ Some m
      first = let none : n + 0 ≡ n = omega arith in subst (λ j. slice_get (type_moves plant.types p) j ≡ Some m) none (there 0 m refl)

      by : (b : Bool) → is_no_fault m.kind ≡ b → list_all (literal_is_true truth) (no_fault_of plant k (n + 1) moves) ≡ true
          → list_all (literal_is_true truth) (cond b (no_fault_of plant k (n + 1) moves) (literal (choice_bool plant k n) false ∷ no_fault_of plant k (n + 1) moves)) ≡ true
      by true e rest = rest
      by false e rest =
          and_from (literal_is_true truth (literal (choice_bool plant k n) false)) (list_all (literal_is_true truth) (no_fault_of plant k (n + 1) moves)) (fault_false k n p m at first e) rest

  parts_without_fault : (k : ℕ) (ps : List Part) → ((i : ℕ) (p : Part) → slice_get ps i ≡ Some p → slice_get plant.parts (k + i) ≡ Some p)
      → list_all (literal_is_true truth) (no_fault_literals plant k ps) ≡ true
  parts_without_fault k [] there = refl
  parts_without_fault k (p ∷ ps) there =
      let none : k + 0 ≡ k = omega arith in
      let first : slice_get plant.parts k ≡ Some p = subst (λ j. slice_get plant.parts j ≡ Some p) none (there 0 p refl) in
      list_all-append (literal_is_true truth) (no_fault_of plant k 0 (type_moves plant.types p)) (no_fault_literals plant (k + 1) ps)
      ∙ and_from (list_all (literal_is_true truth) (no_fault_of plant k 0 (type_moves plant.types p))) (list_all (literal_is_true truth) (no_fault_literals plant (k + 1) ps))
      (faults_false k p first 0 (type_moves plant.types p) (λ i m is. let same : i ≡ 0 + i = omega arith in subst (λ j. slice_get (type_moves plant.types p) j ≡ Some m) same is))
      (parts_without_fault (k + 1) ps (λ i q is. let next : k + suc i ≡ k + 1 + i = omega arith in subst (λ j. slice_get plant.parts j ≡ Some q) next (there (suc i) q is)))

  pub no_fault_true : list_all (literal_is_true truth) (no_fault_literals plant 0 plant.parts) ≡ true
  no_fault_true = parts_without_fault 0 plant.parts (λ i p is. let same : i ≡ 0 + i = omega arith in subst (λ j. slice_get plant.parts j ≡ Some p) same is)
