-- The clauses of one copy are all true exactly where the assignment is feasible.
use Rattle.std.proofs.Common.{◌≡◌, ◌+◌, ◌<◌, ℕ, Bool, true, false, not, nat_eq, nat_lt, ◌&&◌, ◌||◌, List, [], ◌∷◌, ◌++◌, length, slice_get, Option, Some, None, refl, ap, ap₂, subst, ◌∙◌, arith, All, get_or}
use Rattle.std.specs.List.{list_all, flat_map}
use Rattle.std.specs.Option.{option_map_or}
use Rattle.std.proofs.lemmas.Bool.{and_parts}
use Rattle.std.proofs.lemmas.Option.{slice_get-get_or}
use Rattle.std.proofs.lemmas.List.Elements.{All-tail}
use Rattle.lv_base.specs.declared.ids.Lit.{Lit}
use Rattle.lv_base.specs.declared.ids.ValId.{ValId}
use Rattle.lv_clauses.specs.Literals.{same_truth}
use Rattle.lv_base.specs.declared.range.Range.{Range}
use Rattle.lv_base.specs.Tree.{Tree, truth_of, number_of}
use Rattle.lv_base.specs.Fits.{fits}
use Rattle.lv_model.specs.declared.plant.Plant.{Plant}
use Rattle.lv_model.specs.declared.plant.ComponentType.{ComponentType}
use Rattle.lv_model.specs.declared.plant.ModeFormula.{ModeFormula}
use Rattle.lv_model.specs.declared.plant.Part.{Part}
use Rattle.lv_model.specs.Ranges.{type_ranges, plant_ranges}
use Rattle.lv_model.specs.Lists.{sizes}
use Rattle.lv_model.specs.WellFormed.{mode_formula_fits, part_fits, name_fits, is_well_formed}
use Rattle.lv_model.specs.Meaning.{mode_formula_holds, part_is_feasible, is_feasible}
use Rattle.lv_model.proofs.Reading.{All-of_test, parts_pass, laws_pass, follow_pass}
use Rattle.lv_compile.specs.Booleans.{Booleans, value_literal}
use Rattle.lv_compile.specs.FormulaClauses.{Clauses, size_of, formula_clauses}
use Rattle.lv_compile.specs.Laws.{literal_is_true, are_true, Encode, HaveBooleans}
use Rattle.lv_compile.specs.ModelClauses.{values_clauses, unless, mode_formula_clauses, type_clauses, part_clauses, copy_clauses}
use Rattle.lv_compile.proofs.FormulaLemmas.{joined_true, each_longer, nat_eq_turned, as_true, as_false, exact}
use Rattle.lv_compile.proofs.RangeLemmas.{have_system, have_part}
use Rattle.lv_compile.proofs.SpeakingLemmas.{modes_of, formulas}
use Rattle.lv_compile.proofs.ChosenLemmas.{values_true}

or_false : (p : Bool) → (p || false) ≡ p
or_false true = refl
or_false false = refl

turn : (p q : Bool) → (p && q) ≡ (q && p)
turn true true = refl
turn true false = refl
turn false true = refl
turn false false = refl

pub each_true : {X : Type 0} (truth : ℕ → Bool) (f : X → Clauses) (xs : List X) → are_true truth (flat_map f xs) ≡ list_all (λ x. are_true truth (f x)) xs
each_true truth f [] = refl
each_true truth f (x ∷ xs) = joined_true truth (f x) (flat_map f xs) ∙ ap (λ (q : Bool). are_true truth (f x) && q) (each_true truth f xs)

pub unless_true : (truth : ℕ → Bool) (l : Lit) (cs : Clauses) → are_true truth (unless l cs) ≡ (literal_is_true truth l || are_true truth cs)
unless_true truth l cs = each_longer truth (l ∷ []) cs ∙ ap (λ (p : Bool). p || are_true truth cs) (or_false (literal_is_true truth l))

-- two tests that agree on what passes a third
pub agree : {X : Type 0} (p q test : X → Bool) → ((x : X) → test x ≡ true → p x ≡ q x) → (xs : List X) → list_all test xs ≡ true → list_all p xs ≡ list_all q xs
agree p q test same [] h = refl
agree p q test same (x ∷ xs) h =
    let two = and_parts (test x) (list_all test xs) h in
    ap₂ (λ (a b : Bool). a && b) (same x two.0) (agree p q test same xs two.1)

-- two tests that agree on each element
pub agree_on : {X : Type 0} (p q : X → Bool) (xs : List X) → All (λ (x : X). p x ≡ q x) xs → list_all p xs ≡ list_all q xs
agree_on p q [] same = refl
agree_on p q (x ∷ xs) same = ap₂ (λ (a b : Bool). a && b) (same 0 x (omega arith)) (agree_on p q xs (All-tail (λ (y : _). p y ≡ q y) x xs same))

module _ (ranges : List Range) (b : Booleans) (base : ℕ) (have : HaveBooleans ranges b base) (truth : ℕ → Bool) (a : List ValId) (code : Encode truth b a) where
  law_exact : (f : Tree) → fits ranges f ≡ true → are_true truth (formula_clauses b base true f) ≡ truth_of a base f
  law_exact f h = exact ranges b base have truth a code f h true ∙ as_true (truth_of a base f)

  pub laws_exact : (fs : List Tree) → list_all (fits ranges) fs ≡ true → are_true truth (flat_map (formula_clauses b base true) fs) ≡ list_all (truth_of a base) fs
  laws_exact fs h =
      each_true truth (formula_clauses b base true) fs
      ∙ agree (λ f. are_true truth (formula_clauses b base true f)) (truth_of a base) (fits ranges) law_exact fs h

  module _ (modes : ℕ) (all_modes : size_of b base ≡ modes) (there : base < length b.sizes) where
    mode_formula_exact : (f : ModeFormula) → mode_formula_fits ranges modes f ≡ true → are_true truth (mode_formula_clauses b base f) ≡ mode_formula_holds a base f
    mode_formula_exact f h =
        let two = and_parts (nat_lt f.mode.0 modes) (fits ranges f.condition) h in
        let mode = two.0 in
        let value = code.values base f.mode.0 there (grind (arith, mode, all_modes)) in
        unless_true truth (value_literal b base f.mode.0 false) (formula_clauses b base true f.condition)
        ∙ ap₂ (λ (p q : Bool). p || q)
        (ap (λ (t : Bool). same_truth t false) value ∙ as_false (nat_eq (number_of a base) f.mode.0) ∙ ap not (nat_eq_turned (number_of a base) f.mode.0))
        (law_exact f.condition two.1)

    pub mode_formulas_exact : (fs : List ModeFormula) → list_all (mode_formula_fits ranges modes) fs ≡ true → are_true truth (flat_map (mode_formula_clauses b base) fs) ≡ list_all (mode_formula_holds a base) fs
    mode_formulas_exact fs h =
        each_true truth (mode_formula_clauses b base) fs
        ∙ agree (λ f. are_true truth (mode_formula_clauses b base f)) (mode_formula_holds a base) (mode_formula_fits ranges modes) mode_formula_exact fs h

module _ (plant : Plant) (h : is_well_formed plant ≡ true) (b : Booleans) (copy : b.sizes ≡ sizes plant) (truth : ℕ → Bool) (a : List ValId) (code : Encode truth b a) where
  type_exact : (n : ℕ) (p : Part) (t : ComponentType) → slice_get plant.parts n ≡ Some p → slice_get plant.types p.kind ≡ Some t
      → are_true truth (type_clauses b p.first.0 t) ≡ (list_all (truth_of a p.first.0) t.laws && list_all (mode_formula_holds a p.first.0) t.formulas)
  type_exact n p t here kind =
      let ranges = type_ranges plant.domains p.kind t in
      let have = have_part plant b copy (follow_pass plant h) n p t here kind in
      let own = formulas plant h b copy p t kind in
      let zero_past : p.first.0 + 0 ≡ p.first.0 = omega arith in
      let there : p.first.0 < length b.sizes = subst (λ (k : ℕ). k < length b.sizes) zero_past (have.within 0 _ refl) in
      joined_true truth (flat_map (formula_clauses b p.first.0 true) t.laws) (flat_map (mode_formula_clauses b p.first.0) t.formulas)
      ∙ ap₂ (λ (x y : Bool). x && y) (laws_exact ranges b p.first.0 have truth a code t.laws own.0)
      (mode_formulas_exact ranges b p.first.0 have truth a code (length t.modes) (modes_of plant h b copy n p t here kind) there t.formulas own.1)

  part_exact : (n : ℕ) (p : Part) → slice_get plant.parts n ≡ Some p → part_fits plant.types p ≡ true → are_true truth (part_clauses b plant.types p) ≡ part_is_feasible plant.types a p
  part_exact n p here fit = by (slice_get plant.types p.kind) refl
    where
      by : (o : Option ComponentType) → slice_get plant.types p.kind ≡ o → are_true truth (part_clauses b plant.types p) ≡ part_is_feasible plant.types a p
      by None kind =
          let e : option_map_or (λ (t : ComponentType). nat_lt p.start.0 (length t.modes)) (slice_get plant.types p.kind) false ≡ true = (and_parts (name_fits p.name) _ fit).1 in
          absurd (cc)
      by (Some t) kind = rw kind (type_exact n p t here kind)

  parts_exact : are_true truth (flat_map (part_clauses b plant.types) plant.parts) ≡ list_all (part_is_feasible plant.types a) plant.parts
  parts_exact =
      each_true truth (part_clauses b plant.types) plant.parts
      ∙ agree_on (λ p. are_true truth (part_clauses b plant.types p)) (part_is_feasible plant.types a) plant.parts
      (λ k d below.
      part_exact k (get_or plant.parts k d) (slice_get-get_or plant.parts k d below)
      (All-of_test (part_fits plant.types) (λ p. part_fits plant.types p ≡ true) plant.parts (λ p e. e) (parts_pass plant h).1 k d below))

  pub copy_exact : are_true truth (copy_clauses b plant) ≡ is_feasible plant a
  copy_exact =
      let values : are_true truth (values_clauses b.first b.sizes) ≡ true = values_true truth b.sizes b.first (number_of a) code.values code.in_range in
      let laws = laws_exact (plant_ranges plant) b 0 (have_system plant b copy) truth a code plant.laws (laws_pass plant h) in
      joined_true truth (values_clauses b.first b.sizes ++ flat_map (part_clauses b plant.types) plant.parts) (flat_map (formula_clauses b 0 true) plant.laws)
      ∙ ap₂ (λ (x y : Bool). x && y)
      (joined_true truth (values_clauses b.first b.sizes) (flat_map (part_clauses b plant.types) plant.parts) ∙ ap₂ (λ (x y : Bool). x && y) values parts_exact) laws
      ∙ turn (list_all (part_is_feasible plant.types a) plant.parts) (list_all (truth_of a 0) plant.laws)
