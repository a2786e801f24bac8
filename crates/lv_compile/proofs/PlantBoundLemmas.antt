-- A well-formed plant comes to no more clauses than its count.
use Rattle.std.proofs.Common.{◌≡◌, ◌+◌, ◌≤◌, ℕ, zero, suc, true, ◌&&◌, nat_lt, nat_le, List, [], ◌∷◌, ◌++◌, length, map, sum_by, slice_get, slice_index_or, Option, Some, None, refl, ap, ◌∙◌, arith, All}
use Rattle.std.specs.List.{flat_map, list_all}
use Rattle.std.specs.Option.{option_map_or}
use Rattle.std.proofs.lemmas.Bool.{and_parts}
use Rattle.std.proofs.lemmas.List.{length-append, map-append}
use Rattle.std.proofs.lemmas.List.Sums.{sum_by-cons, sum_by-append}
use Rattle.std.proofs.lemmas.List.Elements.{All-cons, All-append}
use borrow.Author.Tests.{leb-true}
use Rattle.lv_base.specs.declared.limits.TheConstants.{MODES, MOVES, VALUES, MODEL_CLAUSES}
use Rattle.lv_base.specs.declared.range.Range.{Range}
use Rattle.lv_base.specs.declared.range.Sort.TheVariants.{Modes}
use Rattle.lv_base.specs.Tree.{Tree}
use Rattle.lv_base.specs.Counts.{size_at}
use Rattle.lv_model.specs.declared.plant.Plant.{Plant}
use Rattle.lv_model.specs.declared.plant.Domain.{Domain}
use Rattle.lv_model.specs.declared.plant.ComponentType.{ComponentType}
use Rattle.lv_model.specs.declared.plant.Variable.{Variable}
use Rattle.lv_model.specs.declared.plant.Part.{Part}
use Rattle.lv_model.specs.Ranges.{domain_size, variable_range, type_ranges, part_ranges, plant_ranges}
use Rattle.lv_model.specs.Lists.{sizes, part_moves}
use Rattle.lv_model.specs.WellFormed.{name_fits, is_within, domain_fits, names_fit, counts_fit, kind_fits, guard_fits, move_fits, type_fits, is_well_formed}
use Rattle.lv_model.specs.Counts.{one_of_count, limited, variable_size, formula_sizes, law_sizes, has_count, formula_count, mode_formula_has_count, guard_has_counts, type_has_counts, values_count, choice_count, copy_count, type_count, part_count, law_count, plant_count}
use Rattle.lv_model.proofs.Reading.{All-of_test, All-at, type_of_place, domains_pass, types_pass, laws_pass, follow_pass, counts_pass}
use Rattle.lv_compile.specs.Booleans.{Booleans, booleans_now, booleans_next, first_choice}
use Rattle.lv_compile.specs.FormulaClauses.{size_of, formula_clauses}
use Rattle.lv_compile.specs.ModelClauses.{values_clauses, mode_formula_clauses, part_clauses, copy_clauses, part_choice_clauses, choices_clauses, raw_clauses, model_clauses}
use Rattle.lv_compile.proofs.RangeLemmas.{have_system, have_part}
use Rattle.lv_compile.proofs.SpeakingLemmas.{formulas, moves}
use Rattle.lv_compile.proofs.StepLemmas.{weaker}
use Rattle.lv_compile.proofs.PlantCountLemmas.{length_values, length_cleaned, laws_bounded, mode_formulas_bounded, choice_bounded}

abbrev size_in : Range → ℕ
size_in r = r.size

record Small (r : Range) : Type 0 where
  pub small : r.size ≤ VALUES

limited_there : (rs : List Range) (x : ℕ) (r : Range) → slice_get rs x ≡ Some r → r.size ≤ VALUES → r.size ≤ slice_index_or (map limited (map size_in rs)) x 0
limited_there [] x r here few = absurd (cc)
limited_there (q ∷ rs) zero r here few =
    let e : q ≡ r = cc here in
    let same = ap size_in e in
    omega (arith, same, few)
limited_there (q ∷ rs) (suc x) r here few = limited_there rs x r here few

laws_twice : (s : List ℕ) (fs : List Tree) → sum_by (law_count s) fs ≡ sum_by (formula_count s true) fs + sum_by (formula_count s true) fs
laws_twice s [] = refl
laws_twice s (f ∷ fs) =
    let rest = laws_twice s fs in
    let a = sum_by-cons (law_count s) f fs in
    let b = sum_by-cons (formula_count s true) f fs in
    omega (arith, rest, a, b)

module _ (plant : Plant) (h : is_well_formed plant ≡ true) where
  abbrev part_copy : Part → ℕ
  part_copy p = option_map_or (copy_count plant.domains) (slice_get plant.types p.kind) 0

  abbrev part_choice : Part → ℕ
  part_choice p = option_map_or (λ (t : ComponentType). choice_count (formula_sizes plant.domains t.variables) t.moves) (slice_get plant.types p.kind) 0

  -- sizes within the limits

  domain_small : (d : ℕ) → domain_size plant.domains d ≤ VALUES
  domain_small d = by (slice_get plant.domains d) refl
    where
      by : (o : Option Domain) → slice_get plant.domains d ≡ o → option_map_or (λ (x : Domain). length x.values) o 0 ≤ VALUES
      by None e = omega arith
      by (Some x) e =
          let fit : domain_fits x ≡ true = All-at (λ (y : Domain). domain_fits y ≡ true) plant.domains d x (All-of_test domain_fits (λ (y : Domain). domain_fits y ≡ true) plant.domains (λ y k. k) (domains_pass plant h)) e in
          leb-true (length x.values) VALUES (and_parts (nat_le 1 (length x.values)) (nat_le (length x.values) VALUES) (and_parts (is_within 1 (length x.values) VALUES) (list_all name_fits x.values) (and_parts (name_fits x.name) _ fit).1).0).1

  few_modes : (k : ℕ) (t : ComponentType) → slice_get plant.types k ≡ Some t → length t.modes ≤ MODES
  few_modes k t kind =
      let fit : type_fits plant.domains k t ≡ true = type_of_place plant.domains plant.types k t (types_pass plant h) kind in
      let few = and_parts (names_fit (length plant.domains) t) (counts_fit t) (and_parts (names_fit (length plant.domains) t && counts_fit t) _ fit).0 in
      leb-true (length t.modes) MODES (and_parts (nat_le 1 (length t.modes)) (nat_le (length t.modes) MODES) (and_parts (is_within 1 (length t.modes) MODES) (nat_le (length t.moves) MOVES) few.1).0).1

  few_vars : (vs : List Variable) (x : ℕ) (r : Range) → slice_get (map (variable_range plant.domains) vs) x ≡ Some r → r.size ≤ slice_index_or (map (variable_size plant.domains) vs) x 0
  few_vars [] x r here = absurd (cc)
  few_vars (v ∷ vs) zero r here =
      let e : variable_range plant.domains v ≡ r = cc here in
      let same = ap size_in e in
      let small = domain_small v.domain in
      omega (arith, same, small)
  few_vars (v ∷ vs) (suc x) r here = few_vars vs x r here

  few_type : (k : ℕ) (t : ComponentType) → slice_get plant.types k ≡ Some t → (x : ℕ) (r : Range) → slice_get (type_ranges plant.domains k t) x ≡ Some r → r.size ≤ size_at (formula_sizes plant.domains t.variables) x
  few_type k t kind zero r here =
      let few = few_modes k t kind in
      let e : record { sort = Modes k; size = length t.modes } ≡ r = cc here in
      let same : length t.modes ≡ r.size = ap size_in e in
      omega (arith, few, same)
  few_type k t kind (suc x) r here = few_vars t.variables x r here

  small_vars : (vs : List Variable) → All Small (map (variable_range plant.domains) vs)
  small_vars [] = λ k d below. absurd (omega arith)
  small_vars (v ∷ vs) = All-cons Small (variable_range plant.domains v) (map (variable_range plant.domains) vs) (record { small = domain_small v.domain }) (small_vars vs)

  small_part : (k : ℕ) (o : Option ComponentType) → slice_get plant.types k ≡ o → All Small (option_map_or (type_ranges plant.domains k) o [])
  small_part k None e = λ j d below. absurd (omega arith)
  small_part k (Some t) e =
      let few = few_modes k t e in
      All-cons Small (record { sort = Modes k; size = length t.modes }) (map (variable_range plant.domains) t.variables) (record { small = omega (arith, few) }) (small_vars t.variables)

  small_parts : (ps : List Part) → All Small (flat_map (part_ranges plant.domains plant.types) ps)
  small_parts [] = λ k d below. absurd (omega arith)
  small_parts (p ∷ ps) =
      All-append Small (part_ranges plant.domains plant.types p) (flat_map (part_ranges plant.domains plant.types) ps) (small_part p.kind (slice_get plant.types p.kind) refl) (small_parts ps)

  -- formulas that have their counts

  have_counts : (list_all (type_has_counts plant.domains) plant.types ≡ true) × (list_all (has_count (law_sizes plant) true) plant.laws ≡ true)
  have_counts =
      and_parts (list_all (type_has_counts plant.domains) plant.types) (list_all (has_count (law_sizes plant) true) plant.laws)
      (and_parts (list_all (type_has_counts plant.domains) plant.types && list_all (has_count (law_sizes plant) true) plant.laws) (nat_le (plant_count plant) MODEL_CLAUSES) (counts_pass plant h)).0

  pub count_within : plant_count plant ≤ MODEL_CLAUSES
  count_within =
      leb-true (plant_count plant) MODEL_CLAUSES
      (and_parts (list_all (type_has_counts plant.domains) plant.types && list_all (has_count (law_sizes plant) true) plant.laws) (nat_le (plant_count plant) MODEL_CLAUSES) (counts_pass plant h)).1

  type_has : (k : ℕ) (t : ComponentType) → slice_get plant.types k ≡ Some t → type_has_counts plant.domains t ≡ true
  type_has k t kind =
      All-at (λ (u : ComponentType). type_has_counts plant.domains u ≡ true) plant.types k t
      (All-of_test (type_has_counts plant.domains) (λ (u : ComponentType). type_has_counts plant.domains u ≡ true) plant.types (λ u e. e) have_counts.0) kind

  values_same : (vs : List Variable) → sum_by one_of_count (map size_in (map (variable_range plant.domains) vs)) ≡ sum_by (values_count plant.domains) vs
  values_same [] = refl
  values_same (v ∷ vs) =
      let rest = values_same vs in
      let small = domain_small v.domain in
      let n : domain_size plant.domains v.domain ≡ limited (domain_size plant.domains v.domain) = omega (arith, small) in
      let one = ap one_of_count n in
      let a = sum_by-cons one_of_count (domain_size plant.domains v.domain) (map size_in (map (variable_range plant.domains) vs)) in
      let c = sum_by-cons (values_count plant.domains) v vs in
      omega (arith, rest, one, a, c)

  module _ (b : Booleans) (copy : b.sizes ≡ sizes plant) where
    few_at : (n : ℕ) (p : Part) (t : ComponentType) → slice_get plant.parts n ≡ Some p → slice_get plant.types p.kind ≡ Some t
        → (x : ℕ) (r : Range) → slice_get (type_ranges plant.domains p.kind t) x ≡ Some r → size_of b (p.first.0 + x) ≤ size_at (formula_sizes plant.domains t.variables) x
    few_at n p t here kind x r is =
        let size = (have_part plant b copy (follow_pass plant h) n p t here kind).size x r is in
        let few = few_type p.kind t kind x r is in
        omega (arith, size, few)

    type_copy : (n : ℕ) (p : Part) (t : ComponentType) → slice_get plant.parts n ≡ Some p → slice_get plant.types p.kind ≡ Some t
        → sum_by one_of_count (map size_in (type_ranges plant.domains p.kind t)) + length (flat_map (formula_clauses b p.first.0 true) t.laws ++ flat_map (mode_formula_clauses b p.first.0) t.formulas) ≤ copy_count plant.domains t
    type_copy n p t here kind =
        let ranges : List Range = type_ranges plant.domains p.kind t in
        let s : List ℕ = formula_sizes plant.domains t.variables in
        let own = formulas plant h b copy p t kind in
        let has = and_parts (list_all (has_count s true) t.laws) (list_all (mode_formula_has_count s) t.formulas && list_all (guard_has_counts s) t.moves) (type_has p.kind t kind) in
        let mode_has = and_parts (list_all (mode_formula_has_count s) t.formulas) (list_all (guard_has_counts s) t.moves) has.1 in
        let laws = laws_bounded ranges b p.first.0 s (few_at n p t here kind) t.laws own.0 has.0 in
        let modes = mode_formulas_bounded ranges b p.first.0 s (few_at n p t here kind) (length t.modes) t.formulas own.1 mode_has.0 in
        let long = length-append (flat_map (formula_clauses b p.first.0 true) t.laws) (flat_map (mode_formula_clauses b p.first.0) t.formulas) in
        let values = values_same t.variables in
        let mode = sum_by-cons one_of_count (length t.modes) (map size_in (map (variable_range plant.domains) t.variables)) in
        omega (arith, laws, modes, long, values, mode)

    part_copied : (n : ℕ) (p : Part) → slice_get plant.parts n ≡ Some p
        → sum_by one_of_count (map size_in (part_ranges plant.domains plant.types p)) + length (part_clauses b plant.types p) ≤ part_copy p
    part_copied n p here = by (slice_get plant.types p.kind) refl
      where
        by : (o : Option ComponentType) → slice_get plant.types p.kind ≡ o → sum_by one_of_count (map size_in (part_ranges plant.domains plant.types p)) + length (part_clauses b plant.types p) ≤ part_copy p
        by None kind = rw kind (omega arith)
        by (Some t) kind = rw kind (type_copy n p t here kind)

    parts_copied : (ps : List Part) → ((k : ℕ) (p : Part) → slice_get ps k ≡ Some p → sum_by one_of_count (map size_in (part_ranges plant.domains plant.types p)) + length (part_clauses b plant.types p) ≤ part_copy p)
        → sum_by one_of_count (map size_in (flat_map (part_ranges plant.domains plant.types) ps)) + length (flat_map (part_clauses b plant.types) ps) ≤ sum_by part_copy ps
    parts_copied [] each = omega arith
    parts_copied (p ∷ ps) each =
        let one = each 0 p refl in
        let rest = parts_copied ps (λ k q here. each (suc k) q here) in
        let front : List Range = part_ranges plant.domains plant.types p in
        let back : List Range = flat_map (part_ranges plant.domains plant.types) ps in
        let values = ap (sum_by one_of_count) (map-append size_in front back) ∙ sum_by-append one_of_count (map size_in front) (map size_in back) in
        let long = length-append (part_clauses b plant.types p) (flat_map (part_clauses b plant.types) ps) in
        let more = sum_by-cons part_copy p ps in
        omega (arith, one, rest, values, long, more)

    system_few : (x : ℕ) (r : Range) → slice_get (plant_ranges plant) x ≡ Some r → size_of b (0 + x) ≤ size_at (law_sizes plant) x
    system_few x r here =
        let size = (have_system plant b copy).size x r here in
        let small = (All-at Small (plant_ranges plant) x r (small_parts plant.parts) here).small in
        let there = limited_there (plant_ranges plant) x r here small in
        omega (arith, size, there)

    copied : length (copy_clauses b plant) ≤ sum_by part_copy plant.parts + sum_by (formula_count (law_sizes plant) true) plant.laws
    copied =
        let laws = laws_bounded (plant_ranges plant) b 0 (law_sizes plant) system_few plant.laws (laws_pass plant h) have_counts.1 in
        let parts = parts_copied plant.parts part_copied in
        let values = length_values b.first b.sizes ∙ ap (sum_by one_of_count) copy in
        let one = length-append (values_clauses b.first b.sizes) (flat_map (part_clauses b plant.types) plant.parts) in
        let all = length-append (values_clauses b.first b.sizes ++ flat_map (part_clauses b plant.types) plant.parts) (flat_map (formula_clauses b 0 true) plant.laws) in
        omega (arith, laws, parts, values, one, all)

    part_chosen : (c : Booleans) (n : ℕ) (p : Part) → slice_get plant.parts n ≡ Some p → (choice : ℕ) → length (part_choice_clauses b c plant.types choice p) ≤ part_choice p
    part_chosen c n p here choice = by (slice_get plant.types p.kind) refl
      where
        by : (o : Option ComponentType) → slice_get plant.types p.kind ≡ o → length (part_choice_clauses b c plant.types choice p) ≤ part_choice p
        by None kind = rw kind (omega arith)
        by (Some t) kind =
            let ranges : List Range = type_ranges plant.domains p.kind t in
            let s : List ℕ = formula_sizes plant.domains t.variables in
            let has = and_parts (list_all (has_count s true) t.laws) (list_all (mode_formula_has_count s) t.formulas && list_all (guard_has_counts s) t.moves) (type_has p.kind t kind) in
            let guards = (and_parts (list_all (mode_formula_has_count s) t.formulas) (list_all (guard_has_counts s) t.moves) has.1).1 in
            let fit : list_all (guard_fits ranges) t.moves ≡ true =
            weaker (move_fits ranges (length t.modes)) (guard_fits ranges)
            (λ m e. (and_parts (kind_fits m.kind m) (guard_fits ranges m) (and_parts (nat_lt m.source.0 (length t.modes) && nat_lt m.target.0 (length t.modes)) _ e).1).1) t.moves (moves plant h b copy p t kind) in
            rw kind (choice_bounded ranges b p.first.0 s (few_at n p t here kind) t.moves fit guards c choice)

    parts_chosen : (c : Booleans) (ps : List Part) (choice : ℕ) → ((k : ℕ) (p : Part) → slice_get ps k ≡ Some p → (first : ℕ) → length (part_choice_clauses b c plant.types first p) ≤ part_choice p)
        → length (choices_clauses b c plant.types choice ps) ≤ sum_by part_choice ps
    parts_chosen c [] choice each = omega arith
    parts_chosen c (p ∷ ps) choice each =
        let one = each 0 p refl choice in
        let rest = parts_chosen c ps (choice + part_moves plant.types p) (λ k q here first. each (suc k) q here first) in
        let long = length-append (part_choice_clauses b c plant.types choice p) (choices_clauses b c plant.types (choice + part_moves plant.types p) ps) in
        let more = sum_by-cons part_choice p ps in
        omega (arith, one, rest, long, more)

  part_total : (p : Part) → part_count plant.domains plant.types p ≡ part_copy p + part_copy p + part_choice p
  part_total p = by (slice_get plant.types p.kind)
    where
      by : (o : Option ComponentType) → option_map_or (type_count plant.domains) o 0 ≡ option_map_or (copy_count plant.domains) o 0 + option_map_or (copy_count plant.domains) o 0 + option_map_or (λ (t : ComponentType). choice_count (formula_sizes plant.domains t.variables) t.moves) o 0
      by None = refl
      by (Some t) = refl

  parts_total : (ps : List Part) → sum_by (part_count plant.domains plant.types) ps ≡ sum_by part_copy ps + sum_by part_copy ps + sum_by part_choice ps
  parts_total [] = refl
  parts_total (p ∷ ps) =
      let one = part_total p in
      let rest = parts_total ps in
      let a = sum_by-cons (part_count plant.domains plant.types) p ps in
      let b = sum_by-cons part_copy p ps in
      let c = sum_by-cons part_choice p ps in
      omega (arith, one, rest, a, b, c)

  pub few_clauses : length (model_clauses plant) ≤ plant_count plant
  few_clauses =
      let before = copied (booleans_now plant) refl in
      let after = copied (booleans_next plant) refl in
      let choices = parts_chosen (booleans_now plant) refl (booleans_next plant) plant.parts (first_choice plant) (part_chosen (booleans_now plant) refl (booleans_next plant)) in
      let both = length-append (copy_clauses (booleans_now plant) plant) (copy_clauses (booleans_next plant) plant) in
      let all = length-append (copy_clauses (booleans_now plant) plant ++ copy_clauses (booleans_next plant) plant) (choices_clauses (booleans_now plant) (booleans_next plant) plant.types (first_choice plant) plant.parts) in
      let clean = length_cleaned (raw_clauses plant) in
      let parts = parts_total plant.parts in
      let laws = laws_twice (law_sizes plant) plant.laws in
      omega (arith, before, after, choices, both, all, clean, parts, laws)
