-- Formulas whose names stand for something fitting fit what the variables range over.
use Rattle.std.proofs.Common.{◌≡◌, ◌-◌, ◌<◌, ℕ, zero, suc, Bool, true, false, nat_eq, nat_lt, List, [], ◌∷◌, length, map, position, slice_get, Option, Some, None, option_map, Result, Ok, Err, refl, sym, ap, ap₂, subst, ◌∙◌, arith}
use Rattle.std.specs.List.{list_all, flat_map}
use Rattle.std.specs.Option.{option_and_then, option_map_or}
use Rattle.std.proofs.lemmas.Bool.{and_from, lt-ltb, eq-eqb, eqb-true}
use Rattle.std.proofs.lemmas.List.Folds.{list_all-append}
use Rattle.std.proofs.lemmas.List.Quantifiers.{position-Some}
use Rattle.std.proofs.lemmas.Option.{slice_get-map}
use Rattle.lv_base.specs.Names.{is_named}
use Rattle.lv_base.specs.declared.ids.ValId.{ValId}
use Rattle.lv_base.specs.declared.ids.VarId.{VarId}
use Rattle.lv_base.specs.Tree.{Tree}
use Rattle.lv_base.specs.declared.range.Range.{Range}
use Rattle.lv_base.specs.declared.range.Sort.{Sort}
use Rattle.lv_base.specs.declared.range.Sort.TheVariants.{Modes, Values}
use Rattle.lv_base.specs.Fits.{is_same_sort, has_value, are_alike, fits}
use Rattle.lv_model.specs.declared.plant.Domain.{Domain}
use Rattle.lv_model.specs.declared.plant.ComponentType.{ComponentType}
use Rattle.lv_model.specs.declared.plant.Part.{Part}
use Rattle.lv_model.specs.declared.plant.Variable.{Variable}
use Rattle.lv_model.specs.Ranges.{domain_size, variable_range, type_ranges, part_ranges}
use Rattle.lv_formula_text.specs.PhraseTree.{PhraseTree}
use Rattle.lv_formula_text.specs.Resolving.{resolved}
use Rattle.lv_formula_text.specs.Fitting.{ScopeFits}
use Rattle.lv_formula_text.specs.declared.resolver.NameFault.{NameFault}
use Rattle.lv_formula_text.proofs.FittingLemmas.{resolved_fits}
use Rattle.lv_model_entries.specs.declared.draft.Draft.{Draft}
use Rattle.lv_model_entries.specs.Places.{placed, value_place, mode_place, value_of_domain, value_of_sort}
use Rattle.lv_model_entries.specs.Scopes.{are_one_sort, sort_in_type, value_by_sort, value_of_type, type_names, sort_in_system, system_names, with_code}
use Rattle.lv_model_entries.specs.Entries.{type_formula, system_formula}
use Rattle.lv_checker.proofs.FitsLists.{all_at, chained, mapped, placed_is}

pub place_below : (names : List (List ℕ)) (word : List ℕ) (v : ValId) → value_place names word ≡ Some v → v.0 < length names
place_below names word v h =
    let one = mapped (λ n. record { 0 = n }) (option_and_then placed (position (is_named word) names)) v h in
    let two = chained placed (position (is_named word) names) one.0 one.1 in
    let same : two.0 ≡ one.0 = placed_is two.0 one.0 two.2 in
    let inside : two.0 < length names = (position-Some (is_named word) names two.0 [] two.1).0 in
    let number : one.0 ≡ v.0 = ap (λ (x : ValId). x.0) one.2 in
    omega (arith, same, inside, number)

domain_value_below : (domains : List Domain) (d : ℕ) (word : List ℕ) (v : ValId) → value_of_domain domains d word ≡ Some v → v.0 < domain_size domains d
domain_value_below domains d word v h =
    let one = chained (λ (x : Domain). value_place x.values word) (slice_get domains d) v h in
    let below : v.0 < length one.0.values = place_below one.0.values word v one.2 in
    subst (λ (o : Option Domain). v.0 < option_map_or (λ (x : Domain). length x.values) o 0) (sym one.1) below

value_there : (ranges : List Range) (x v : ℕ) (r : Range) → slice_get ranges x ≡ Some r → v < r.size → has_value ranges x v ≡ true
value_there ranges x v r here less = ap (λ (o : Option Range). option_map_or (λ (s : Range). nat_lt v s.size) o false) here ∙ lt-ltb v r.size less

-- a range of this sort stands there
pub record HasSort (ranges : List Range) (n : ℕ) (s : Sort) : Type 0 where
  pub range : Range
  pub here : slice_get ranges n ≡ Some range
  pub sort : range.sort ≡ s

alike_there : (ranges : List Range) (sort_of : ℕ → Option Sort) (found : (n : ℕ) (s : Sort) → sort_of n ≡ Some s → HasSort ranges n s) (x y : ℕ)
    → are_one_sort (sort_of x) (sort_of y) ≡ true → are_alike ranges x y ≡ true
alike_there ranges sort_of found x y h = by (sort_of x) (sort_of y) refl refl h
  where
    by : (o p : Option Sort) → sort_of x ≡ o → sort_of y ≡ p → are_one_sort o p ≡ true → are_alike ranges x y ≡ true
    by None p e f h = absurd (cc)
    by (Some r) None e f h = absurd (cc)
    by (Some r) (Some s) e f h =
        let left = found x r e in
        let right = found y s f in
        rw (left.here, right.here) (ap₂ is_same_sort left.sort right.sort ∙ h)

-- in a type

abbrev own_size : List Domain → ComponentType → Sort → ℕ
own_size domains t (Modes kind) = length t.modes
own_size domains t (Values d) = domain_size domains d

module _ (domains : List Domain) (t : ComponentType) where
  later_sort : (n : ℕ) → sort_in_type t (suc n) ≡ option_map (λ (v : Variable). Values v.domain) (slice_get t.variables n)
  later_sort n =
      let e : nat_eq (suc n) 0 ≡ false = grind arith in
      let f : suc n - 1 ≡ n = omega arith in
      rw (e, f) refl

  -- the range of a variable of the type
  own_range : (n : ℕ) (s : Sort) → sort_in_type t n ≡ Some s → (r : Range) × (slice_get (type_ranges domains 0 t) n ≡ Some r) × (r.sort ≡ s) × (r.size ≡ own_size domains t s)
  own_range zero s h =
      let e : Modes 0 ≡ s = cc h in
      (record { sort = Modes 0; size = length t.modes }, refl, e, ap (λ (x : Sort). own_size domains t x) e)
  own_range (suc n) s h =
      let one = mapped (λ (v : Variable). Values v.domain) (slice_get t.variables n) s (sym (later_sort n) ∙ h) in
      let here : slice_get (map (variable_range domains) t.variables) n ≡ Some (variable_range domains one.0) =
      slice_get-map (variable_range domains) t.variables n ∙ ap (λ (o : Option Variable). option_map (variable_range domains) o) one.1 in
      (variable_range domains one.0, here, one.2, ap (λ (x : Sort). own_size domains t x) one.2)

  own_value_below : (s : Sort) (word : List ℕ) (v : ValId) → value_by_sort domains t s word ≡ Some v → v.0 < own_size domains t s
  own_value_below (Modes kind) word v h = place_below t.modes word v h
  own_value_below (Values d) word v h = domain_value_below domains d word v h

  pub own_value : (x : VarId) (word : List ℕ) (v : ValId) → value_of_type domains t x word ≡ Some v → has_value (type_ranges domains 0 t) x.0 v.0 ≡ true
  own_value x word v h =
      let one = chained (λ (s : Sort). value_by_sort domains t s word) (sort_in_type t x.0) v h in
      let range = own_range x.0 one.0 one.1 in
      value_there (type_ranges domains 0 t) x.0 v.0 range.0 range.1 (subst (λ (n : ℕ). v.0 < n) (sym range.3) (own_value_below one.0 word v one.2))

  own_sort : (n : ℕ) (s : Sort) → sort_in_type t n ≡ Some s → HasSort (type_ranges domains 0 t) n s
  own_sort n s h = let range = own_range n s h in record { range = range.0; here = range.1; sort = range.2 }

  type_scope : ScopeFits (type_names domains t) (type_ranges domains 0 t)
  type_scope =
      record {
        values = λ path x name v found is. own_value x name v is;
        domains = λ left right x y found other h. alike_there (type_ranges domains 0 t) (sort_in_type t) own_sort x.0 y.0 h;
      }

-- in the system

abbrev pub sort_size : List Domain → List ComponentType → Sort → ℕ
sort_size domains types (Modes kind) = option_map_or (λ (t : ComponentType). length t.modes) (slice_get types kind) 0
sort_size domains types (Values d) = domain_size domains d

abbrev pub is_sized : List Domain → List ComponentType → Range → Bool
is_sized domains types r = nat_eq r.size (sort_size domains types r.sort)

module _ (domains : List Domain) (types : List ComponentType) where
  variables_sized : (vs : List Variable) → list_all (is_sized domains types) (map (variable_range domains) vs) ≡ true
  variables_sized [] = refl
  variables_sized (v ∷ vs) = and_from (nat_eq (domain_size domains v.domain) (domain_size domains v.domain)) _ (eq-eqb (domain_size domains v.domain) (domain_size domains v.domain) refl) (variables_sized vs)

  part_sized : (kind : ℕ) (o : Option ComponentType) → slice_get types kind ≡ o → list_all (is_sized domains types) (option_map_or (type_ranges domains kind) o []) ≡ true
  part_sized kind None h = refl
  part_sized kind (Some t) h =
      let e : length t.modes ≡ sort_size domains types (Modes kind) = sym (ap (λ (o : Option ComponentType). option_map_or (λ (u : ComponentType). length u.modes) o 0) h) in
      and_from (nat_eq (length t.modes) (sort_size domains types (Modes kind))) _ (eq-eqb (length t.modes) (sort_size domains types (Modes kind)) e) (variables_sized t.variables)

  pub parts_sized : (ps : List Part) → list_all (is_sized domains types) (flat_map (part_ranges domains types) ps) ≡ true
  parts_sized [] = refl
  parts_sized (p ∷ ps) =
      list_all-append (is_sized domains types) (part_ranges domains types p) (flat_map (part_ranges domains types) ps)
      ∙ and_from (list_all (is_sized domains types) (part_ranges domains types p)) _ (part_sized p.kind (slice_get types p.kind) refl) (parts_sized ps)

  sort_value_below : (s : Sort) (word : List ℕ) (v : ValId) → value_of_sort domains types s word ≡ Some v → v.0 < sort_size domains types s
  sort_value_below (Modes kind) word v h =
      let one = chained (λ (t : ComponentType). mode_place t word) (slice_get types kind) v h in
      let below : v.0 < length one.0.modes = place_below one.0.modes word v one.2 in
      subst (λ (o : Option ComponentType). v.0 < option_map_or (λ (t : ComponentType). length t.modes) o 0) (sym one.1) below
  sort_value_below (Values d) word v h = domain_value_below domains d word v h

module _ (d : Draft) (sized : list_all (is_sized d.plant.domains d.plant.types) d.ranges ≡ true) where
  pub system_value : (x : VarId) (word : List ℕ) (v : ValId) → option_and_then (λ (s : Sort). value_of_sort d.plant.domains d.plant.types s word) (sort_in_system d x.0) ≡ Some v → has_value d.ranges x.0 v.0 ≡ true
  system_value x word v h =
      let one = chained (λ (s : Sort). value_of_sort d.plant.domains d.plant.types s word) (sort_in_system d x.0) v h in
      let range = mapped (λ (r : Range). r.sort) (slice_get d.ranges x.0) one.0 one.1 in
      let size : range.0.size ≡ sort_size d.plant.domains d.plant.types range.0.sort = eqb-true _ _ (all_at (is_sized d.plant.domains d.plant.types) d.ranges x.0 range.0 sized range.1) in
      let same : range.0.size ≡ sort_size d.plant.domains d.plant.types one.0 = size ∙ ap (λ (s : Sort). sort_size d.plant.domains d.plant.types s) range.2 in
      value_there d.ranges x.0 v.0 range.0 range.1 (subst (λ (n : ℕ). v.0 < n) (sym same) (sort_value_below d.plant.domains d.plant.types one.0 word v one.2))

  system_sort : (n : ℕ) (s : Sort) → sort_in_system d n ≡ Some s → HasSort d.ranges n s
  system_sort n s h = let range = mapped (λ (r : Range). r.sort) (slice_get d.ranges n) s h in record { range = range.0; here = range.1; sort = range.2 }

  system_scope : ScopeFits (system_names d) d.ranges
  system_scope =
      record {
        values = λ path x name v found is. system_value x name v is;
        domains = λ left right x y found other h. alike_there d.ranges (sort_in_system d) system_sort x.0 y.0 h;
      }

no_code : {A : Type 0} (r : Result A NameFault) (x : A) → with_code r ≡ Ok x → r ≡ Ok x
no_code (Ok y) x h = let e : y ≡ x = cc h in ap Ok e
no_code (Err fault) x h = absurd (cc)

pub type_formula_fits : (domains : List Domain) (t : ComponentType) (f : PhraseTree) (g : Tree) → type_formula domains t f ≡ Ok g → fits (type_ranges domains 0 t) g ≡ true
type_formula_fits domains t f g h = resolved_fits (type_names domains t) (type_ranges domains 0 t) (type_scope domains t) f g (no_code (resolved (type_names domains t) f) g h)

pub system_formula_fits : (d : Draft) → list_all (is_sized d.plant.domains d.plant.types) d.ranges ≡ true → (f : PhraseTree) (g : Tree) → system_formula d f ≡ Ok g → fits d.ranges g ≡ true
system_formula_fits d sized f g h = resolved_fits (system_names d) d.ranges (system_scope d sized) f g (no_code (resolved (system_names d) f) g h)
