-- What is found by name keeps to what variables range over.
use Rattle.std.proofs.Common.{◌≡◌, ◌<◌, ◌^◌, ℕ, zero, suc, Bool, true, false, nat_eq, nat_lt, List, [], ◌∷◌, length, map, position, slice_get, slice_index_or, Option, Some, None, option_map, if◌then◌else◌, refl, sym, ap, ap₂, subst, ◌∙◌, arith}
use Rattle.std.specs.List.{list_all, flat_map}
use Rattle.std.specs.Option.{option_and_then, option_map_or}
use Rattle.std.proofs.lemmas.Bool.{and_from, and_parts, lt-ltb, eq-eqb, eqb-true}
use Rattle.std.proofs.lemmas.List.Folds.{list_all-append}
use Rattle.std.proofs.lemmas.List.Quantifiers.{position-Some}
use Rattle.lv_base.specs.Names.{is_named}
use Rattle.lv_base.specs.declared.ids.ValId.{ValId}
use Rattle.lv_base.specs.declared.ids.VarId.{VarId}
use Rattle.lv_base.specs.declared.range.Range.{Range}
use Rattle.lv_base.specs.declared.range.Sort.{Sort}
use Rattle.lv_base.specs.declared.range.Sort.TheVariants.{Modes, Values}
use Rattle.lv_base.specs.Fits.{is_same_sort, has_value, are_alike}
use Rattle.lv_model.specs.declared.plant.Plant.{Plant}
use Rattle.lv_model.specs.declared.plant.Domain.{Domain}
use Rattle.lv_model.specs.declared.plant.ComponentType.{ComponentType}
use Rattle.lv_model.specs.declared.plant.Part.{Part}
use Rattle.lv_model.specs.declared.plant.Variable.{Variable}
use Rattle.lv_model.specs.Ranges.{domain_size, variable_range, type_ranges, part_ranges, plant_ranges}
use Rattle.lv_formula_text.specs.Fitting.{ScopeFits}
use Rattle.lv_model_names.specs.Names.{numbered, value_among, value_of_sort, sort_of, value_of, are_one_sort, names_over, plant_names}

mapped : {X Y : Type 0} (f : X → Y) (o : Option X) (y : Y) → option_map f o ≡ Some y → (x : X) × (o ≡ Some x) × (f x ≡ y)
mapped f None y h = absurd (cc)
mapped f (Some x) y h = let e : f x ≡ y = cc h in (x, refl, e)

chained : {X Y : Type 0} (f : X → Option Y) (o : Option X) (y : Y) → option_and_then f o ≡ Some y → (x : X) × (o ≡ Some x) × (f x ≡ Some y)
chained f None y h = absurd (cc)
chained f (Some x) y h = (x, refl, h)

numbered_is : (n m : ℕ) → numbered n ≡ Some m → n ≡ m
numbered_is n m h = by (nat_lt n (2 ^ 32)) h
  where
    by : (b : Bool) → (if b then Some n else None) ≡ Some m → n ≡ m
    by true h = cc h
    by false h = absurd (cc)

passes_at : {X : Type 0} (p : X → Bool) (xs : List X) (n : ℕ) (x : X) → list_all p xs ≡ true → slice_get xs n ≡ Some x → p x ≡ true
passes_at p [] n x h here = absurd (cc)
passes_at p (y ∷ ys) zero x h here = let e : y ≡ x = cc here in subst (λ z. p z ≡ true) e (and_parts (p y) (list_all p ys) h).0
passes_at p (y ∷ ys) (suc n) x h here = passes_at p ys n x (and_parts (p y) (list_all p ys) h).1 here

-- a value's number is below that of its list's names
value_below : (names : List (List ℕ)) (word : List ℕ) (v : ValId) → value_among names word ≡ Some v → v.0 < length names
value_below names word v h =
    let one = mapped (λ n. record { 0 = n }) (option_and_then numbered (position (is_named word) names)) v h in
    let two = chained numbered (position (is_named word) names) one.0 one.1 in
    let same : two.0 ≡ one.0 = numbered_is two.0 one.0 two.2 in
    let inside : two.0 < length names = (position-Some (is_named word) names two.0 [] two.1).0 in
    let number : one.0 ≡ v.0 = ap (λ (x : ValId). x.0) one.2 in
    omega (arith, same, inside, number)

-- a range of this sort stands there
record HasSort (ranges : List Range) (n : ℕ) (s : Sort) : Type 0 where
  pub range : Range
  pub here : slice_get ranges n ≡ Some range
  pub sort : range.sort ≡ s

sort_there : (ranges : List Range) (n : ℕ) (s : Sort) → sort_of ranges n ≡ Some s → HasSort ranges n s
sort_there ranges n s h = let one = mapped (λ (r : Range). r.sort) (slice_get ranges n) s h in record { range = one.0; here = one.1; sort = one.2 }

alike_there : (ranges : List Range) (x y : ℕ) → are_one_sort (sort_of ranges x) (sort_of ranges y) ≡ true → are_alike ranges x y ≡ true
alike_there ranges x y h = by (sort_of ranges x) (sort_of ranges y) refl refl h
  where
    by : (o p : Option Sort) → sort_of ranges x ≡ o → sort_of ranges y ≡ p → are_one_sort o p ≡ true → are_alike ranges x y ≡ true
    by None p e f h = absurd (cc)
    by (Some r) None e f h = absurd (cc)
    by (Some r) (Some s) e f h =
        let left = sort_there ranges x r e in
        let right = sort_there ranges y s f in
        rw (left.here, right.here) (ap₂ is_same_sort left.sort right.sort ∙ h)

module _ (plant : Plant) where
  abbrev pub sort_size : Sort → ℕ
  sort_size (Modes kind) = option_map_or (λ (t : ComponentType). length t.modes) (slice_get plant.types kind) 0
  sort_size (Values d) = domain_size plant.domains d

  abbrev pub is_sized : Range → Bool
  is_sized r = nat_eq r.size (sort_size r.sort)

  variables_sized : (vs : List Variable) → list_all is_sized (map (variable_range plant.domains) vs) ≡ true
  variables_sized [] = refl
  variables_sized (v ∷ vs) =
      and_from (nat_eq (domain_size plant.domains v.domain) (domain_size plant.domains v.domain)) (list_all is_sized (map (variable_range plant.domains) vs))
      (eq-eqb (domain_size plant.domains v.domain) (domain_size plant.domains v.domain) refl) (variables_sized vs)

  part_sized : (kind : ℕ) (o : Option ComponentType) → slice_get plant.types kind ≡ o → list_all is_sized (option_map_or (type_ranges plant.domains kind) o []) ≡ true
  part_sized kind None h = refl
  part_sized kind (Some t) h =
      let e : length t.modes ≡ sort_size (Modes kind) = sym (ap (λ (o : Option ComponentType). option_map_or (λ (u : ComponentType). length u.modes) o 0) h) in
      and_from (nat_eq (length t.modes) (sort_size (Modes kind))) (list_all is_sized (map (variable_range plant.domains) t.variables))
      (eq-eqb (length t.modes) (sort_size (Modes kind)) e) (variables_sized t.variables)

  parts_sized : (ps : List Part) → list_all is_sized (flat_map (part_ranges plant.domains plant.types) ps) ≡ true
  parts_sized [] = refl
  parts_sized (p ∷ ps) =
      list_all-append is_sized (part_ranges plant.domains plant.types p) (flat_map (part_ranges plant.domains plant.types) ps)
      ∙ and_from (list_all is_sized (part_ranges plant.domains plant.types p)) (list_all is_sized (flat_map (part_ranges plant.domains plant.types) ps))
      (part_sized p.kind (slice_get plant.types p.kind) refl) (parts_sized ps)

  sort_value_below : (s : Sort) (word : List ℕ) (v : ValId) → value_of_sort plant word s ≡ Some v → v.0 < sort_size s
  sort_value_below (Modes kind) word v h =
      let one = chained (λ (t : ComponentType). value_among t.modes word) (slice_get plant.types kind) v h in
      let below : v.0 < length one.0.modes = value_below one.0.modes word v one.2 in
      subst (λ (o : Option ComponentType). v.0 < option_map_or (λ (t : ComponentType). length t.modes) o 0) (sym one.1) below
  sort_value_below (Values d) word v h =
      let one = chained (λ (x : Domain). value_among x.values word) (slice_get plant.domains d) v h in
      let below : v.0 < length one.0.values = value_below one.0.values word v one.2 in
      subst (λ (o : Option Domain). v.0 < option_map_or (λ (x : Domain). length x.values) o 0) (sym one.1) below

  pub value_fits : (x : VarId) (word : List ℕ) (v : ValId) → value_of plant (plant_ranges plant) x word ≡ Some v → has_value (plant_ranges plant) x.0 v.0 ≡ true
  value_fits x word v h =
      let one = chained (value_of_sort plant word) (sort_of (plant_ranges plant) x.0) v h in
      let there = sort_there (plant_ranges plant) x.0 one.0 one.1 in
      let size : there.range.size ≡ sort_size there.range.sort = eqb-true there.range.size (sort_size there.range.sort) (passes_at is_sized (plant_ranges plant) x.0 there.range (parts_sized plant.parts) there.here) in
      let same : there.range.size ≡ sort_size one.0 = size ∙ ap sort_size there.sort in
      let less : v.0 < there.range.size = subst (λ (n : ℕ). v.0 < n) (sym same) (sort_value_below one.0 word v one.2) in
      ap (λ (o : Option Range). option_map_or (λ (s : Range). nat_lt v.0 s.size) o false) there.here ∙ lt-ltb v.0 there.range.size less

  pub scope_fits : ScopeFits (plant_names plant) (plant_ranges plant)
  scope_fits =
      record {
        values = λ path x name v found is. value_fits x name v is;
        domains = λ left right x y found other h. alike_there (plant_ranges plant) x.0 y.0 h;
      }

-- of ranges, as their sizes tell
pub below_size : (ranges : List Range) (x v : ℕ) → has_value ranges x v ≡ true → v < slice_index_or (map (λ (r : Range). r.size) ranges) x 0
below_size [] x v h = absurd (cc)
below_size (r ∷ rs) zero v h = less
  where
    less : v < r.size
    less = grind (arith, h)
below_size (r ∷ rs) (suc x) v h = below_size rs x v h
