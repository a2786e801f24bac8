-- The values of each control of a well-formed plant make a slot, and the prices are small.
use Rattle.std.proofs.Common.{◌≡◌, ◌+◌, ◌≤◌, ◌<◌, ℕ, zero, suc, Bool, true, false, ◌&&◌, nat_eq, nat_lt, nat_le, List, [], ◌∷◌, length, map, cond, slice_get, slice_index_or, sum_by, Option, Some, None, refl, ap, ◌∙◌, arith, All}
use Rattle.std.proofs.lemmas.Bool.{and_parts, ltb-true}
use Rattle.std.specs.Option.{option_map_or}
use Rattle.std.specs.List.{list_all, list_any, flat_map, find, range_with_len}
use Rattle.std.proofs.lemmas.List.{length-map, length-append}
use Rattle.std.proofs.lemmas.List.Sums.{sum_by-cons}
use Rattle.std.proofs.lemmas.List.Elements.{All-cons, All-tail, All-append}
use borrow.Author.Tests.{leb-true}
use Rattle.lv_base.specs.declared.limits.TheConstants.{MODES, VALUES, PRICE, VARIABLES}
use Rattle.lv_base.specs.declared.ids.VarId.{VarId}
use Rattle.lv_base.specs.declared.ids.Cost.{Cost}
use Rattle.lv_model.specs.lv_base.declared.range.Range.{Range}
use Rattle.lv_model.specs.lv_base.Fits.{has_value}
use Rattle.lv_model.specs.declared.plant.Plant.{Plant}
use Rattle.lv_model.specs.declared.plant.Domain.{Domain}
use Rattle.lv_model.specs.declared.plant.ComponentType.{ComponentType}
use Rattle.lv_model.specs.declared.plant.Variable.{Variable}
use Rattle.lv_model.specs.declared.plant.Part.{Part}
use Rattle.lv_model.specs.declared.plant.Price.{Price}
use Rattle.lv_model.specs.Ranges.{variable_range, type_ranges, part_ranges, plant_ranges}
use Rattle.lv_model.specs.Lists.{sizes, type_width, part_width, is_control, controls_from, part_controls, controls, variable_count, is_variable, IsVariable}
use Rattle.lv_model.specs.Prices.{is_price_of, price_of}
use Rattle.lv_model.specs.WellFormed.{name_fits, is_within, domain_fits, variable_fits, names_fit, counts_fit, price_fits, are_priced_once, laws_fit, prices_fit, lists_fit, variables_fit, is_well_formed}
use Rattle.lv_model.specs.Counts.{clauses_fit}
use Rattle.lv_model.proofs.Reading.{All-of_test, All-at, type_of_place, domains_pass, types_pass}
use Rattle.lv_model.proofs.Sizes.{length-sizes, few-sizes}
use Rattle.lv_model.proofs.Controls.{controls-in_range}
use Rattle.lv_compile.proofs.LengthLemmas.{length_row}
use Rattle.lv_search_zones.specs.Commands.{value_cost, value_costs, control_costs}
use Rattle.lv_search_zones.specs.ControlSlots.{HasControlSlot}

not_past : {X : Type 0} (xs : List X) (n : ℕ) → slice_get xs n ≡ None → n < length xs → ⊥
not_past [] n is below = omega (arith, below)
not_past (x ∷ xs) zero is below = cc is
not_past (x ∷ xs) (suc n) is below = not_past xs n is (omega (arith, below))

-- each variable has a value

record HasSome (r : Range) : Type 0 where
  some : 1 ≤ r.size

module _ (plant : Plant) (h : is_well_formed plant ≡ true) where
  some_values : (o : Option Domain) (d : ℕ) → slice_get plant.domains d ≡ o → d < length plant.domains → 1 ≤ option_map_or (λ (x : Domain). length x.values) o 0
  some_values None d is below = absurd (not_past plant.domains d is below)
  some_values (Some x) d is below =
      let P : Domain → Type 0 = λ y. domain_fits y ≡ true in
      let fits = and_parts (name_fits x.name) _ (All-at P plant.domains d x (All-of_test domain_fits P plant.domains (λ y e. e) (domains_pass plant h)) is) in
      leb-true 1 (length x.values) (and_parts (nat_le 1 (length x.values)) _ (and_parts (is_within 1 (length x.values) VALUES) _ fits.1).0).0

  some_of_variables : (vs : List Variable) → list_all (variable_fits (length plant.domains)) vs ≡ true → All HasSome (map (variable_range plant.domains) vs)
  some_of_variables [] fits = λ k d below. absurd (omega arith)
  some_of_variables (v ∷ vs) fits =
      let two = and_parts (variable_fits (length plant.domains) v) (list_all (variable_fits (length plant.domains)) vs) fits in
      let there = (and_parts (name_fits v.name) (nat_lt v.domain (length plant.domains)) two.0).1 in
      All-cons HasSome (variable_range plant.domains v) (map (variable_range plant.domains) vs)
      (record { some = some_values (slice_get plant.domains v.domain) v.domain refl (ltb-true v.domain (length plant.domains) there) }) (some_of_variables vs two.1)

  some_of_type : (o : Option ComponentType) (k : ℕ) → slice_get plant.types k ≡ o → All HasSome (option_map_or (type_ranges plant.domains k) o [])
  some_of_type None k is = λ j d below. absurd (omega arith)
  some_of_type (Some t) k is =
      let fits = and_parts (names_fit (length plant.domains) t && counts_fit t) _ (type_of_place plant.domains plant.types k t (types_pass plant h) is) in
      let named = and_parts (names_fit (length plant.domains) t) (counts_fit t) fits.0 in
      let modes = (and_parts (is_within 1 (length t.modes) MODES) _ named.1).0 in
      let variables = (and_parts (list_all (variable_fits (length plant.domains)) t.variables) (list_all name_fits t.modes) (and_parts (name_fits t.name) _ named.0).1).0 in
      All-cons HasSome _ (map (variable_range plant.domains) t.variables)
      (record { some = leb-true 1 (length t.modes) (and_parts (nat_le 1 (length t.modes)) _ modes).0 }) (some_of_variables t.variables variables)

  some_of_parts : (ps : List Part) → All HasSome (flat_map (part_ranges plant.domains plant.types) ps)
  some_of_parts [] = λ k d below. absurd (omega arith)
  some_of_parts (p ∷ ps) =
      All-append HasSome (part_ranges plant.domains plant.types p) (flat_map (part_ranges plant.domains plant.types) ps)
      (some_of_type (slice_get plant.types p.kind) p.kind refl) (some_of_parts ps)

size_there : (rs : List Range) (x : ℕ) → All HasSome rs → x < length rs → 1 ≤ slice_index_or (map (λ (r : Range). r.size) rs) x 0
size_there [] x all below = absurd (omega (arith, below))
size_there (r ∷ rs) zero all below = (all 0 r (omega arith)).some
size_there (r ∷ rs) (suc x) all below = size_there rs x (All-tail HasSome r rs all) (omega (arith, below))

-- no price is too large

priced : (ranges : List Range) (cs : List VarId) (c v : ℕ) (ps : List Price) → list_all (price_fits ranges cs) ps ≡ true
    → option_map_or (λ (p : Price). p.cost.0) (find (is_price_of c v) ps) 1 ≤ PRICE
priced ranges cs c v [] fits = omega arith
priced ranges cs c v (p ∷ ps) fits = by (is_price_of c v p) (priced ranges cs c v ps two.1)
  where
    two : (price_fits ranges cs p ≡ true) × (list_all (price_fits ranges cs) ps ≡ true)
    two = and_parts (price_fits ranges cs p) (list_all (price_fits ranges cs) ps) fits

    small : p.cost.0 ≤ PRICE
    small =
        leb-true p.cost.0 PRICE (and_parts (nat_lt 0 p.value.0) (nat_le p.cost.0 PRICE) (and_parts (has_value ranges p.control.0 p.value.0) _ (and_parts (list_any (is_variable p.control.0) cs) _ two.0).1).1).1

    by : (b : Bool) → option_map_or (λ (q : Price). q.cost.0) (find (is_price_of c v) ps) 1 ≤ PRICE → option_map_or (λ (q : Price). q.cost.0) (cond b (Some p) (find (is_price_of c v) ps)) 1 ≤ PRICE
    by true rest = small
    by false rest = rest

module _ (plant : Plant) (h : is_well_formed plant ≡ true) where
  prices_pass : list_all (price_fits (plant_ranges plant) (controls plant)) plant.prices ≡ true
  prices_pass =
      (and_parts (list_all (price_fits (plant_ranges plant) (controls plant)) plant.prices) (are_priced_once plant.prices)
      (and_parts (laws_fit plant) (prices_fit plant) (and_parts (laws_fit plant && prices_fit plant) (clauses_fit plant) (and_parts (variables_fit plant) _ (and_parts (lists_fit plant) _ h).1).1).0).1).0

  pub cheap_price : (c v : ℕ) → price_of plant c v ≤ PRICE
  cheap_price c v = by (nat_eq v 0)
    where
      by : (b : Bool) → cond b 0 (option_map_or (λ (p : Price). p.cost.0) (find (is_price_of c v) plant.prices) 1) ≤ PRICE
      by true = omega arith
      by false = priced (plant_ranges plant) (controls plant) c v plant.prices prices_pass

  all_cheap : (c : ℕ) (vs : List ℕ) → All (λ (cost : Cost). cost.0 ≤ 1000000) (map (value_cost plant c) vs)
  all_cheap c [] = λ k d below. absurd (omega arith)
  all_cheap c (v ∷ vs) = All-cons (λ (cost : Cost). cost.0 ≤ 1000000) (value_cost plant c v) (map (value_cost plant c) vs) (cheap_price c v) (all_cheap c vs)

  pub length-costs : (c n : ℕ) → length (value_costs plant c n) ≡ n
  length-costs c n = length-map (range_with_len 0 n) (value_cost plant c) ∙ length_row n 0

  -- each control has one to 64 values
  pub has_slot : (c : VarId) → c.0 < variable_count plant → HasControlSlot plant c
  has_slot c below =
      let n : ℕ = slice_index_or (sizes plant) c.0 0 in
      let whole : length (sizes plant) ≡ variable_count plant = length-sizes plant in
      let ranged : length (map (λ (r : Range). r.size) (plant_ranges plant)) ≡ length (plant_ranges plant) = length-map (plant_ranges plant) (λ (r : Range). r.size) in
      let within : c.0 < length (sizes plant) = omega (arith, below, whole) in
      let least : 1 ≤ n = size_there (plant_ranges plant) c.0 (some_of_parts plant h plant.parts) (omega (arith, within, ranged)) in
      let most : n ≤ 64 = (few-sizes plant h c.0 0 within).few in
      let long : length (control_costs plant c) ≡ n = length-costs c.0 n in
      record { there = within; few = most; slot = record { some = omega (arith, least, long); few = omega (arith, most, long); cheap = all_cheap c.0 (range_with_len 0 n) } }

  slots_of : (cs : List VarId) → All (IsVariable (variable_count plant)) cs → All (HasControlSlot plant) cs
  slots_of [] all = λ k d below. absurd (omega arith)
  slots_of (c ∷ cs) all =
      All-cons (HasControlSlot plant) c cs (has_slot c ((all 0 c (omega arith)).below)) (slots_of cs (All-tail (IsVariable (variable_count plant)) c cs all))

  pub controls_have_slots : All (HasControlSlot plant) (controls plant)
  controls_have_slots = slots_of (controls plant) (controls-in_range plant h)

-- there are no more controls than variables

few_of_variables : (first : ℕ) (vs : List Variable) → length (controls_from first vs) ≤ length vs
few_of_variables first [] = omega arith
few_of_variables first (v ∷ vs) = by (is_control v.class) (few_of_variables (first + 1) vs)
  where
    by : (b : Bool) → length (controls_from (first + 1) vs) ≤ length vs → length (cond b (record { 0 = first } ∷ controls_from (first + 1) vs) (controls_from (first + 1) vs)) ≤ suc (length vs)
    by true rest = omega (arith, rest)
    by false rest = omega (arith, rest)

few_of_part : (first : ℕ) (o : Option ComponentType) → length (option_map_or (λ (t : ComponentType). controls_from (first + 1) t.variables) o []) ≤ option_map_or type_width o 0
few_of_part first None = omega arith
few_of_part first (Some t) = let few = few_of_variables (first + 1) t.variables in omega (arith, few)

few_of_parts : (types : List ComponentType) (ps : List Part) → length (flat_map (part_controls types) ps) ≤ sum_by (part_width types) ps
few_of_parts types [] = omega arith
few_of_parts types (p ∷ ps) =
    let here = few_of_part p.first.0 (slice_get types p.kind) in
    let rest = few_of_parts types ps in
    let both = length-append (part_controls types p) (flat_map (part_controls types) ps) in
    let sum = sum_by-cons (part_width types) p ps in
    omega (arith, here, rest, both, sum)

pub few_controls : (plant same : Plant) → same ≡ plant → variable_count same ≤ VARIABLES → (cs : List VarId) → cs ≡ controls plant → length cs ≤ 4096
few_controls plant same is most cs are =
    let fewer : length (controls plant) ≤ variable_count plant = few_of_parts plant.types plant.parts in
    let long : length cs ≡ length (controls plant) = ap length are in
    let counted : variable_count same ≡ variable_count plant = ap variable_count is in
    omega (arith, fewer, long, counted, most)
