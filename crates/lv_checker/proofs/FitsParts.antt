-- A plant keeps fitting with one more part, one more law of the system, or one more price.
use Rattle.std.proofs.Common.{◌≡◌, ◌+◌, ◌<◌, ◌≤◌, ℕ, zero, suc, Bool, true, false, not, ◌||◌, nat_eq, List, [], ◌∷◌, ◌++◌, length, map, sum_by, slice_get, if◌then◌else◌, Some, refl, sym, ap, ap₂, subst, ◌∙◌, arith}
use Rattle.std.specs.List.{list_all, list_any, flat_map}
use Rattle.std.proofs.lemmas.Bool.{and_parts, and_from, or_left, or_right, or_parts, or_from, not_from_false, not-true, eq-eqb}
use Rattle.std.proofs.lemmas.List.{length-map, length_push, flat_map_more}
use Rattle.std.proofs.lemmas.List.Folds.{list_any-append}
use Rattle.std.proofs.lemmas.List.Sums.{sum_by-cons, sum_by_push}
use Rattle.lv_base.specs.declared.limits.TheConstants.{PARTS, VARIABLES, MODEL_CLAUSES}
use Rattle.lv_base.specs.declared.ids.VarId.{VarId}
use Rattle.lv_base.specs.Tree.{Tree, is}
use Rattle.lv_base.specs.declared.range.Range.{Range}
use Rattle.lv_base.specs.Fits.{fits, has_value}
use Rattle.lv_base.proofs.WidenLemmas.{fits_wider, further}
use Rattle.lv_model.specs.declared.plant.Plant.{Plant}
use Rattle.lv_model.specs.declared.plant.ComponentType.{ComponentType}
use Rattle.lv_model.specs.declared.plant.Part.{Part}
use Rattle.lv_model.specs.declared.plant.Price.{Price}
use Rattle.lv_model.specs.declared.plant.Variable.{Variable}
use Rattle.lv_model.specs.Ranges.{part_ranges, plant_ranges}
use Rattle.lv_model.specs.Lists.{part_width, variable_count, is_control, is_variable, controls_from, part_controls, controls}
use Rattle.lv_model.specs.Counts.{limited, has_count, law_sizes, law_count, part_count, plant_count}
use Rattle.lv_model.specs.Prices.{is_price_of}
use Rattle.lv_model.specs.WellFormed.{name_fits, part_fits, firsts_follow, price_fits, are_priced_once}
use Rattle.lv_checker.specs.Drafts.{limited_size}
use Rattle.lv_checker.proofs.FitsLists.{all_more, all_kept, sum_same}
use Rattle.lv_checker.proofs.FitsCounts.{law_kept}
use Rattle.lv_checker.proofs.FitsTypes.{laws_counted}
use Rattle.lv_checker.proofs.FitsPlants.{PlantFits}

pub name_given : (plant : Plant) (name : List ℕ) → PlantFits plant → name_fits name ≡ true → PlantFits (record plant { name = name })
name_given plant name fact h =
    record {
      named = h;
      each_domain = fact.each_domain;
      each_type = fact.each_type;
      few_parts = fact.few_parts;
      each_part = fact.each_part;
      numbered = fact.numbered;
      few_variables = fact.few_variables;
      each_law = fact.each_law;
      each_price = fact.each_price;
      once = fact.once;
      type_counts = fact.type_counts;
      law_counts = fact.law_counts;
      few_clauses = fact.few_clauses;
    }

sizes_of : (rs : List Range) → map limited (map (λ (r : Range). r.size) rs) ≡ map limited_size rs
sizes_of [] = refl
sizes_of (r ∷ rs) = ap (λ (ns : List ℕ). limited r.size ∷ ns) (sizes_of rs)

sizes_behind : (rs behind : List Range) → map limited (map (λ (r : Range). r.size) (rs ++ behind)) ≡ map limited (map (λ (r : Range). r.size) rs) ++ map limited_size behind
sizes_behind [] behind = sizes_of behind
sizes_behind (r ∷ rs) behind = ap (λ (ns : List ℕ). limited r.size ∷ ns) (sizes_behind rs behind)

firsts_more : (types : List ComponentType) (next : ℕ) (ps : List Part) (p : Part) → firsts_follow types next ps ≡ true → p.first.0 ≡ next + sum_by (part_width types) ps
    → firsts_follow types next (ps ++ p ∷ []) ≡ true
firsts_more types next [] p h e = let same : p.first.0 ≡ next = omega (arith, e) in and_from (nat_eq p.first.0 next) true (eq-eqb p.first.0 next same) refl
firsts_more types next (q ∷ ps) p h e =
    let two = and_parts (nat_eq q.first.0 next) (firsts_follow types (next + part_width types q) ps) h in
    let sum = sum_by-cons (part_width types) q ps in
    let later : p.first.0 ≡ next + part_width types q + sum_by (part_width types) ps = omega (arith, e, sum) in
    and_from (nat_eq q.first.0 next) (firsts_follow types (next + part_width types q) (ps ++ p ∷ [])) two.0 (firsts_more types (next + part_width types q) ps p two.1 later)

price_kept : (ranges behind : List Range) (all more : List VarId) (x : Price) → price_fits ranges all x ≡ true → price_fits (ranges ++ behind) (all ++ more) x ≡ true
price_kept ranges behind all more x h =
    let two = and_parts (list_any (is_variable x.control.0) all) _ h in
    let rest = and_parts (has_value ranges x.control.0 x.value.0) _ two.1 in
    and_from (list_any (is_variable x.control.0) (all ++ more)) _
    (list_any-append (is_variable x.control.0) all more ∙ or_left (list_any (is_variable x.control.0) all) (list_any (is_variable x.control.0) more) two.0)
    (and_from (has_value (ranges ++ behind) x.control.0 x.value.0) _ (fits_wider ranges (ranges ++ behind) (further ranges behind) (is x.control.0 x.value.0) rest.0) rest.1)

module _ (plant : Plant) (fact : PlantFits plant) where
  pub few_ranges : length (plant_ranges plant) ≤ length (law_sizes plant)
  few_ranges =
      let a = length-map (map (λ (r : Range). r.size) (plant_ranges plant)) limited in
      let b = length-map (plant_ranges plant) (λ (r : Range). r.size) in
      omega (arith, a, b)

  module _ (p : Part) where
    abbrev pub with_it : Plant
    with_it = record plant { parts = plant.parts ++ p ∷ [] }

    pub ranges_more : plant_ranges with_it ≡ plant_ranges plant ++ part_ranges plant.domains plant.types p
    ranges_more = sym (flat_map_more (part_ranges plant.domains plant.types) [] plant.parts p)

    controls_more : controls with_it ≡ controls plant ++ part_controls plant.types p
    controls_more = sym (flat_map_more (part_controls plant.types) [] plant.parts p)

    pub sizes_more : law_sizes with_it ≡ law_sizes plant ++ map limited_size (part_ranges plant.domains plant.types p)
    sizes_more = ap (λ (rs : List Range). map limited (map (λ (r : Range). r.size) rs)) ranges_more ∙ sizes_behind (plant_ranges plant) (part_ranges plant.domains plant.types p)

    pub count_more : plant_count with_it ≡ plant_count plant + part_count plant.domains plant.types p
    count_more =
        let a = sum_by_push (part_count plant.domains plant.types) plant.parts p in
        let b : sum_by (law_count (law_sizes with_it)) plant.laws ≡ sum_by (law_count (law_sizes plant)) plant.laws =
        ap (λ (ns : List ℕ). sum_by (law_count ns) plant.laws) sizes_more
        ∙ sum_same (fits (plant_ranges plant)) (law_count (law_sizes plant ++ map limited_size (part_ranges plant.domains plant.types p))) (law_count (law_sizes plant)) plant.laws
        (law_kept (plant_ranges plant) (law_sizes plant) (map limited_size (part_ranges plant.domains plant.types p)) few_ranges) fact.each_law in
        omega (arith, a, b)

    pub part_added : part_fits plant.types p ≡ true → p.first.0 ≡ variable_count plant → length plant.parts < PARTS → variable_count plant + part_width plant.types p ≤ VARIABLES
        → plant_count plant + part_count plant.domains plant.types p ≤ MODEL_CLAUSES → PlantFits with_it
    part_added fit first few room clauses =
        record {
          named = fact.named;
          each_domain = fact.each_domain;
          each_type = fact.each_type;
          few_parts = let e = length_push plant.parts p in omega (arith, e, few);
          each_part = all_more (part_fits plant.types) plant.parts p fact.each_part fit;
          numbered = let e : p.first.0 ≡ 0 + sum_by (part_width plant.types) plant.parts = omega (arith, first) in firsts_more plant.types 0 plant.parts p fact.numbered e;
          few_variables = let e = sum_by_push (part_width plant.types) plant.parts p in omega (arith, e, room);
          each_law =
              subst (λ (rs : List Range). list_all (fits rs) plant.laws ≡ true) (sym ranges_more)
              (all_kept (fits (plant_ranges plant)) (fits (plant_ranges plant ++ part_ranges plant.domains plant.types p)) plant.laws
              (λ f. fits_wider (plant_ranges plant) (plant_ranges plant ++ part_ranges plant.domains plant.types p) (further (plant_ranges plant) (part_ranges plant.domains plant.types p)) f) fact.each_law);
          each_price =
              ap₂ (λ (rs : List Range) (cs : List VarId). list_all (price_fits rs cs) plant.prices) ranges_more controls_more
              ∙ all_kept (price_fits (plant_ranges plant) (controls plant)) (price_fits (plant_ranges plant ++ part_ranges plant.domains plant.types p) (controls plant ++ part_controls plant.types p)) plant.prices
              (price_kept (plant_ranges plant) (part_ranges plant.domains plant.types p) (controls plant) (part_controls plant.types p)) fact.each_price;
          once = fact.once;
          type_counts = fact.type_counts;
          law_counts =
              ap (λ (ns : List ℕ). list_all (has_count ns true) plant.laws) sizes_more
              ∙ laws_counted (plant_ranges plant) (law_sizes plant) (map limited_size (part_ranges plant.domains plant.types p)) few_ranges plant.laws fact.each_law fact.law_counts;
          few_clauses = let e = count_more in omega (arith, e, clauses);
        }

  pub law_added : (f : Tree) → fits (plant_ranges plant) f ≡ true → has_count (law_sizes plant) true f ≡ true → plant_count plant + law_count (law_sizes plant) f ≤ MODEL_CLAUSES
      → PlantFits (record plant { laws = plant.laws ++ f ∷ [] })
  law_added f fit count clauses =
      record {
        named = fact.named;
        each_domain = fact.each_domain;
        each_type = fact.each_type;
        few_parts = fact.few_parts;
        each_part = fact.each_part;
        numbered = fact.numbered;
        few_variables = fact.few_variables;
        each_law = all_more (fits (plant_ranges plant)) plant.laws f fact.each_law fit;
        each_price = fact.each_price;
        once = fact.once;
        type_counts = fact.type_counts;
        law_counts = all_more (has_count (law_sizes plant) true) plant.laws f fact.law_counts count;
        few_clauses = let e = sum_by_push (law_count (law_sizes plant)) plant.laws f in omega (arith, e, clauses);
      }

  pub law_count_more : (f : Tree) → plant_count (record plant { laws = plant.laws ++ f ∷ [] }) ≡ plant_count plant + law_count (law_sizes plant) f
  law_count_more f = let e = sum_by_push (law_count (law_sizes plant)) plant.laws f in omega (arith, e)

  pub price_added : (x : Price) → price_fits (plant_ranges plant) (controls plant) x ≡ true → list_any (is_price_of x.control.0 x.value.0) plant.prices ≡ false
      → PlantFits (record plant { prices = plant.prices ++ x ∷ [] })
  price_added x fit new =
      record {
        named = fact.named;
        each_domain = fact.each_domain;
        each_type = fact.each_type;
        few_parts = fact.few_parts;
        each_part = fact.each_part;
        numbered = fact.numbered;
        few_variables = fact.few_variables;
        each_law = fact.each_law;
        each_price = all_more (price_fits (plant_ranges plant) (controls plant)) plant.prices x fact.each_price fit;
        once = priced_once plant.prices fact.once new;
        type_counts = fact.type_counts;
        law_counts = fact.law_counts;
        few_clauses = fact.few_clauses;
      }
    where
      other : (q : Price) → is_price_of x.control.0 x.value.0 q ≡ false → is_price_of q.control.0 q.value.0 x ≡ false
      other q h = grind arith

      priced_once : (ps : List Price) → are_priced_once ps ≡ true → list_any (is_price_of x.control.0 x.value.0) ps ≡ false → are_priced_once (ps ++ x ∷ []) ≡ true
      priced_once [] h k = refl
      priced_once (q ∷ ps) h k =
          let two = and_parts (not (list_any (is_price_of q.control.0 q.value.0) ps)) (are_priced_once ps) h in
          let own = or_parts (is_price_of x.control.0 x.value.0 q) (list_any (is_price_of x.control.0 x.value.0) ps) k in
          let none : list_any (is_price_of q.control.0 q.value.0) (ps ++ x ∷ []) ≡ false =
          list_any-append (is_price_of q.control.0 q.value.0) ps (x ∷ [])
          ∙ or_from (list_any (is_price_of q.control.0 q.value.0) ps) (is_price_of q.control.0 q.value.0 x || false) (not-true (list_any (is_price_of q.control.0 q.value.0) ps) two.0)
          (or_from (is_price_of q.control.0 q.value.0 x) false (other q own.0) refl) in
          and_from (not (list_any (is_price_of q.control.0 q.value.0) (ps ++ x ∷ []))) (are_priced_once (ps ++ x ∷ [])) (not_from_false (list_any (is_price_of q.control.0 q.value.0) (ps ++ x ∷ [])) none) (priced_once ps two.1 own.1)

-- a control of a type is among the controls of each part of it
pub control_among : (first : ℕ) (vs : List Variable) (k : ℕ) (v : Variable) → slice_get vs k ≡ Some v → is_control v.class ≡ true → list_any (is_variable (first + k)) (controls_from first vs) ≡ true
control_among first [] k v here h = absurd (cc)
control_among first (u ∷ vs) zero v here h =
    let same : u ≡ v = cc here in
    by (is_control u.class) (ap (λ (w : Variable). is_control w.class) same ∙ h)
  where
    e : first ≡ first + 0
    e = omega arith

    by : (b : Bool) → b ≡ true → list_any (is_variable (first + 0)) (if b then record { 0 = first } ∷ controls_from (first + 1) vs else controls_from (first + 1) vs) ≡ true
    by true own = or_left (nat_eq first (first + 0)) _ (eq-eqb first (first + 0) e)
    by false own = absurd (cc)
control_among first (u ∷ vs) (suc k) v here h = by (is_control u.class) (control_among (first + 1) vs k v here h)
  where
    e : first + 1 + k ≡ first + suc k
    e = omega arith

    by : (b : Bool) → list_any (is_variable (first + 1 + k)) (controls_from (first + 1) vs) ≡ true
        → list_any (is_variable (first + suc k)) (if b then record { 0 = first } ∷ controls_from (first + 1) vs else controls_from (first + 1) vs) ≡ true
    by true rest = or_right (nat_eq first (first + suc k)) _ (subst (λ (n : ℕ). list_any (is_variable n) (controls_from (first + 1) vs) ≡ true) e rest)
    by false rest = subst (λ (n : ℕ). list_any (is_variable n) (controls_from (first + 1) vs) ≡ true) e rest

pub among_parts : (q : VarId → Bool) (f : Part → List VarId) (ps : List Part) (k : ℕ) (p : Part) → slice_get ps k ≡ Some p → list_any q (f p) ≡ true → list_any q (flat_map f ps) ≡ true
among_parts q f [] k p here h = absurd (cc)
among_parts q f (o ∷ ps) zero p here h =
    let same : o ≡ p = cc here in
    list_any-append q (f o) (flat_map f ps) ∙ or_left (list_any q (f o)) (list_any q (flat_map f ps)) (ap (λ (r : Part). list_any q (f r)) same ∙ h)
among_parts q f (o ∷ ps) (suc k) p here h = list_any-append q (f o) (flat_map f ps) ∙ or_right (list_any q (f o)) (list_any q (flat_map f ps)) (among_parts q f ps k p here h)
