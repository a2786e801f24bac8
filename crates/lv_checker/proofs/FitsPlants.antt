-- A plant whose statements were checked is well formed once it has a part, and what further domains and types leave of it.
use Rattle.std.proofs.Common.{◌≡◌, ◌+◌, ◌≤◌, ℕ, Bool, true, false, ◌&&◌, nat_eq, nat_lt, nat_le, List, [], ◌∷◌, ◌++◌, length, map, sum_by, slice_get, Option, Some, None, refl, sym, ap, ap₂, subst, ◌∙◌, arith}
use Rattle.std.specs.List.{list_all}
use Rattle.std.specs.Option.{option_map_or}
use Rattle.std.proofs.lemmas.Bool.{and_parts, and_from, lt-ltb, le-leb, ltb-true}
use Rattle.std.proofs.lemmas.List.{length_push}
use Rattle.lv_base.specs.declared.limits.TheConstants.{PARTS, VARIABLES, MODES, MODEL_CLAUSES}
use Rattle.lv_base.specs.declared.ids.VarId.{VarId}
use Rattle.lv_base.specs.declared.range.Range.{Range}
use Rattle.lv_base.specs.Fits.{fits}
use Rattle.lv_model.specs.declared.plant.Plant.{Plant}
use Rattle.lv_model.specs.declared.plant.Domain.{Domain}
use Rattle.lv_model.specs.declared.plant.ComponentType.{ComponentType}
use Rattle.lv_model.specs.declared.plant.Part.{Part}
use Rattle.lv_model.specs.declared.plant.Variable.{Variable}
use Rattle.lv_model.specs.Ranges.{domain_size, variable_range, type_ranges, part_ranges, plant_ranges}
use Rattle.lv_model.specs.Lists.{type_width, part_width, variable_count, part_controls, controls, controls_from}
use Rattle.lv_model.specs.Counts.{held, limited, has_count, variable_size, values_count, formula_sizes, one_of_count, holds_count, choice_count, law_sizes, law_count, type_count, part_count, plant_count, type_has_counts, formulas_have_counts, clauses_fit}
use Rattle.lv_model.specs.Denials.{held_type_count}
use Rattle.lv_model.specs.WellFormed.{name_fits, domain_fits, variable_fits, names_fit, counts_fit, formulas_fit, moves_fit, type_fits, types_fit, part_fits, parts_fit, firsts_follow, variables_fit, price_fits, are_priced_once, laws_fit, prices_fit, lists_fit, is_within, is_well_formed}
use Rattle.lv_checker.proofs.FitsLists.{all_at, all_kept, all_joined, all_more, flat_map_same, map_same, sum_same, found_below, found_further, passed}

-- all that a well-formed plant keeps to but that it has a part
pub record PlantFits (plant : Plant) : Type 0 where
  pub named : name_fits plant.name ≡ true
  pub each_domain : list_all domain_fits plant.domains ≡ true
  pub each_type : types_fit plant.domains 0 plant.types ≡ true
  pub few_parts : length plant.parts ≤ PARTS
  pub each_part : list_all (part_fits plant.types) plant.parts ≡ true
  pub numbered : firsts_follow plant.types 0 plant.parts ≡ true
  pub few_variables : variable_count plant ≤ VARIABLES
  pub each_law : list_all (fits (plant_ranges plant)) plant.laws ≡ true
  pub each_price : list_all (price_fits (plant_ranges plant) (controls plant)) plant.prices ≡ true
  pub once : are_priced_once plant.prices ≡ true
  pub type_counts : list_all (type_has_counts plant.domains) plant.types ≡ true
  pub law_counts : list_all (has_count (law_sizes plant) true) plant.laws ≡ true
  pub few_clauses : plant_count plant ≤ MODEL_CLAUSES

pub well_formed : (plant : Plant) → PlantFits plant → 1 ≤ length plant.parts → is_well_formed plant ≡ true
well_formed plant fact some =
    and_from (lists_fit plant) (variables_fit plant && ((laws_fit plant && prices_fit plant) && clauses_fit plant))
    (and_from (name_fits plant.name && list_all domain_fits plant.domains) (types_fit plant.domains 0 plant.types && parts_fit plant)
    (and_from (name_fits plant.name) (list_all domain_fits plant.domains) fact.named fact.each_domain)
    (and_from (types_fit plant.domains 0 plant.types) (parts_fit plant) fact.each_type
    (and_from (is_within 1 (length plant.parts) PARTS) (list_all (part_fits plant.types) plant.parts)
    (and_from (nat_le 1 (length plant.parts)) (nat_le (length plant.parts) PARTS) (le-leb 1 (length plant.parts) some) (le-leb (length plant.parts) PARTS fact.few_parts)) fact.each_part)))
    (and_from (variables_fit plant) ((laws_fit plant && prices_fit plant) && clauses_fit plant)
    (and_from (firsts_follow plant.types 0 plant.parts) (nat_le (variable_count plant) VARIABLES) fact.numbered (le-leb (variable_count plant) VARIABLES fact.few_variables))
    (and_from (laws_fit plant && prices_fit plant) (clauses_fit plant)
    (and_from (laws_fit plant) (prices_fit plant) fact.each_law (and_from (list_all (price_fits (plant_ranges plant) (controls plant)) plant.prices) (are_priced_once plant.prices) fact.each_price fact.once))
    (and_from (list_all (type_has_counts plant.domains) plant.types && list_all (has_count (law_sizes plant) true) plant.laws) (nat_le (plant_count plant) MODEL_CLAUSES)
    (and_from (list_all (type_has_counts plant.domains) plant.types) (list_all (has_count (law_sizes plant) true) plant.laws) fact.type_counts fact.law_counts)
    (le-leb (plant_count plant) MODEL_CLAUSES fact.few_clauses))))

-- a part is the same among other domains and types
pub record SamePart (domains others : List Domain) (types kinds : List ComponentType) (p : Part) : Type 0 where
  pub ranges : part_ranges others kinds p ≡ part_ranges domains types p
  pub width : part_width kinds p ≡ part_width types p
  pub own_controls : part_controls kinds p ≡ part_controls types p
  pub count : part_count others kinds p ≡ part_count domains types p
  pub fit : part_fits kinds p ≡ part_fits types p

-- the plant among other domains and types
abbrev pub moved : Plant → List Domain → List ComponentType → Plant
moved plant others kinds = record plant { domains = others; types = kinds }

module _ (plant : Plant) (others : List Domain) (kinds : List ComponentType) (fact : PlantFits plant)
    (same : (p : Part) → part_fits plant.types p ≡ true → SamePart plant.domains others plant.types kinds p) where
  pub ranges_same : plant_ranges (moved plant others kinds) ≡ plant_ranges plant
  ranges_same = flat_map_same (part_fits plant.types) (part_ranges others kinds) (part_ranges plant.domains plant.types) plant.parts (λ p e. (same p e).ranges) fact.each_part

  width_same : variable_count (moved plant others kinds) ≡ variable_count plant
  width_same = sum_same (part_fits plant.types) (part_width kinds) (part_width plant.types) plant.parts (λ p e. (same p e).width) fact.each_part

  controls_same : controls (moved plant others kinds) ≡ controls plant
  controls_same = flat_map_same (part_fits plant.types) (part_controls kinds) (part_controls plant.types) plant.parts (λ p e. (same p e).own_controls) fact.each_part

  pub sizes_same : law_sizes (moved plant others kinds) ≡ law_sizes plant
  sizes_same = ap (λ (rs : List Range). map limited (map (λ (r : Range). r.size) rs)) ranges_same

  pub count_same : plant_count (moved plant others kinds) ≡ plant_count plant
  count_same =
      ap₂ (λ (a : ℕ) (ns : List ℕ). a + sum_by (law_count ns) plant.laws)
      (sum_same (part_fits plant.types) (part_count others kinds) (part_count plant.domains plant.types) plant.parts (λ p e. (same p e).count) fact.each_part) sizes_same

  firsts_same : (next : ℕ) (ps : List Part) → list_all (part_fits plant.types) ps ≡ true → firsts_follow plant.types next ps ≡ true → firsts_follow kinds next ps ≡ true
  firsts_same next [] h k = refl
  firsts_same next (p ∷ ps) h k =
      let fit = and_parts (part_fits plant.types p) (list_all (part_fits plant.types) ps) h in
      let two = and_parts (nat_eq p.first.0 next) (firsts_follow plant.types (next + part_width plant.types p) ps) k in
      and_from (nat_eq p.first.0 next) (firsts_follow kinds (next + part_width kinds p) ps) two.0
      (subst (λ (n : ℕ). firsts_follow kinds (next + n) ps ≡ true) (sym (same p fit.0).width) (firsts_same (next + part_width plant.types p) ps fit.1 two.1))

  pub moved_fits : list_all domain_fits others ≡ true → types_fit others 0 kinds ≡ true → list_all (type_has_counts others) kinds ≡ true → PlantFits (moved plant others kinds)
  moved_fits a b c =
      record {
        named = fact.named;
        each_domain = a;
        each_type = b;
        few_parts = fact.few_parts;
        each_part = all_kept (part_fits plant.types) (part_fits kinds) plant.parts (λ p e. (same p e).fit ∙ e) fact.each_part;
        numbered = firsts_same 0 plant.parts fact.each_part fact.numbered;
        few_variables = subst (λ (n : ℕ). n ≤ VARIABLES) (sym width_same) fact.few_variables;
        each_law = subst (λ (rs : List Range). list_all (fits rs) plant.laws ≡ true) (sym ranges_same) fact.each_law;
        each_price = ap₂ (λ (rs : List Range) (cs : List VarId). list_all (price_fits rs cs) plant.prices) ranges_same controls_same ∙ fact.each_price;
        once = fact.once;
        type_counts = c;
        law_counts = ap (λ (ns : List ℕ). list_all (has_count ns true) plant.laws) sizes_same ∙ fact.law_counts;
        few_clauses = subst (λ (n : ℕ). n ≤ MODEL_CLAUSES) (sym count_same) fact.few_clauses;
      }

-- one type more

pub types_more : (domains : List Domain) (kind : ℕ) (ts : List ComponentType) (t : ComponentType) → types_fit domains kind ts ≡ true → ((k : ℕ) → type_fits domains k t ≡ true)
    → types_fit domains kind (ts ++ t ∷ []) ≡ true
types_more domains kind [] t h e = and_from (type_fits domains kind t) true (e kind) refl
types_more domains kind (u ∷ ts) t h e =
    let two = and_parts (type_fits domains kind u) (types_fit domains (kind + 1) ts) h in
    and_from (type_fits domains kind u) (types_fit domains (kind + 1) (ts ++ t ∷ [])) two.0 (types_more domains (kind + 1) ts t two.1 e)

pub same_with_type : (domains : List Domain) (types : List ComponentType) (t : ComponentType) (p : Part) → part_fits types p ≡ true → SamePart domains domains types (types ++ t ∷ []) p
same_with_type domains types t p h =
    let o = passed (λ (u : ComponentType). nat_lt p.start.0 (length u.modes)) (slice_get types p.kind) (and_parts (name_fits p.name) _ h).1 in
    let e : slice_get (types ++ t ∷ []) p.kind ≡ slice_get types p.kind = found_further types (t ∷ []) p.kind o.0 o.1 ∙ sym o.1 in
    record {
      ranges = ap (λ (x : Option ComponentType). option_map_or (type_ranges domains p.kind) x []) e;
      width = ap (λ (x : Option ComponentType). option_map_or type_width x 0) e;
      own_controls = ap (λ (x : Option ComponentType). option_map_or (λ (u : ComponentType). controls_from (p.first.0 + 1) u.variables) x []) e;
      count = ap (λ (x : Option ComponentType). option_map_or (type_count domains) x 0) e;
      fit = ap (λ (x : Option ComponentType). name_fits p.name && option_map_or (λ (u : ComponentType). nat_lt p.start.0 (length u.modes)) x false) e;
    }

-- one domain more

-- a type whose variables range over domains that are there
abbrev pub knows_domains : List Domain → ComponentType → Bool
knows_domains domains t = list_all (variable_fits (length domains)) t.variables

pub types_know : (domains : List Domain) (kind : ℕ) (ts : List ComponentType) → types_fit domains kind ts ≡ true → list_all (knows_domains domains) ts ≡ true
types_know domains kind [] h = refl
types_know domains kind (t ∷ ts) h =
    let two = and_parts (type_fits domains kind t) (types_fit domains (kind + 1) ts) h in
    let names = and_parts (names_fit (length domains) t) (counts_fit t) (and_parts (names_fit (length domains) t && counts_fit t) _ two.0).0 in
    let variables = and_parts (list_all (variable_fits (length domains)) t.variables) (list_all name_fits t.modes) (and_parts (name_fits t.name) _ names.0).1 in
    and_from (knows_domains domains t) (list_all (knows_domains domains) ts) variables.0 (types_know domains (kind + 1) ts two.1)

module _ (domains : List Domain) (x : Domain) where
  abbrev more : List Domain
  more = domains ++ x ∷ []

  size_same : (v : Variable) → variable_fits (length domains) v ≡ true → domain_size more v.domain ≡ domain_size domains v.domain
  size_same v h =
      let below = ltb-true v.domain (length domains) (and_parts (name_fits v.name) (nat_lt v.domain (length domains)) h).1 in
      ap (λ (o : Option Domain). option_map_or (λ (y : Domain). length y.values) o 0) (found_below domains (x ∷ []) v.domain below)

  still_known : (v : Variable) → variable_fits (length domains) v ≡ true → variable_fits (length more) v ≡ true
  still_known v h =
      let two = and_parts (name_fits v.name) (nat_lt v.domain (length domains)) h in
      let below = ltb-true v.domain (length domains) two.1 in
      let e = length_push domains x in
      and_from (name_fits v.name) (nat_lt v.domain (length (domains ++ x ∷ []))) two.0 (lt-ltb v.domain (length (domains ++ x ∷ [])) (omega (arith, below, e)))

  module _ (t : ComponentType) (known : knows_domains domains t ≡ true) where
    type_ranges_same : (kind : ℕ) → type_ranges more kind t ≡ type_ranges domains kind t
    type_ranges_same kind =
        ap (λ (rs : List Range). type_ranges [] kind (record t { variables = [] }) ++ rs)
        (map_same (variable_fits (length domains)) (variable_range more) (variable_range domains) t.variables
        (λ v e. ap (λ (n : ℕ). record (variable_range domains v) { size = n }) (size_same v e)) known)

    formula_sizes_same : formula_sizes more t.variables ≡ formula_sizes domains t.variables
    formula_sizes_same =
        ap (λ (ns : List ℕ). MODES ∷ ns)
        (map_same (variable_fits (length domains)) (variable_size more) (variable_size domains) t.variables (λ v e. ap (λ (n : ℕ). limited n) (size_same v e)) known)

    values_same : sum_by (values_count more) t.variables ≡ sum_by (values_count domains) t.variables
    values_same = sum_same (variable_fits (length domains)) (values_count more) (values_count domains) t.variables (λ v e. ap (λ (n : ℕ). one_of_count (limited n)) (size_same v e)) known

    type_count_same : type_count more t ≡ type_count domains t
    type_count_same =
        ap₂ (λ (a : ℕ) (ns : List ℕ). (one_of_count (length t.modes) + a + holds_count ns t) + (one_of_count (length t.modes) + a + holds_count ns t) + choice_count ns t.moves) values_same formula_sizes_same

    has_counts_same : type_has_counts more t ≡ type_has_counts domains t
    has_counts_same = ap (λ (ns : List ℕ). formulas_have_counts ns t) formula_sizes_same

    type_fits_more : (kind : ℕ) → type_fits domains kind t ≡ true → type_fits more kind t ≡ true
    type_fits_more kind h =
        let two = and_parts (names_fit (length domains) t && counts_fit t) (formulas_fit (type_ranges domains kind t) t && moves_fit (type_ranges domains kind t) t) h in
        let names = and_parts (names_fit (length domains) t) (counts_fit t) two.0 in
        let own = and_parts (name_fits t.name) (list_all (variable_fits (length domains)) t.variables && list_all name_fits t.modes) names.0 in
        let lists = and_parts (list_all (variable_fits (length domains)) t.variables) (list_all name_fits t.modes) own.1 in
        and_from (names_fit (length (domains ++ x ∷ [])) t && counts_fit t) _
        (and_from (names_fit (length (domains ++ x ∷ [])) t) (counts_fit t)
        (and_from (name_fits t.name) _ own.0 (and_from (list_all (variable_fits (length (domains ++ x ∷ []))) t.variables) _
        (all_kept (variable_fits (length domains)) (variable_fits (length (domains ++ x ∷ []))) t.variables still_known lists.0) lists.1)) names.1)
        (ap (λ (rs : List Range). formulas_fit rs t && moves_fit rs t) (type_ranges_same kind) ∙ two.1)

  types_fit_more : (kind : ℕ) (ts : List ComponentType) → types_fit domains kind ts ≡ true → list_all (knows_domains domains) ts ≡ true → types_fit more kind ts ≡ true
  types_fit_more kind [] h k = refl
  types_fit_more kind (t ∷ ts) h k =
      let two = and_parts (type_fits domains kind t) (types_fit domains (kind + 1) ts) h in
      let known = and_parts (knows_domains domains t) (list_all (knows_domains domains) ts) k in
      and_from (type_fits (domains ++ x ∷ []) kind t) (types_fit (domains ++ x ∷ []) (kind + 1) ts) (type_fits_more t known.0 kind two.0) (types_fit_more (kind + 1) ts two.1 known.1)

  same_with_domain : (types : List ComponentType) → list_all (knows_domains domains) types ≡ true → (p : Part) → SamePart domains more types types p
  same_with_domain types k p = by (slice_get types p.kind) refl
    where
      by : (o : Option ComponentType) → slice_get types p.kind ≡ o → SamePart domains (domains ++ x ∷ []) types types p
      by None e = record { ranges = rw e refl; width = refl; own_controls = refl; count = rw e refl; fit = refl }
      by (Some t) e =
          let known : knows_domains domains t ≡ true = all_at (knows_domains domains) types p.kind t k e in
          record { ranges = rw e (type_ranges_same t known p.kind); width = refl; own_controls = refl; count = rw e (type_count_same t known); fit = refl }

module _ (plant : Plant) (x : Domain) (fact : PlantFits plant) where
  known : list_all (knows_domains plant.domains) plant.types ≡ true
  known = types_know plant.domains 0 plant.types fact.each_type

  pub domain_same : (p : Part) → part_fits plant.types p ≡ true → SamePart plant.domains (plant.domains ++ x ∷ []) plant.types plant.types p
  domain_same p e = same_with_domain plant.domains x plant.types known p

  pub shares_same : map (held_type_count (plant.domains ++ x ∷ [])) plant.types ≡ map (held_type_count plant.domains) plant.types
  shares_same =
      map_same (knows_domains plant.domains) (held_type_count (plant.domains ++ x ∷ [])) (held_type_count plant.domains) plant.types
      (λ t e. ap (λ (n : ℕ). held n) (type_count_same plant.domains x t e)) known

  pub domain_added : domain_fits x ≡ true → PlantFits (moved plant (plant.domains ++ x ∷ []) plant.types)
  domain_added h =
      moved_fits plant (plant.domains ++ x ∷ []) plant.types fact domain_same (all_more domain_fits plant.domains x fact.each_domain h)
      (types_fit_more plant.domains x 0 plant.types fact.each_type known)
      (all_joined (knows_domains plant.domains) (type_has_counts plant.domains) (type_has_counts (plant.domains ++ x ∷ [])) plant.types (λ t a b. has_counts_same plant.domains x t a ∙ b) known fact.type_counts)

pub type_added : (plant : Plant) (t : ComponentType) → PlantFits plant → ((k : ℕ) → type_fits plant.domains k t ≡ true) → type_has_counts plant.domains t ≡ true
    → PlantFits (moved plant plant.domains (plant.types ++ t ∷ []))
type_added plant t fact h c =
    moved_fits plant plant.domains (plant.types ++ t ∷ []) fact (same_with_type plant.domains plant.types t) fact.each_domain (types_more plant.domains 0 plant.types t fact.each_type h)
    (all_more (type_has_counts plant.domains) plant.types t fact.type_counts c)
