-- Each variable of a well-formed plant has a value.
use Rattle.std.proofs.Common.{◌≡◌, ◌+◌, ◌<◌, ◌≤◌, ℕ, zero, suc, Bool, true, false, nat_eq, nat_lt, nat_le, ◌&&◌, List, [], ◌∷◌, ◌++◌, length, map, slice_get, slice_index_or, Option, Some, None, refl, sym, ap, subst, ◌∙◌, arith}
use Rattle.std.specs.List.{list_all, flat_map}
use Rattle.std.specs.Option.{option_map_or}
use Rattle.std.proofs.lemmas.Bool.{and_from, and_parts, lt-ltb}
use Rattle.std.proofs.lemmas.List.Folds.{list_all-append}
use Rattle.lv_base.specs.declared.limits.TheConstants.{MODES, MOVES, VALUES}
use Rattle.lv_base.specs.declared.range.Range.{Range}
use Rattle.lv_model.specs.declared.plant.Plant.{Plant}
use Rattle.lv_model.specs.declared.plant.Domain.{Domain}
use Rattle.lv_model.specs.declared.plant.ComponentType.{ComponentType}
use Rattle.lv_model.specs.declared.plant.Part.{Part}
use Rattle.lv_model.specs.declared.plant.Variable.{Variable}
use Rattle.lv_model.specs.Lists.{sizes, variable_count}
use Rattle.lv_model.specs.Ranges.{domain_size, variable_range, type_ranges, part_ranges, plant_ranges}
use Rattle.lv_model.specs.WellFormed.{name_fits, domain_fits, variable_fits, names_fit, counts_fit, formulas_fit, moves_fit, type_fits, types_fit, is_within, is_well_formed}
use Rattle.lv_model.proofs.Reading.{type_of_place, domains_pass, types_pass, length-plant_ranges}

abbrev is_positive : Range → Bool
is_positive r = nat_lt 0 r.size

within_some : (n high : ℕ) → is_within 1 n high ≡ true → 0 < n
within_some n high h = let one = (and_parts (nat_le 1 n) (nat_le n high) h).0 in grind (arith, one)

domain_some : (ds : List Domain) (n : ℕ) → list_all domain_fits ds ≡ true → n < length ds → 0 < domain_size ds n
domain_some [] n all less = absurd (omega (arith, less))
domain_some (d ∷ ds) zero all less =
    let fit = (and_parts (domain_fits d) (list_all domain_fits ds) all).0 in
    let values = (and_parts (name_fits d.name) (is_within 1 (length d.values) VALUES && list_all name_fits d.values) fit).1 in
    within_some (length d.values) VALUES (and_parts (is_within 1 (length d.values) VALUES) (list_all name_fits d.values) values).0
domain_some (d ∷ ds) (suc n) all less = domain_some ds n (and_parts (domain_fits d) (list_all domain_fits ds) all).1 (omega (arith, less))

module _ (domains : List Domain) (fit : list_all domain_fits domains ≡ true) where
  variable_some : (v : Variable) → variable_fits (length domains) v ≡ true → 0 < domain_size domains v.domain
  variable_some v h =
      let less = (and_parts (name_fits v.name) (nat_lt v.domain (length domains)) h).1 in
      domain_some domains v.domain fit (grind (arith, less))

  variables_some : (vs : List Variable) → list_all (variable_fits (length domains)) vs ≡ true → list_all is_positive (map (variable_range domains) vs) ≡ true
  variables_some [] h = refl
  variables_some (v ∷ vs) h =
      let two = and_parts (variable_fits (length domains) v) (list_all (variable_fits (length domains)) vs) h in
      and_from (nat_lt 0 (domain_size domains v.domain)) (list_all is_positive (map (variable_range domains) vs)) (lt-ltb 0 (domain_size domains v.domain) (variable_some v two.0)) (variables_some vs two.1)

  type_some : (k : ℕ) (t : ComponentType) → type_fits domains k t ≡ true → list_all is_positive (type_ranges domains k t) ≡ true
  type_some k t h =
      let first = (and_parts (names_fit (length domains) t && counts_fit t) (formulas_fit (type_ranges domains k t) t && moves_fit (type_ranges domains k t) t) h).0 in
      let two = and_parts (names_fit (length domains) t) (counts_fit t) first in
      let modes = within_some (length t.modes) MODES (and_parts (is_within 1 (length t.modes) MODES) (nat_le (length t.moves) MOVES) two.1).0 in
      let rest = (and_parts (name_fits t.name) (list_all (variable_fits (length domains)) t.variables && list_all name_fits t.modes) two.0).1 in
      let variables = (and_parts (list_all (variable_fits (length domains)) t.variables) (list_all name_fits t.modes) rest).0 in
      and_from (nat_lt 0 (length t.modes)) (list_all is_positive (map (variable_range domains) t.variables)) (lt-ltb 0 (length t.modes) modes) (variables_some t.variables variables)

  part_some : (types : List ComponentType) → types_fit domains 0 types ≡ true → (k : ℕ) (o : Option ComponentType) → slice_get types k ≡ o
      → list_all is_positive (option_map_or (type_ranges domains k) o []) ≡ true
  part_some types all k None here = refl
  part_some types all k (Some t) here = type_some k t (type_of_place domains types k t all here)

  parts_some : (types : List ComponentType) → types_fit domains 0 types ≡ true → (ps : List Part) → list_all is_positive (flat_map (part_ranges domains types) ps) ≡ true
  parts_some types all [] = refl
  parts_some types all (p ∷ ps) =
      list_all-append is_positive (part_ranges domains types p) (flat_map (part_ranges domains types) ps)
      ∙ and_from (list_all is_positive (part_ranges domains types p)) (list_all is_positive (flat_map (part_ranges domains types) ps))
      (part_some types all p.kind (slice_get types p.kind) refl) (parts_some types all ps)

some_at : (rs : List Range) (x : ℕ) → list_all is_positive rs ≡ true → x < length rs → 0 < slice_index_or (map (λ (r : Range). r.size) rs) x 0
some_at [] x all less = absurd (omega (arith, less))
some_at (r ∷ rs) zero all less = let one = (and_parts (nat_lt 0 r.size) (list_all is_positive rs) all).0 in grind (arith, one)
some_at (r ∷ rs) (suc x) all less = some_at rs x (and_parts (nat_lt 0 r.size) (list_all is_positive rs) all).1 (omega (arith, less))

pub variable_has_value : (plant : Plant) → is_well_formed plant ≡ true → (x : ℕ) → x < variable_count plant → 0 < slice_index_or (sizes plant) x 0
variable_has_value plant h x less =
    let count = length-plant_ranges plant in
    some_at (plant_ranges plant) x (parts_some plant.domains (domains_pass plant h) plant.types (types_pass plant h) plant.parts) (omega (arith, less, count))
