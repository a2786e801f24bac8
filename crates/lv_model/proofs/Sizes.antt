-- How many sizes and moves a well-formed plant has, and how large they are.
use Rattle.std.proofs.Common.{◌≡◌, ◌+◌, ◌≤◌, ℕ, true, ◌&&◌, List, [], ◌∷◌, length, map, slice_get, Option, Some, None, refl, ◌∙◌, arith, All, nat_le, nat_lt, nat_eq, not, is_some}
use Rattle.std.proofs.lemmas.Bool.{and_parts}
use Rattle.std.specs.Option.{option_map_or}
use Rattle.std.specs.List.{list_all, flat_map}
use Rattle.std.proofs.lemmas.List.{length-map}
use Rattle.std.proofs.lemmas.List.Elements.{All-cons, All-tail, All-append}
use borrow.Author.Tests.{leb-true, eqb-true}
use Rattle.lv_base.specs.declared.limits.TheConstants.{MODES, MOVES, VALUES, LEAST_FAULT_COST, FAULT_COST}
use Rattle.lv_base.specs.declared.range.Range.{Range}
use Rattle.lv_model.specs.declared.plant.Plant.{Plant}
use Rattle.lv_model.specs.declared.plant.Domain.{Domain}
use Rattle.lv_model.specs.declared.plant.ComponentType.{ComponentType}
use Rattle.lv_model.specs.declared.plant.Variable.{Variable}
use Rattle.lv_model.specs.declared.plant.Move.{Move}
use Rattle.lv_model.specs.declared.plant.MoveKind.{MoveKind}
use Rattle.lv_model.specs.declared.plant.MoveKind.TheVariants.{Step, Stay, Fault}
use Rattle.lv_model.specs.declared.plant.Part.{Part}
use Rattle.lv_model.specs.Ranges.{variable_range, type_ranges, part_ranges, plant_ranges}
use Rattle.lv_model.specs.Lists.{sizes, variable_count, part_moves, IsFew}
use Rattle.lv_model.specs.WellFormed.{name_fits, is_within, domain_fits, names_fit, counts_fit, formulas_fit, moves_fit, type_fits, types_fit, guard_fits, kind_fits, move_fits, is_well_formed, MoveIsCheap, TypeIsSmall}
use Rattle.lv_model.proofs.Reading.{All-of_test, All-at, type_of_place, length-plant_ranges, domains_pass, types_pass}

-- there is one size for each variable
pub length-sizes : (plant : Plant) → length (sizes plant) ≡ variable_count plant
length-sizes plant = length-map (plant_ranges plant) (λ (r : Range). r.size) ∙ length-plant_ranges plant

pub record HasFew (r : Range) : Type 0 where
  pub few : r.size ≤ 64

few_sizes_of : (rs : List Range) → All HasFew rs → All IsFew (map (λ (r : Range). r.size) rs)
few_sizes_of [] h = λ k d below. absurd (omega arith)
few_sizes_of (r ∷ rs) h =
    All-cons IsFew r.size (map (λ (q : Range). q.size) rs) (record { few = (h 0 r (omega arith)).few }) (few_sizes_of rs (All-tail HasFew r rs h))

module _ (domains : List Domain) (kind : ℕ) (t : ComponentType) (fits : type_fits domains kind t ≡ true) where
  counts : (is_within 1 (length t.modes) MODES ≡ true) × (nat_le (length t.moves) MOVES ≡ true)
  counts = and_parts (is_within 1 (length t.modes) MODES) (nat_le (length t.moves) MOVES) (and_parts (names_fit (length domains) t) (counts_fit t) (and_parts (names_fit (length domains) t && counts_fit t) _ fits).0).1

  few_modes : length t.modes ≤ MODES
  few_modes = leb-true (length t.modes) MODES (and_parts (nat_le 1 (length t.modes)) (nat_le (length t.modes) MODES) counts.0).1

  few_moves : length t.moves ≤ MOVES
  few_moves = leb-true (length t.moves) MOVES counts.1

  moves_pass : list_all (move_fits (type_ranges domains kind t) (length t.modes)) t.moves ≡ true
  moves_pass =
      (and_parts (list_all (move_fits (type_ranges domains kind t) (length t.modes)) t.moves) _
      (and_parts (formulas_fit (type_ranges domains kind t) t) (moves_fit (type_ranges domains kind t) t) (and_parts (names_fit (length domains) t && counts_fit t) _ fits).1).1).0

cheap_by_kind : (kind : MoveKind) (m : Move) → kind_fits kind m ≡ true → m.cost.0 ≤ FAULT_COST
cheap_by_kind Step m fits = let e : m.cost.0 ≡ 0 = eqb-true m.cost.0 0 (and_parts (is_some m.guard) (nat_eq m.cost.0 0) fits).1 in omega arith
cheap_by_kind Stay m fits = let e : m.cost.0 ≡ 0 = eqb-true m.cost.0 0 (and_parts (nat_eq m.target.0 m.source.0) (nat_eq m.cost.0 0) (and_parts (not (is_some m.guard)) (nat_eq m.target.0 m.source.0 && nat_eq m.cost.0 0) fits).1).1 in omega arith
cheap_by_kind Fault m fits = leb-true m.cost.0 FAULT_COST (and_parts (nat_le LEAST_FAULT_COST m.cost.0) (nat_le m.cost.0 FAULT_COST) fits).1

cheap_move : (ranges : List Range) (modes : ℕ) (m : Move) → move_fits ranges modes m ≡ true → MoveIsCheap m
cheap_move ranges modes m fits =
    record { cost = cheap_by_kind m.kind m (and_parts (kind_fits m.kind m) (guard_fits ranges m) (and_parts (nat_lt m.source.0 modes && nat_lt m.target.0 modes) _ fits).1).0 }

small_type : (domains : List Domain) (kind : ℕ) (t : ComponentType) → type_fits domains kind t ≡ true → TypeIsSmall t
small_type domains kind t fits =
    record {
      moves = few_moves domains kind t fits;
      costs = All-of_test (move_fits (type_ranges domains kind t) (length t.modes)) MoveIsCheap t.moves (cheap_move (type_ranges domains kind t) (length t.modes)) (moves_pass domains kind t fits);
    }

small_types_from : (domains : List Domain) (k : ℕ) (ts : List ComponentType) → types_fit domains k ts ≡ true → All TypeIsSmall ts
small_types_from domains k [] h = λ j d below. absurd (omega arith)
small_types_from domains k (t ∷ ts) h =
    let two = and_parts (type_fits domains k t) (types_fit domains (k + 1) ts) h in
    All-cons TypeIsSmall t ts (small_type domains k t two.0) (small_types_from domains (k + 1) ts two.1)

module _ (plant : Plant) (h : is_well_formed plant ≡ true) where
  domain_passes : (d : ℕ) (x : Domain) → slice_get plant.domains d ≡ Some x → domain_fits x ≡ true
  domain_passes d x is =
      let P : Domain → Type 0 = λ y. domain_fits y ≡ true in
      All-at P plant.domains d x (All-of_test domain_fits P plant.domains (λ y e. e) (domains_pass plant h)) is

  type_passes : (k : ℕ) (t : ComponentType) → slice_get plant.types k ≡ Some t → type_fits plant.domains k t ≡ true
  type_passes k t is = type_of_place plant.domains plant.types k t (types_pass plant h) is

  few_values : (o : Option Domain) (d : ℕ) → slice_get plant.domains d ≡ o → option_map_or (λ (x : Domain). length x.values) o 0 ≤ 64
  few_values None d is = omega arith
  few_values (Some x) d is =
      let fits = and_parts (name_fits x.name) _ (domain_passes d x is) in
      let values : length x.values ≤ VALUES = leb-true (length x.values) VALUES (and_parts (nat_le 1 (length x.values)) _ (and_parts (is_within 1 (length x.values) VALUES) _ fits.1).0).1 in
      omega arith

  few_of_variables : (vs : List Variable) → All HasFew (map (variable_range plant.domains) vs)
  few_of_variables [] = λ k d below. absurd (omega arith)
  few_of_variables (v ∷ vs) =
      All-cons HasFew (variable_range plant.domains v) (map (variable_range plant.domains) vs)
      (record { few = few_values (slice_get plant.domains v.domain) v.domain refl }) (few_of_variables vs)

  few_of_type : (o : Option ComponentType) (k : ℕ) → slice_get plant.types k ≡ o → All HasFew (option_map_or (type_ranges plant.domains k) o [])
  few_of_type None k is = λ j d below. absurd (omega arith)
  few_of_type (Some t) k is =
      let modes : length t.modes ≤ MODES = few_modes plant.domains k t (type_passes k t is) in
      All-cons HasFew _ (map (variable_range plant.domains) t.variables)
      (record { few = omega arith }) (few_of_variables t.variables)

  few_of_parts : (ps : List Part) → All HasFew (flat_map (part_ranges plant.domains plant.types) ps)
  few_of_parts [] = λ k d below. absurd (omega arith)
  few_of_parts (p ∷ ps) =
      All-append HasFew (part_ranges plant.domains plant.types p) (flat_map (part_ranges plant.domains plant.types) ps)
      (few_of_type (slice_get plant.types p.kind) p.kind refl) (few_of_parts ps)

  -- no variable of a well-formed plant has more values than this
  pub few-sizes : All IsFew (sizes plant)
  few-sizes = few_sizes_of (plant_ranges plant) (few_of_parts plant.parts)

  few_moves_of_type : (o : Option ComponentType) (k : ℕ) → slice_get plant.types k ≡ o → option_map_or (λ (t : ComponentType). length t.moves) o 0 ≤ MOVES
  few_moves_of_type None k is = omega arith
  few_moves_of_type (Some t) k is = few_moves plant.domains k t (type_passes k t is)

  few_moves_of_parts : (ps : List Part) → All IsFew (map (part_moves plant.types) ps)
  few_moves_of_parts [] = λ k d below. absurd (omega arith)
  few_moves_of_parts (p ∷ ps) =
      All-cons IsFew (part_moves plant.types p) (map (part_moves plant.types) ps)
      (record { few = few_moves_of_type (slice_get plant.types p.kind) p.kind refl }) (few_moves_of_parts ps)

  -- no part of a well-formed plant has more moves
  pub few-move_counts : All IsFew (map (part_moves plant.types) plant.parts)
  few-move_counts = few_moves_of_parts plant.parts

  -- nor does a type of it
  pub few-moves_of_type : (k : ℕ) (t : ComponentType) → slice_get plant.types k ≡ Some t → length t.moves ≤ MOVES
  few-moves_of_type k t is = few_moves plant.domains k t (type_passes k t is)

  -- the types of a well-formed plant have few moves, which cost little
  pub small-types : All TypeIsSmall plant.types
  small-types = small_types_from plant.domains 0 plant.types (types_pass plant h)
