-- The formulas of a well-formed plant speak of values that have booleans.
use Rattle.std.proofs.Common.{◌≡◌, ◌+◌, ℕ, true, nat_lt, nat_le, ◌&&◌, List, length, slice_get, Option, Some, None, refl, ap, sym, ◌∙◌, arith, All, get_or}
use Rattle.std.specs.Option.{option_map_or}
use Rattle.std.specs.List.{list_all}
use Rattle.std.proofs.lemmas.Bool.{and_parts}
use Rattle.std.proofs.lemmas.Option.{slice_get-get_or}
use Rattle.lv_base.specs.declared.range.Range.{Range}
use Rattle.lv_base.specs.Tree.{Tree, always, never, is, same, negation, all, any, implies, iff, Trees, none, more}
use Rattle.lv_base.specs.Fits.{fits, each_fits}
use Rattle.lv_model.specs.declared.plant.Plant.{Plant}
use Rattle.lv_model.specs.declared.plant.ComponentType.{ComponentType}
use Rattle.lv_model.specs.declared.plant.ModeFormula.{ModeFormula}
use Rattle.lv_model.specs.declared.plant.Move.{Move}
use Rattle.lv_model.specs.declared.plant.Part.{Part}
use Rattle.lv_model.specs.Ranges.{type_ranges, plant_ranges}
use Rattle.lv_model.specs.Lists.{sizes}
use Rattle.lv_model.specs.WellFormed.{names_fit, counts_fit, formulas_fit, moves_fit, mode_formula_fits, kind_fits, guard_fits, move_fits, is_well_formed}
use Rattle.lv_model.proofs.Reading.{All-of_test, type_of_place, types_pass, follow_pass, laws_pass}
use Rattle.lv_compile.specs.Booleans.{Booleans}
use Rattle.lv_compile.specs.FormulaClauses.{size_of, are_comparable, speaks_of, each_speaks_of}
use Rattle.lv_compile.specs.Laws.{HaveBooleans}
use Rattle.lv_compile.specs.Speaking.{Speaks, ModeFormulaSpeaks, GuardSpeaks, MoveSpeaks, PartHolds, PartSpeaks}
use Rattle.lv_compile.proofs.FormulaLemmas.{Within, within_of, Alike, alike_of}
use Rattle.lv_compile.proofs.RangeLemmas.{have_system, have_part}

module _ (ranges : List Range) (b : Booleans) (base : ℕ) (have : HaveBooleans ranges b base) where
  is_speaks : (x v : ℕ) → fits ranges (is x v) ≡ true → speaks_of b base (is x v) ≡ true
  is_speaks x v h =
      let found : Within ranges x v = within_of ranges x v (slice_get ranges x) refl h in
      let size = have.size x found.range found.at in
      let below = found.below in
      grind (arith, size, below)

  same_speaks : (x y : ℕ) → fits ranges (same x y) ≡ true → are_comparable b (base + x) (base + y) ≡ true
  same_speaks x y h =
      let found : Alike ranges x y = alike_of ranges x y (slice_get ranges x) (slice_get ranges y) refl refl h in
      let left : nat_lt (base + x) (length b.sizes) ≡ true = let i = have.within x found.left found.at_left in grind (arith, i) in
      let right : nat_lt (base + y) (length b.sizes) ≡ true = let i = have.within y found.right found.at_right in grind (arith, i) in
      let x_size = have.size x found.left found.at_left in
      let y_size = have.size y found.right found.at_right in
      let equal = have.alike x y found.left found.right found.at_left found.at_right found.sorts in
      let few : nat_le (size_of b (base + x)) (size_of b (base + y)) ≡ true = grind (arith, x_size, y_size, equal) in
      rw (left, right, few) refl

  mutual
    pub speaks : (f : Tree) → fits ranges f ≡ true → speaks_of b base f ≡ true
    speaks always h = refl
    speaks never h = refl
    speaks (is x v) h = is_speaks x v h
    speaks (same x y) h = same_speaks x y h
    speaks (negation f) h = speaks f h
    speaks (all fs) h = each_speaks fs h
    speaks (any fs) h = each_speaks fs h
    speaks (implies f g) h = let two = and_parts (fits ranges f) (fits ranges g) h in rw (speaks f two.0, speaks g two.1) refl
    speaks (iff f g) h = let two = and_parts (fits ranges f) (fits ranges g) h in rw (speaks f two.0, speaks g two.1) refl

    each_speaks : (fs : Trees) → each_fits ranges fs ≡ true → each_speaks_of b base fs ≡ true
    each_speaks none h = refl
    each_speaks (more f fs) h = let two = and_parts (fits ranges f) (each_fits ranges fs) h in rw (speaks f two.0, each_speaks fs two.1) refl

  guard_of_test : (o : Option Tree) → option_map_or (fits ranges) o true ≡ true → option_map_or (speaks_of b base) o true ≡ true
  guard_of_test None h = refl
  guard_of_test (Some f) h = speaks f h

  pub laws_speak : (fs : List Tree) → list_all (fits ranges) fs ≡ true → All (Speaks b base) fs
  laws_speak fs h = All-of_test (fits ranges) (Speaks b base) fs (λ f e. record { of = speaks f e }) h

  module _ (modes : ℕ) (all_modes : size_of b base ≡ modes) where
    pub formulas_speak : (fs : List ModeFormula) → list_all (mode_formula_fits ranges modes) fs ≡ true → All (ModeFormulaSpeaks b base) fs
    formulas_speak fs h =
        All-of_test (mode_formula_fits ranges modes) (ModeFormulaSpeaks b base) fs
        (λ f e.
        let two = and_parts (nat_lt f.mode.0 modes) (fits ranges f.condition) e in
        let mode = two.0 in
        record { condition = speaks f.condition two.1; mode = grind (arith, mode, all_modes) }) h

    pub guards_speak : (ms : List Move) → list_all (move_fits ranges modes) ms ≡ true → All (GuardSpeaks b base) ms
    guards_speak ms h =
        All-of_test (move_fits ranges modes) (GuardSpeaks b base) ms
        (λ m e. record { guard = guard_of_test m.guard (and_parts (kind_fits m.kind m) (guard_fits ranges m) (and_parts (nat_lt m.source.0 modes && nat_lt m.target.0 modes) _ e).1).1 }) h

    pub ends_speak : (c : Booleans) → size_of c base ≡ modes → (ms : List Move) → list_all (move_fits ranges modes) ms ≡ true → All (MoveSpeaks b c base) ms
    ends_speak c also ms h =
        All-of_test (move_fits ranges modes) (MoveSpeaks b c base) ms
        (λ m e.
        let two = and_parts (nat_lt m.source.0 modes) (nat_lt m.target.0 modes) (and_parts (nat_lt m.source.0 modes && nat_lt m.target.0 modes) _ e).0 in
        let source = two.0 in
        let target = two.1 in
        record { source = grind (arith, source, all_modes); target = grind (arith, target, also) }) h

module _ (plant : Plant) (h : is_well_formed plant ≡ true) (b : Booleans) (copy : b.sizes ≡ sizes plant) where
  pub system_speaks : All (Speaks b 0) plant.laws
  system_speaks = laws_speak (plant_ranges plant) b 0 (have_system plant b copy) plant.laws (laws_pass plant h)

  have : (n : ℕ) (p : Part) (t : ComponentType) → slice_get plant.parts n ≡ Some p → slice_get plant.types p.kind ≡ Some t → HaveBooleans (type_ranges plant.domains p.kind t) b p.first.0
  have n p t here kind = have_part plant b copy (follow_pass plant h) n p t here kind

  -- a part's first variable has as many values as its type has modes
  pub modes_of : (n : ℕ) (p : Part) (t : ComponentType) → slice_get plant.parts n ≡ Some p → slice_get plant.types p.kind ≡ Some t → size_of b p.first.0 ≡ length t.modes
  modes_of n p t here kind = let e : p.first.0 + 0 ≡ p.first.0 = omega arith in ap (size_of b) (sym e) ∙ (have n p t here kind).size 0 _ refl

  module _ (p : Part) (t : ComponentType) (kind : slice_get plant.types p.kind ≡ Some t) where
    abbrev ranges : List Range
    ranges = type_ranges plant.domains p.kind t

    own : (formulas_fit ranges t ≡ true) × (moves_fit ranges t ≡ true)
    own = and_parts (formulas_fit ranges t) (moves_fit ranges t) (and_parts (names_fit (length plant.domains) t && counts_fit t) _ (type_of_place plant.domains plant.types p.kind t (types_pass plant h) kind)).1

    pub formulas : (list_all (fits ranges) t.laws ≡ true) × (list_all (mode_formula_fits ranges (length t.modes)) t.formulas ≡ true)
    formulas = and_parts (list_all (fits ranges) t.laws) (list_all (mode_formula_fits ranges (length t.modes)) t.formulas) own.0

    pub moves : list_all (move_fits ranges (length t.modes)) t.moves ≡ true
    moves = (and_parts (list_all (move_fits ranges (length t.modes)) t.moves) _ own.1).0

  pub parts_hold : All (PartHolds b plant.types) plant.parts
  parts_hold = λ k d below.
      let p : Part = get_or plant.parts k d in
      let here : slice_get plant.parts k ≡ Some p = slice_get-get_or plant.parts k d below in
      record {
        kind = λ t kind.
            record {
              laws = laws_speak (ranges p t kind) b p.first.0 (have k p t here kind) t.laws (formulas p t kind).0;
              formulas = formulas_speak (ranges p t kind) b p.first.0 (have k p t here kind) (length t.modes) (modes_of k p t here kind) t.formulas (formulas p t kind).1;
            };
      }

  pub parts_speak : (c : Booleans) → c.sizes ≡ sizes plant → All (PartSpeaks b c plant.types) plant.parts
  parts_speak c also = λ k d below.
      let p : Part = get_or plant.parts k d in
      let here : slice_get plant.parts k ≡ Some p = slice_get-get_or plant.parts k d below in
      record {
        kind = λ t kind.
            let all_modes = modes_of k p t here kind in
            let after = ap (λ (s : List ℕ). size_of (record { sizes = s; first = 0 }) p.first.0) (also ∙ sym copy) ∙ all_modes in
            record {
              guards = guards_speak (ranges p t kind) b p.first.0 (have k p t here kind) (length t.modes) all_modes t.moves (moves p t kind);
              ends = ends_speak (ranges p t kind) b p.first.0 (have k p t here kind) (length t.modes) all_modes c after t.moves (moves p t kind);
            };
      }
