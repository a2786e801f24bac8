-- A type that has not ended fits its place, and still does with one more line.
use Rattle.std.proofs.Common.{◌≡◌, ◌+◌, ◌<◌, ◌≤◌, ℕ, zero, suc, Bool, true, false, not, ◌&&◌, ◌||◌, nat_eq, nat_lt, nat_le, List, [], ◌∷◌, ◌++◌, length, map, count_by, slice_get, cond, Option, Some, None, refl, sym, ap, ap₂, subst, ◌∙◌, arith}
use Rattle.std.specs.List.{list_all}
use Rattle.std.specs.Option.{option_map_or}
use Rattle.std.proofs.lemmas.Bool.{and_parts, and_from, and_left, lt-ltb, le-leb, eq-eqb, ltb-true, not-true}
use Rattle.std.proofs.lemmas.List.{length-map, map_push, length_push}
use Rattle.lv_base.specs.declared.limits.TheConstants.{MODES, MOVES}
use Rattle.lv_base.specs.Tree.{Tree, Trees, always, never, is, same, negation, all, any, implies, iff, none, more}
use Rattle.lv_base.specs.declared.range.Range.{Range}
use Rattle.lv_base.specs.declared.range.Sort.TheVariants.{Modes}
use Rattle.lv_base.specs.Fits.{is_same_sort, has_value, are_alike, fits, each_fits}
use Rattle.lv_base.specs.FitLaws.{AllWiden}
use Rattle.lv_base.proofs.WidenLemmas.{fits_wider, further, all_themselves}
use Rattle.lv_model.specs.declared.plant.Domain.{Domain}
use Rattle.lv_model.specs.declared.plant.ComponentType.{ComponentType}
use Rattle.lv_model.specs.declared.plant.ModeFormula.{ModeFormula}
use Rattle.lv_model.specs.declared.plant.Move.{Move}
use Rattle.lv_model.specs.declared.plant.Variable.{Variable}
use Rattle.lv_model.specs.Meaning.{is_step_kind}
use Rattle.lv_model.specs.Ranges.{variable_range, type_ranges}
use Rattle.lv_model.specs.Counts.{has_count, variable_size, formula_sizes, mode_formula_has_count, guard_has_counts, type_has_counts, formulas_have_counts}
use Rattle.lv_model.specs.WellFormed.{name_fits, variable_fits, mode_formula_fits, kind_fits, guard_fits, move_fits, moves_rise, is_stay, is_stay_of, stays_once, names_fit, counts_fit, formulas_fit, moves_fit, type_fits, is_within}
use Rattle.lv_model_entries.specs.declared.draft.TypeDraft.{TypeDraft}
use Rattle.lv_model_entries.specs.declared.draft.Entry.{Entry}
use Rattle.lv_model_entries.specs.declared.draft.Entry.TheVariants.{Named, NewDomain, TypeBegins, NewVariable, NewMode, TypeLaw, ModeLaws, NewMove, NewMoves, TypeEnds, NewPart, SystemLaw, NewPrice}
use Rattle.lv_checker.specs.Drafts.{begun, stay_in, with_move_in_place, with_variable, with_mode, with_type_law, with_mode_laws, with_moves, type_with}
use Rattle.lv_checker.proofs.FitsLists.{all_more, all_behind, all_kept, all_joined}
use Rattle.lv_checker.proofs.FitsCounts.{has_kept}
use Rattle.lv_checker.proofs.FitsMoves.{put, put_is, put_length, put_all, put_rises, from_first, put_count, none_of, once_same, once_more}

-- its formulas fit where its own mode is the only one there is
abbrev pub own_ranges : List Domain → TypeDraft → List Range
own_ranges domains t = type_ranges domains 0 t.lists

pub record TypeFits (domains : List Domain) (t : TypeDraft) : Type 0 where
  pub name : name_fits t.lists.name ≡ true
  pub variables : list_all (variable_fits (length domains)) t.lists.variables ≡ true
  pub modes : list_all name_fits t.lists.modes ≡ true
  pub few_modes : length t.lists.modes ≤ MODES
  pub few_moves : length t.lists.moves ≤ MOVES
  pub laws : list_all (fits (own_ranges domains t)) t.lists.laws ≡ true
  pub mode_laws : list_all (mode_formula_fits (own_ranges domains t) (length t.lists.modes)) t.lists.formulas ≡ true
  pub moves : list_all (move_fits (own_ranges domains t) (length t.lists.modes)) t.lists.moves ≡ true
  pub rise : moves_rise 0 0 t.lists.moves ≡ true
  pub once : stays_once 0 t.lists.modes t.lists.moves ≡ true
  pub sizes : t.sizes ≡ formula_sizes domains t.lists.variables
  pub law_counts : list_all (has_count t.sizes true) t.lists.laws ≡ true
  pub mode_law_counts : list_all (mode_formula_has_count t.sizes) t.lists.formulas ≡ true
  pub guard_counts : list_all (guard_has_counts t.sizes) t.lists.moves ≡ true

pub record ModeFits (t : TypeDraft) (name : List ℕ) (n : ℕ) : Type 0 where
  pub name_is : name_fits name ≡ true
  pub number : n ≡ length t.lists.modes
  pub few_modes : length t.lists.modes < MODES
  pub few_moves : length t.lists.moves < MOVES

pub record LawFits (ranges : List Range) (sizes : List ℕ) (f : Tree) : Type 0 where
  pub fit : fits ranges f ≡ true
  pub counts : has_count sizes true f ≡ true

pub record ModeLawsFit (ranges : List Range) (t : TypeDraft) (fs : List ModeFormula) : Type 0 where
  pub fit : list_all (mode_formula_fits ranges (length t.lists.modes)) fs ≡ true
  pub counts : list_all (mode_formula_has_count t.sizes) fs ≡ true

pub record MoveFits (ranges : List Range) (t : TypeDraft) (m : Move) : Type 0 where
  pub fit : move_fits ranges (length t.lists.modes) m ≡ true
  pub counts : guard_has_counts t.sizes m ≡ true
  pub no_stay : is_stay m.kind ≡ false
  pub few_moves : length t.lists.moves < MOVES

abbrev pub is_no_stay : Move → Bool
is_no_stay m = not (is_stay m.kind)

pub record MovesFit (ranges : List Range) (t : TypeDraft) (ms : List Move) : Type 0 where
  pub fit : list_all (move_fits ranges (length t.lists.modes)) ms ≡ true
  pub counts : list_all (guard_has_counts t.sizes) ms ≡ true
  pub no_stay : list_all is_no_stay ms ≡ true
  pub few_moves : length t.lists.moves + length ms ≤ MOVES

-- a type with one move more
abbrev with_move : TypeDraft → Move → TypeDraft
with_move t m = record t { lists = record (t.lists) { moves = with_move_in_place m t.lists.moves } }

-- what is known of an entry that is added to a type
abbrev pub FitsInside : List Domain → TypeDraft → Entry → Type 0
FitsInside domains t (NewVariable v) = variable_fits (length domains) v ≡ true
FitsInside domains t (NewMode name n) = ModeFits t name n
FitsInside domains t (TypeLaw f) = LawFits (own_ranges domains t) t.sizes f
FitsInside domains t (ModeLaws fs) = ModeLawsFit (own_ranges domains t) t fs
FitsInside domains t (NewMove line m) = MovesFit (own_ranges domains t) t (m ∷ [])
FitsInside domains t (NewMoves line ms) = MovesFit (own_ranges domains t) t ms
FitsInside domains t TypeEnds = 1 ≤ length t.lists.modes
FitsInside domains t entry = Unit {0}

pub begun_fits : (domains : List Domain) (name : List ℕ) → name_fits name ≡ true → TypeFits domains (begun name)
begun_fits domains name h =
    record {
      name = h;
      variables = refl;
      modes = refl;
      few_modes = omega arith;
      few_moves = omega arith;
      laws = refl;
      mode_laws = refl;
      moves = refl;
      rise = refl;
      once = refl;
      sizes = refl;
      law_counts = refl;
      mode_law_counts = refl;
      guard_counts = refl;
    }

module _ (old new : List Range) (wide : AllWiden old new) (fewer modes : ℕ) (few : fewer ≤ modes) where
  below_kept : (n : ℕ) → nat_lt n fewer ≡ true → nat_lt n modes ≡ true
  below_kept n h = let less : n < fewer = ltb-true n fewer h in lt-ltb n modes (omega (arith, few, less))

  mode_law_kept : (f : ModeFormula) → mode_formula_fits old fewer f ≡ true → mode_formula_fits new modes f ≡ true
  mode_law_kept f h =
      let two = and_parts (nat_lt f.mode.0 fewer) (fits old f.condition) h in
      and_from (nat_lt f.mode.0 modes) (fits new f.condition) (below_kept f.mode.0 two.0) (fits_wider old new wide f.condition two.1)

  guard_kept : (o : Option Tree) → option_map_or (fits old) o true ≡ true → option_map_or (fits new) o true ≡ true
  guard_kept None h = refl
  guard_kept (Some f) h = fits_wider old new wide f h

  move_kept : (m : Move) → move_fits old fewer m ≡ true → move_fits new modes m ≡ true
  move_kept m h =
      let two = and_parts (nat_lt m.source.0 fewer && nat_lt m.target.0 fewer) (kind_fits m.kind m && guard_fits old m) h in
      let ends = and_parts (nat_lt m.source.0 fewer) (nat_lt m.target.0 fewer) two.0 in
      let rest = and_parts (kind_fits m.kind m) (guard_fits old m) two.1 in
      and_from (nat_lt m.source.0 modes && nat_lt m.target.0 modes) (kind_fits m.kind m && guard_fits new m)
      (and_from (nat_lt m.source.0 modes) (nat_lt m.target.0 modes) (below_kept m.source.0 ends.0) (below_kept m.target.0 ends.1))
      (and_from (kind_fits m.kind m) (guard_fits new m) rest.0 (guard_kept m.guard rest.1))

-- counts where a variable stands behind
module _ (ranges : List Range) (sizes behind : List ℕ) (few : length ranges ≤ length sizes) where
  pub laws_counted : (fs : List Tree) → list_all (fits ranges) fs ≡ true → list_all (has_count sizes true) fs ≡ true → list_all (has_count (sizes ++ behind) true) fs ≡ true
  laws_counted fs h k = all_joined (fits ranges) (has_count sizes true) (has_count (sizes ++ behind) true) fs (λ f a b. has_kept ranges sizes behind few true f a ∙ b) h k

  mode_laws_counted : (modes : ℕ) (fs : List ModeFormula) → list_all (mode_formula_fits ranges modes) fs ≡ true → list_all (mode_formula_has_count sizes) fs ≡ true
      → list_all (mode_formula_has_count (sizes ++ behind)) fs ≡ true
  mode_laws_counted modes fs h k =
      all_joined (mode_formula_fits ranges modes) (mode_formula_has_count sizes) (mode_formula_has_count (sizes ++ behind)) fs
      (λ f a b. has_kept ranges sizes behind few true f.condition (and_parts (nat_lt f.mode.0 modes) (fits ranges f.condition) a).1 ∙ b) h k

  guard_counted : (step : Bool) (o : Option Tree) → option_map_or (fits ranges) o true ≡ true → option_map_or (λ (g : Tree). has_count sizes true g && (not step || has_count sizes false g)) o true ≡ true
      → option_map_or (λ (g : Tree). has_count (sizes ++ behind) true g && (not step || has_count (sizes ++ behind) false g)) o true ≡ true
  guard_counted step None h k = refl
  guard_counted step (Some g) h k =
      ap₂ (λ (a b : Bool). a && (not step || b)) (has_kept ranges sizes behind few true g h) (has_kept ranges sizes behind few false g h) ∙ k

  guards_counted : (modes : ℕ) (ms : List Move) → list_all (move_fits ranges modes) ms ≡ true → list_all (guard_has_counts sizes) ms ≡ true → list_all (guard_has_counts (sizes ++ behind)) ms ≡ true
  guards_counted modes ms h k =
      all_joined (move_fits ranges modes) (guard_has_counts sizes) (guard_has_counts (sizes ++ behind)) ms
      (λ m a b. guard_counted (is_step_kind m.kind) m.guard
      (and_parts (kind_fits m.kind m) (guard_fits ranges m) (and_parts (nat_lt m.source.0 modes && nat_lt m.target.0 modes) (kind_fits m.kind m && guard_fits ranges m) a).1).1 b) h k

module _ (domains : List Domain) (t : TypeDraft) (fact : TypeFits domains t) where
  variable_kept : (v : Variable) → variable_fits (length domains) v ≡ true → TypeFits domains (with_variable domains t v)
  variable_kept v h =
      record {
        name = fact.name;
        variables = all_more (variable_fits (length domains)) t.lists.variables v fact.variables h;
        modes = fact.modes;
        few_modes = fact.few_modes;
        few_moves = fact.few_moves;
        laws = all_kept (fits old) (fits new) t.lists.laws (λ f. fits_wider old new wide f) fact.laws;
        mode_laws = all_kept (mode_formula_fits old modes) (mode_formula_fits new modes) t.lists.formulas (mode_law_kept old new wide modes modes few) fact.mode_laws;
        moves = all_kept (move_fits old modes) (move_fits new modes) t.lists.moves (move_kept old new wide modes modes few) fact.moves;
        rise = fact.rise;
        once = fact.once;
        sizes = ap (λ (ns : List ℕ). ns ++ variable_size domains v ∷ []) fact.sizes ∙ ap (λ (ns : List ℕ). MODES ∷ ns) (sym (map_push (variable_size domains) t.lists.variables v));
        law_counts = laws_counted old t.sizes (variable_size domains v ∷ []) inside t.lists.laws fact.laws fact.law_counts;
        mode_law_counts = mode_laws_counted old t.sizes (variable_size domains v ∷ []) inside modes t.lists.formulas fact.mode_laws fact.mode_law_counts;
        guard_counts = guards_counted old t.sizes (variable_size domains v ∷ []) inside modes t.lists.moves fact.moves fact.guard_counts;
      }
    where
      modes : ℕ
      modes = length t.lists.modes

      few : modes ≤ modes
      few = omega arith

      old : List Range
      old = own_ranges domains t

      new : List Range
      new = own_ranges domains (with_variable domains t v)

      wide : AllWiden old new
      wide =
          subst (λ (rs : List Range). AllWiden (own_ranges domains t) (record { sort = Modes 0; size = length t.lists.modes } ∷ rs)) (sym (map_push (variable_range domains) t.lists.variables v))
          (further (own_ranges domains t) (variable_range domains v ∷ []))

      inside : length old ≤ length t.sizes
      inside =
          let a = length-map t.lists.variables (variable_range domains) in
          let b = length-map t.lists.variables (variable_size domains) in
          let c : length t.sizes ≡ suc (length (map (variable_size domains) t.lists.variables)) = ap (λ (ns : List ℕ). length ns) fact.sizes in
          omega (arith, a, b, c)

  law_added : (f : Tree) → LawFits (own_ranges domains t) t.sizes f → TypeFits domains (with_type_law t f)
  law_added f h =
      record {
        name = fact.name;
        variables = fact.variables;
        modes = fact.modes;
        few_modes = fact.few_modes;
        few_moves = fact.few_moves;
        laws = all_more (fits (own_ranges domains t)) t.lists.laws f fact.laws h.fit;
        mode_laws = fact.mode_laws;
        moves = fact.moves;
        rise = fact.rise;
        once = fact.once;
        sizes = fact.sizes;
        law_counts = all_more (has_count t.sizes true) t.lists.laws f fact.law_counts h.counts;
        mode_law_counts = fact.mode_law_counts;
        guard_counts = fact.guard_counts;
      }

  mode_laws_added : (fs : List ModeFormula) → ModeLawsFit (own_ranges domains t) t fs → TypeFits domains (with_mode_laws t fs)
  mode_laws_added fs h =
      record {
        name = fact.name;
        variables = fact.variables;
        modes = fact.modes;
        few_modes = fact.few_modes;
        few_moves = fact.few_moves;
        laws = fact.laws;
        mode_laws = all_behind (mode_formula_fits (own_ranges domains t) (length t.lists.modes)) t.lists.formulas fs fact.mode_laws h.fit;
        moves = fact.moves;
        rise = fact.rise;
        once = fact.once;
        sizes = fact.sizes;
        law_counts = fact.law_counts;
        mode_law_counts = all_behind (mode_formula_has_count t.sizes) t.lists.formulas fs fact.mode_law_counts h.counts;
        guard_counts = fact.guard_counts;
      }

  move_added : (m : Move) → MoveFits (own_ranges domains t) t m → TypeFits domains (with_move t m)
  move_added m h =
      record {
        name = fact.name;
        variables = fact.variables;
        modes = fact.modes;
        few_modes = fact.few_modes;
        few_moves = subst (λ (ms : List Move). length ms ≤ MOVES) (sym (put_is m t.lists.moves)) few;
        laws = fact.laws;
        mode_laws = fact.mode_laws;
        moves = placed (λ (ms : List Move). list_all (move_fits (own_ranges domains t) (length t.lists.modes)) ms) (put_all (move_fits (own_ranges domains t) (length t.lists.modes)) m t.lists.moves fact.moves h.fit);
        rise = placed (λ (ms : List Move). moves_rise 0 0 ms) (put_rises m 0 0 t.lists.moves fact.rise (from_first m));
        once = once_same 0 t.lists.modes (with_move_in_place m t.lists.moves) t.lists.moves unchanged fact.once;
        sizes = fact.sizes;
        law_counts = fact.law_counts;
        mode_law_counts = fact.mode_law_counts;
        guard_counts = placed (λ (ms : List Move). list_all (guard_has_counts t.sizes) ms) (put_all (guard_has_counts t.sizes) m t.lists.moves fact.guard_counts h.counts);
      }
    where
      placed : (p : List Move → Bool) → p (put m t.lists.moves) ≡ true → p (with_move_in_place m t.lists.moves) ≡ true
      placed p e = ap p (put_is m t.lists.moves) ∙ e

      few : length (put m t.lists.moves) ≤ MOVES
      few = let e = put_length m t.lists.moves in let less = h.few_moves in omega (arith, e, less)

      unchanged : (k : ℕ) → k < 0 + length t.lists.modes → count_by (is_stay_of k) (with_move_in_place m t.lists.moves) ≡ count_by (is_stay_of k) t.lists.moves
      unchanged k less =
          let other : is_stay_of k m ≡ false = and_left (is_stay m.kind) (nat_eq m.source.0 k) h.no_stay in
          let e : count_by (is_stay_of k) t.lists.moves + 0 ≡ count_by (is_stay_of k) t.lists.moves = omega arith in
          put_count (is_stay_of k) m t.lists.moves ∙ ap (λ (b : Bool). count_by (is_stay_of k) t.lists.moves + cond b 1 0) other ∙ e

  mode_added : (name : List ℕ) (n : ℕ) → ModeFits t name n → TypeFits domains (with_mode t name n)
  mode_added name n h =
      record {
        name = fact.name;
        variables = fact.variables;
        modes = all_more name_fits t.lists.modes name fact.modes h.name_is;
        few_modes = few_more;
        few_moves = subst (λ (ms : List Move). length ms ≤ MOVES) (sym (put_is m t.lists.moves)) few;
        laws = all_kept (fits old) (fits new) t.lists.laws (λ f. fits_wider old new wide f) fact.laws;
        mode_laws = all_kept (mode_formula_fits old fewer) (mode_formula_fits new more) t.lists.formulas (mode_law_kept old new wide fewer more grows) fact.mode_laws;
        moves = placed (λ (ms : List Move). list_all (move_fits new more) ms) (put_all (move_fits new more) m t.lists.moves (all_kept (move_fits old fewer) (move_fits new more) t.lists.moves (move_kept old new wide fewer more grows) fact.moves) own);
        rise = placed (λ (ms : List Move). moves_rise 0 0 ms) (put_rises m 0 0 t.lists.moves fact.rise (from_first m));
        once = once_more 0 t.lists.modes name (with_move_in_place m t.lists.moves) (once_same 0 t.lists.modes (with_move_in_place m t.lists.moves) t.lists.moves unchanged fact.once) one;
        sizes = fact.sizes;
        law_counts = fact.law_counts;
        mode_law_counts = fact.mode_law_counts;
        guard_counts = placed (λ (ms : List Move). list_all (guard_has_counts t.sizes) ms) (put_all (guard_has_counts t.sizes) m t.lists.moves fact.guard_counts refl);
      }
    where
      m : Move
      m = stay_in n

      fewer : ℕ
      fewer = length t.lists.modes

      more : ℕ
      more = length (t.lists.modes ++ name ∷ [])

      longer : length (t.lists.modes ++ name ∷ []) ≡ length t.lists.modes + 1
      longer = length_push t.lists.modes name

      grows : length t.lists.modes ≤ length (t.lists.modes ++ name ∷ [])
      grows = let e = longer in omega (arith, e)

      few_more : length (t.lists.modes ++ name ∷ []) ≤ MODES
      few_more = let e = longer in let less = h.few_modes in omega (arith, e, less)

      old : List Range
      old = own_ranges domains t

      new : List Range
      new = own_ranges domains (with_mode t name n)

      wide : AllWiden old new
      wide = (record { sort = refl; size = grows }, all_themselves (map (variable_range domains) t.lists.variables))

      placed : (p : List Move → Bool) → p (put m t.lists.moves) ≡ true → p (with_move_in_place m t.lists.moves) ≡ true
      placed p e = ap p (put_is m t.lists.moves) ∙ e

      few : length (put m t.lists.moves) ≤ MOVES
      few = let e = put_length m t.lists.moves in let less = h.few_moves in omega (arith, e, less)

      number : n ≡ length t.lists.modes
      number = h.number

      inside : nat_lt n (length (t.lists.modes ++ name ∷ [])) ≡ true
      inside = let e = longer in let f = number in lt-ltb n (length (t.lists.modes ++ name ∷ [])) (omega (arith, e, f))

      own : move_fits new more m ≡ true
      own =
          and_from (nat_lt n (length (t.lists.modes ++ name ∷ [])) && nat_lt n (length (t.lists.modes ++ name ∷ []))) _
          (and_from (nat_lt n (length (t.lists.modes ++ name ∷ []))) (nat_lt n (length (t.lists.modes ++ name ∷ []))) inside inside)
          (and_from (nat_eq n n && nat_eq 0 0) true (and_from (nat_eq n n) true (eq-eqb n n refl) refl) refl)

      unchanged : (k : ℕ) → k < 0 + length t.lists.modes → count_by (is_stay_of k) (with_move_in_place m t.lists.moves) ≡ count_by (is_stay_of k) t.lists.moves
      unchanged k less =
          let f = number in
          let other : nat_eq n k ≡ false = grind (arith, f, less) in
          let e : count_by (is_stay_of k) t.lists.moves + 0 ≡ count_by (is_stay_of k) t.lists.moves = omega arith in
          put_count (is_stay_of k) m t.lists.moves ∙ ap (λ (b : Bool). count_by (is_stay_of k) t.lists.moves + cond b 1 0) other ∙ e

      sources : list_all (λ (x : Move). nat_lt x.source.0 (0 + length t.lists.modes)) t.lists.moves ≡ true
      sources =
          let e : length t.lists.modes ≡ 0 + length t.lists.modes = omega arith in
          all_kept (move_fits (own_ranges domains t) (length t.lists.modes)) (λ (x : Move). nat_lt x.source.0 (0 + length t.lists.modes)) t.lists.moves
          (λ x a. subst (λ (k : ℕ). nat_lt x.source.0 k ≡ true) e (and_parts (nat_lt x.source.0 (length t.lists.modes)) (nat_lt x.target.0 (length t.lists.modes)) (and_parts (nat_lt x.source.0 (length t.lists.modes) && nat_lt x.target.0 (length t.lists.modes)) _ a).0).0)
          fact.moves

      one : count_by (is_stay_of (0 + length t.lists.modes)) (with_move_in_place m t.lists.moves) ≡ 1
      one =
          let f = number in
          let e : n ≡ 0 + length t.lists.modes = omega (arith, f) in
          let before : count_by (is_stay_of (0 + length t.lists.modes)) t.lists.moves ≡ 0 = none_of (0 + length t.lists.modes) t.lists.moves sources in
          put_count (is_stay_of (0 + length t.lists.modes)) m t.lists.moves
          ∙ ap₂ (λ (c : ℕ) (b : Bool). c + cond b 1 0) before (eq-eqb n (0 + length t.lists.modes) e)

  lined : (line : ℕ) → TypeFits domains (with_moves t line [])
  lined line =
      record {
        name = fact.name;
        variables = fact.variables;
        modes = fact.modes;
        few_modes = fact.few_modes;
        few_moves = fact.few_moves;
        laws = fact.laws;
        mode_laws = fact.mode_laws;
        moves = fact.moves;
        rise = fact.rise;
        once = fact.once;
        sizes = fact.sizes;
        law_counts = fact.law_counts;
        mode_law_counts = fact.mode_law_counts;
        guard_counts = fact.guard_counts;
      }

-- moves that are put in their places one after the other
moves_added : (domains : List Domain) (t : TypeDraft) → TypeFits domains t → (line : ℕ) (ms : List Move) → MovesFit (own_ranges domains t) t ms → TypeFits domains (with_moves t line ms)
moves_added domains t fact line [] h = lined domains t fact line
moves_added domains t fact line (m ∷ ms) h =
    let fits_here = and_parts (move_fits (own_ranges domains t) (length t.lists.modes) m) (list_all (move_fits (own_ranges domains t) (length t.lists.modes)) ms) h.fit in
    let counted = and_parts (guard_has_counts t.sizes m) (list_all (guard_has_counts t.sizes) ms) h.counts in
    let moving = and_parts (is_no_stay m) (list_all is_no_stay ms) h.no_stay in
    let room = h.few_moves in
    let longer : length (with_move_in_place m t.lists.moves) ≡ length t.lists.moves + 1 = ap (λ (xs : List Move). length xs) (put_is m t.lists.moves) ∙ put_length m t.lists.moves in
    moves_added domains (with_move t m)
    (move_added domains t fact m (record { fit = fits_here.0; counts = counted.0; no_stay = not-true (is_stay m.kind) moving.0; few_moves = omega (arith, room) }))
    line ms
    (record { fit = fits_here.1; counts = counted.1; no_stay = moving.1; few_moves = omega (arith, room, longer) })

pub type_kept : (domains : List Domain) (t : TypeDraft) → TypeFits domains t → (entry : Entry) → FitsInside domains t entry → TypeFits domains (type_with domains t entry)
type_kept domains t fact (NewVariable v) h = variable_kept domains t fact v h
type_kept domains t fact (NewMode name n) h = mode_added domains t fact name n h
type_kept domains t fact (TypeLaw f) h = law_added domains t fact f h
type_kept domains t fact (ModeLaws fs) h = mode_laws_added domains t fact fs h
type_kept domains t fact (NewMove line m) h = moves_added domains t fact line (m ∷ []) h
type_kept domains t fact (NewMoves line ms) h = moves_added domains t fact line ms h
type_kept domains t fact (Named name) h = fact
type_kept domains t fact (NewDomain x) h = fact
type_kept domains t fact (TypeBegins name) h = fact
type_kept domains t fact TypeEnds h = fact
type_kept domains t fact (NewPart p) h = fact
type_kept domains t fact (SystemLaw f) h = fact
type_kept domains t fact (NewPrice p) h = fact

-- the formulas of a type fit at whatever place it ends
module _ (domains : List Domain) (t : ComponentType) (kind : ℕ) where
  no_mode : (vs : List Variable) (n k : ℕ) → option_map_or (λ (s : Range). is_same_sort (Modes k) s.sort) (slice_get (map (variable_range domains) vs) n) false ≡ false
  no_mode [] n k = refl
  no_mode (v ∷ vs) zero k = refl
  no_mode (v ∷ vs) (suc n) k = no_mode vs n k

  no_mode_first : (vs : List Variable) (n k : ℕ) → option_map_or (λ (r : Range). is_same_sort r.sort (Modes k)) (slice_get (map (variable_range domains) vs) n) false ≡ false
  no_mode_first [] n k = refl
  no_mode_first (v ∷ vs) zero k = refl
  no_mode_first (v ∷ vs) (suc n) k = no_mode_first vs n k

  alike_renamed : (x y : ℕ) → are_alike (type_ranges domains 0 t) x y ≡ true → are_alike (type_ranges domains kind t) x y ≡ true
  alike_renamed zero zero h = eq-eqb kind kind refl
  alike_renamed zero (suc y) h = let e = no_mode t.variables y 0 in absurd (cc)
  alike_renamed (suc x) zero h = let e = no_mode_first t.variables x 0 in absurd (cc)
  alike_renamed (suc x) (suc y) h = h

  value_renamed : (x v : ℕ) → has_value (type_ranges domains 0 t) x v ≡ true → has_value (type_ranges domains kind t) x v ≡ true
  value_renamed zero v h = h
  value_renamed (suc x) v h = h

  mutual
    renamed : (f : Tree) → fits (type_ranges domains 0 t) f ≡ true → fits (type_ranges domains kind t) f ≡ true
    renamed always h = refl
    renamed never h = refl
    renamed (is x v) h = value_renamed x v h
    renamed (same x y) h = alike_renamed x y h
    renamed (negation f) h = renamed f h
    renamed (all fs) h = each_renamed fs h
    renamed (any fs) h = each_renamed fs h
    renamed (implies f g) h = let two = and_parts (fits (type_ranges domains 0 t) f) (fits (type_ranges domains 0 t) g) h in and_from (fits (type_ranges domains kind t) f) (fits (type_ranges domains kind t) g) (renamed f two.0) (renamed g two.1)
    renamed (iff f g) h = let two = and_parts (fits (type_ranges domains 0 t) f) (fits (type_ranges domains 0 t) g) h in and_from (fits (type_ranges domains kind t) f) (fits (type_ranges domains kind t) g) (renamed f two.0) (renamed g two.1)

    each_renamed : (fs : Trees) → each_fits (type_ranges domains 0 t) fs ≡ true → each_fits (type_ranges domains kind t) fs ≡ true
    each_renamed none h = refl
    each_renamed (more f fs) h = let two = and_parts (fits (type_ranges domains 0 t) f) (each_fits (type_ranges domains 0 t) fs) h in and_from (fits (type_ranges domains kind t) f) (each_fits (type_ranges domains kind t) fs) (renamed f two.0) (each_renamed fs two.1)

  guard_renamed : (o : Option Tree) → option_map_or (fits (type_ranges domains 0 t)) o true ≡ true → option_map_or (fits (type_ranges domains kind t)) o true ≡ true
  guard_renamed None h = refl
  guard_renamed (Some f) h = renamed f h

  mode_law_renamed : (f : ModeFormula) → mode_formula_fits (type_ranges domains 0 t) (length t.modes) f ≡ true → mode_formula_fits (type_ranges domains kind t) (length t.modes) f ≡ true
  mode_law_renamed f h =
      let two = and_parts (nat_lt f.mode.0 (length t.modes)) (fits (type_ranges domains 0 t) f.condition) h in
      and_from (nat_lt f.mode.0 (length t.modes)) (fits (type_ranges domains kind t) f.condition) two.0 (renamed f.condition two.1)

  move_renamed : (m : Move) → move_fits (type_ranges domains 0 t) (length t.modes) m ≡ true → move_fits (type_ranges domains kind t) (length t.modes) m ≡ true
  move_renamed m h =
      let ends = and_parts (nat_lt m.source.0 (length t.modes) && nat_lt m.target.0 (length t.modes)) (kind_fits m.kind m && guard_fits (type_ranges domains 0 t) m) h in
      let rest = and_parts (kind_fits m.kind m) (guard_fits (type_ranges domains 0 t) m) ends.1 in
      and_from (nat_lt m.source.0 (length t.modes) && nat_lt m.target.0 (length t.modes)) (kind_fits m.kind m && guard_fits (type_ranges domains kind t) m) ends.0
      (and_from (kind_fits m.kind m) (guard_fits (type_ranges domains kind t) m) rest.0 (guard_renamed m.guard rest.1))

pub ended_fits : (domains : List Domain) (t : TypeDraft) (kind : ℕ) → TypeFits domains t → 1 ≤ length t.lists.modes → type_fits domains kind t.lists ≡ true
ended_fits domains t kind fact some =
    let ranges : List Range = type_ranges domains kind t.lists in
    let modes : ℕ = length t.lists.modes in
    and_from (names_fit (length domains) t.lists && counts_fit t.lists) (formulas_fit (type_ranges domains kind t.lists) t.lists && moves_fit (type_ranges domains kind t.lists) t.lists)
    (and_from (names_fit (length domains) t.lists) (counts_fit t.lists)
    (and_from (name_fits t.lists.name) _ fact.name (and_from (list_all (variable_fits (length domains)) t.lists.variables) _ fact.variables fact.modes))
    (and_from (is_within 1 (length t.lists.modes) MODES) (nat_le (length t.lists.moves) MOVES)
    (and_from (nat_le 1 (length t.lists.modes)) (nat_le (length t.lists.modes) MODES) (le-leb 1 (length t.lists.modes) some) (le-leb (length t.lists.modes) MODES fact.few_modes))
    (le-leb (length t.lists.moves) MOVES fact.few_moves)))
    (and_from (formulas_fit (type_ranges domains kind t.lists) t.lists) (moves_fit (type_ranges domains kind t.lists) t.lists)
    (and_from (list_all (fits (type_ranges domains kind t.lists)) t.lists.laws) _
    (all_kept (fits (type_ranges domains 0 t.lists)) (fits (type_ranges domains kind t.lists)) t.lists.laws (renamed domains t.lists kind) fact.laws)
    (all_kept (mode_formula_fits (type_ranges domains 0 t.lists) (length t.lists.modes)) (mode_formula_fits (type_ranges domains kind t.lists) (length t.lists.modes)) t.lists.formulas (mode_law_renamed domains t.lists kind) fact.mode_laws))
    (and_from (list_all (move_fits (type_ranges domains kind t.lists) (length t.lists.modes)) t.lists.moves) _
    (all_kept (move_fits (type_ranges domains 0 t.lists) (length t.lists.modes)) (move_fits (type_ranges domains kind t.lists) (length t.lists.modes)) t.lists.moves (move_renamed domains t.lists kind) fact.moves)
    (and_from (moves_rise 0 0 t.lists.moves) (stays_once 0 t.lists.modes t.lists.moves) fact.rise fact.once)))

pub ended_counts : (domains : List Domain) (t : TypeDraft) → TypeFits domains t → type_has_counts domains t.lists ≡ true
ended_counts domains t fact =
    subst (λ (sizes : List ℕ). formulas_have_counts sizes t.lists ≡ true) fact.sizes
    (and_from (list_all (has_count t.sizes true) t.lists.laws) _ fact.law_counts (and_from (list_all (mode_formula_has_count t.sizes) t.lists.formulas) _ fact.mode_law_counts fact.guard_counts))
