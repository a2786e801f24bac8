-- What each formula of a well-formed plant reads.
use Rattle.std.proofs.Common.{◌≡◌, ◌+◌, ◌≤◌, ℕ, ◌<◌, Bool, true, false, ◌&&◌, List, [], ◌∷◌, slice_get, Option, Some, None, refl, subst, arith, All, nat_lt, nat_le, nat_eq, sum_by, zero, suc, length, get_or, sym, ◌∙◌, ap₂}
use Rattle.std.proofs.lemmas.Bool.{and_parts}
use Rattle.std.proofs.lemmas.List.Elements.{All-cons, All-tail}
use Rattle.std.proofs.lemmas.List.Sums.{sum_by-cons}
use borrow.Author.Tests.{leb-true, eqb-true}
use Rattle.std.specs.Option.{option_map_or}
use Rattle.std.specs.List.{list_all, flat_map}
use Rattle.std.proofs.lemmas.List.{length-append, length-map}
use Rattle.lv_base.specs.declared.limits.TheConstants.{PARTS, VARIABLES}
use Rattle.lv_base.specs.declared.range.Range.{Range}
use Rattle.lv_base.specs.Tree.{Tree, reads_below}
use Rattle.lv_base.specs.Fits.{fits}
use Rattle.lv_base.proofs.FitLemmas.{fits_reads}
use Rattle.lv_model.specs.declared.plant.Plant.{Plant}
use Rattle.lv_model.specs.declared.plant.ComponentType.{ComponentType}
use Rattle.lv_model.specs.declared.plant.Part.{Part}
use Rattle.lv_model.specs.declared.plant.Domain.{Domain}
use Rattle.lv_model.specs.declared.plant.ModeFormula.{ModeFormula}
use Rattle.lv_model.specs.declared.plant.Move.{Move}
use Rattle.lv_model.specs.Ranges.{type_ranges, part_ranges, plant_ranges}
use Rattle.lv_model.specs.Lists.{variable_count, part_width}
use Rattle.lv_model.specs.Counts.{clauses_fit}
use Rattle.lv_model.specs.WellFormed.{is_within, name_fits, domain_fits, names_fit, counts_fit, formulas_fit, moves_fit, mode_formula_fits, kind_fits, guard_fits, move_fits, type_fits, types_fit, part_fits, parts_fit, firsts_follow, variables_fit, laws_fit, prices_fit, lists_fit, is_well_formed, Reads, FormulaReads, GuardReads, TypeReads, PartReads, PartEnds}

-- a test of all elements as a fact of each
pub All-of_test : {X : Type 0} (p : X → Bool) (P : X → Type 0) (xs : List X) → ((x : X) → p x ≡ true → P x) → list_all p xs ≡ true → All P xs
All-of_test p P [] f h = λ k d below. absurd (omega arith)
All-of_test p P (x ∷ xs) f h =
    All-cons P x xs (f x (and_parts (p x) (list_all p xs) h).0) (All-of_test p P xs f (and_parts (p x) (list_all p xs) h).1)

-- a fact of each element is one of the element at a place
pub All-at : {X : Type 0} (P : X → Type 0) (xs : List X) (n : ℕ) (x : X) → All P xs → slice_get xs n ≡ Some x → P x
All-at P [] n x all is = absurd (cc)
All-at P (y ∷ ys) zero x all is = let e : y ≡ x = cc is in subst P e (all 0 y (omega arith))
All-at P (y ∷ ys) (suc n) x all is = All-at P ys n x (All-tail P y ys all) is

-- the test of a type at its place
pub type_at : (domains : List Domain) (k : ℕ) (ts : List ComponentType) (n : ℕ) (t : ComponentType) → types_fit domains k ts ≡ true → slice_get ts n ≡ Some t → type_fits domains (k + n) t ≡ true
type_at domains k [] n t h is = absurd (cc)
type_at domains k (u ∷ ts) zero t h is =
    let same : u ≡ t = cc is in
    let here : k ≡ k + 0 = omega arith in
    subst (λ x. type_fits domains (k + 0) x ≡ true) same (subst (λ j. type_fits domains j u ≡ true) here (and_parts (type_fits domains k u) (types_fit domains (k + 1) ts) h).0)
type_at domains k (u ∷ ts) (suc n) t h is =
    let next : k + 1 + n ≡ k + suc n = omega arith in
    subst (λ j. type_fits domains j t ≡ true) next (type_at domains (k + 1) ts n t (and_parts (type_fits domains k u) (types_fit domains (k + 1) ts) h).1 is)

pub type_of_place : (domains : List Domain) (ts : List ComponentType) (n : ℕ) (t : ComponentType) → types_fit domains 0 ts ≡ true → slice_get ts n ≡ Some t → type_fits domains n t ≡ true
type_of_place domains ts n t h is = let e : 0 + n ≡ n = omega arith in subst (λ j. type_fits domains j t ≡ true) e (type_at domains 0 ts n t h is)

module _ (ranges : List Range) (bound base : ℕ) (ends : base + length ranges ≤ bound) where
  guard_of_test : (o : Option Tree) → option_map_or (fits ranges) o true ≡ true → option_map_or (reads_below bound base) o true ≡ true
  guard_of_test None h = refl
  guard_of_test (Some f) h = fits_reads ranges bound base ends f h

  pub laws_read : (fs : List Tree) → list_all (fits ranges) fs ≡ true → All (Reads bound base) fs
  laws_read fs h = All-of_test (fits ranges) (Reads bound base) fs (λ f e. record { below = fits_reads ranges bound base ends f e }) h

  formulas_read : (modes : ℕ) (fs : List ModeFormula) → list_all (mode_formula_fits ranges modes) fs ≡ true → All (FormulaReads bound base) fs
  formulas_read modes fs h =
      All-of_test (mode_formula_fits ranges modes) (FormulaReads bound base) fs
      (λ f e. record { condition = fits_reads ranges bound base ends f.condition (and_parts (nat_lt f.mode.0 modes) (fits ranges f.condition) e).1 }) h

  guards_read : (modes : ℕ) (ms : List Move) → list_all (move_fits ranges modes) ms ≡ true → All (GuardReads bound base) ms
  guards_read modes ms h =
      All-of_test (move_fits ranges modes) (GuardReads bound base) ms
      (λ m e. record { guard = guard_of_test m.guard (and_parts (kind_fits m.kind m) (guard_fits ranges m) (and_parts (nat_lt m.source.0 modes && nat_lt m.target.0 modes) _ e).1).1 }) h

pub TypeReads-of_test : (domains : List Domain) (kind bound base : ℕ) (t : ComponentType) → base + length (type_ranges domains kind t) ≤ bound → type_fits domains kind t ≡ true → TypeReads bound base t
TypeReads-of_test domains kind bound base t ends h =
    let ranges : List Range = type_ranges domains kind t in
    let own = and_parts (formulas_fit ranges t) (moves_fit ranges t) (and_parts (names_fit (length domains) t && counts_fit t) _ h).1 in
    let formulas = and_parts (list_all (fits ranges) t.laws) (list_all (mode_formula_fits ranges (length t.modes)) t.formulas) own.0 in
    record {
      first = omega arith;
      laws = laws_read ranges bound base ends t.laws formulas.0;
      formulas = formulas_read ranges bound base ends (length t.modes) t.formulas formulas.1;
      guards = guards_read ranges bound base ends (length t.modes) t.moves (and_parts (list_all (move_fits ranges (length t.modes)) t.moves) _ own.1).0;
    }

width_of_ranges : (domains : List Domain) (types : List ComponentType) (p : Part) (t : ComponentType) → slice_get types p.kind ≡ Some t → length (type_ranges domains p.kind t) ≡ part_width types p
width_of_ranges domains types p t is = rw (is, length-map) (omega arith)

-- a part of a well-formed plant reads its own variables alone
pub PartReads-of_test : (domains : List Domain) (types : List ComponentType) (bound : ℕ) (p : Part) → types_fit domains 0 types ≡ true → part_fits types p ≡ true → PartEnds bound types p → PartReads bound types p
PartReads-of_test domains types bound p fit has ends = record { first = first (slice_get types p.kind) refl; kind = reads }
  where
    reads : (t : ComponentType) → slice_get types p.kind ≡ Some t → TypeReads bound p.first.0 t
    reads t is =
        let width : length (type_ranges domains p.kind t) ≡ part_width types p = width_of_ranges domains types p t is in
        let last : p.first.0 + part_width types p ≤ bound = ends.last in
        TypeReads-of_test domains p.kind bound p.first.0 t (omega arith) (type_of_place domains types p.kind t fit is)

    first : (o : Option ComponentType) → slice_get types p.kind ≡ o → p.first.0 < bound
    first None is = let e : option_map_or (λ (t : ComponentType). nat_lt p.start.0 (length t.modes)) (slice_get types p.kind) false ≡ true = (and_parts (name_fits p.name) _ has).1 in absurd (cc)
    first (Some t) is = (reads t is).first

-- parts that follow one another end where all of them do or before
pub ends-of_follow : (types : List ComponentType) (next : ℕ) (ps : List Part) → firsts_follow types next ps ≡ true → All (PartEnds (next + sum_by (part_width types) ps) types) ps
ends-of_follow types next [] h = λ k d below. absurd (omega arith)
ends-of_follow types next (p ∷ ps) h =
    let parts = and_parts (nat_eq p.first.0 next) (firsts_follow types (next + part_width types p) ps) h in
    let first : p.first.0 ≡ next = eqb-true p.first.0 next parts.0 in
    let all : sum_by (part_width types) (p ∷ ps) ≡ part_width types p + sum_by (part_width types) ps = sum_by-cons (part_width types) p ps in
    All-cons (PartEnds (next + sum_by (part_width types) (p ∷ ps)) types) p ps
    (record { last = omega arith })
    (λ k d below. record { last = let rest = (ends-of_follow types (next + part_width types p) ps parts.1 k d below).last in omega arith })

-- parts that follow one another and have few variables end within the limit
pub ends_within : (types : List ComponentType) (ps : List Part) (bound : ℕ) → (firsts_follow types 0 ps && nat_le (sum_by (part_width types) ps) bound) ≡ true → All (PartEnds bound types) ps
ends_within types ps bound h =
    let two = and_parts (firsts_follow types 0 ps) (nat_le (sum_by (part_width types) ps) bound) h in
    let few : sum_by (part_width types) ps ≤ bound = leb-true (sum_by (part_width types) ps) bound two.1 in
    λ k d below. record { last = let one = (ends-of_follow types 0 ps two.0 k d below).last in omega arith }

ranges_of_type : (domains : List Domain) (kind : ℕ) (o : Option ComponentType) → length (option_map_or (type_ranges domains kind) o []) ≡ option_map_or (λ (t : ComponentType). length t.variables + 1) o 0
ranges_of_type domains kind None = refl
ranges_of_type domains kind (Some t) = rw length-map (omega arith)

ranges_of_parts : (domains : List Domain) (types : List ComponentType) (ps : List Part) → length (flat_map (part_ranges domains types) ps) ≡ sum_by (part_width types) ps
ranges_of_parts domains types [] = refl
ranges_of_parts domains types (p ∷ ps) =
    length-append (part_ranges domains types p) (flat_map (part_ranges domains types) ps)
    ∙ ap₂ (λ (x y : ℕ). x + y) (ranges_of_type domains p.kind (slice_get types p.kind)) (ranges_of_parts domains types ps)
    ∙ sym (sum_by-cons (part_width types) p ps)

-- there is one range for each variable
pub length-plant_ranges : (plant : Plant) → length (plant_ranges plant) ≡ variable_count plant
length-plant_ranges plant = ranges_of_parts plant.domains plant.types plant.parts

module _ (plant : Plant) (h : is_well_formed plant ≡ true) where
  lists : ((name_fits plant.name && list_all domain_fits plant.domains) ≡ true) × ((types_fit plant.domains 0 plant.types && parts_fit plant) ≡ true)
  lists = and_parts (name_fits plant.name && list_all domain_fits plant.domains) (types_fit plant.domains 0 plant.types && parts_fit plant) (and_parts (lists_fit plant) _ h).0

  pub domains_pass : list_all domain_fits plant.domains ≡ true
  domains_pass = (and_parts (name_fits plant.name) (list_all domain_fits plant.domains) lists.0).1

  pub types_pass : types_fit plant.domains 0 plant.types ≡ true
  types_pass = (and_parts (types_fit plant.domains 0 plant.types) (parts_fit plant) lists.1).0

  pub parts_pass : (is_within 1 (length plant.parts) PARTS ≡ true) × (list_all (part_fits plant.types) plant.parts ≡ true)
  parts_pass = and_parts (is_within 1 (length plant.parts) PARTS) (list_all (part_fits plant.types) plant.parts) (and_parts (types_fit plant.domains 0 plant.types) (parts_fit plant) lists.1).1

  rest : ((variables_fit plant) ≡ true) × ((laws_fit plant && prices_fit plant && clauses_fit plant) ≡ true)
  rest = and_parts (variables_fit plant) (laws_fit plant && prices_fit plant && clauses_fit plant) (and_parts (lists_fit plant) _ h).1

  -- no formula of it comes to too many clauses, nor does all of it
  pub counts_pass : clauses_fit plant ≡ true
  counts_pass = (and_parts (laws_fit plant && prices_fit plant) (clauses_fit plant) rest.1).1

  -- and there are few parts
  pub few-parts : length plant.parts ≤ PARTS
  few-parts = leb-true (length plant.parts) PARTS (and_parts (nat_le 1 (length plant.parts)) (nat_le (length plant.parts) PARTS) parts_pass.0).1

  -- each part's variables begin where those of the parts before it end
  pub follow_pass : firsts_follow plant.types 0 plant.parts ≡ true
  follow_pass = (and_parts (firsts_follow plant.types 0 plant.parts) (nat_le (variable_count plant) VARIABLES) rest.0).0

  pub laws_pass : list_all (fits (plant_ranges plant)) plant.laws ≡ true
  laws_pass = (and_parts (laws_fit plant) (prices_fit plant) (and_parts (laws_fit plant && prices_fit plant) (clauses_fit plant) rest.1).0).0

  -- it has no more variables than this
  pub few_variables : variable_count plant ≤ VARIABLES
  few_variables = leb-true (variable_count plant) VARIABLES (and_parts (firsts_follow plant.types 0 plant.parts) (nat_le (variable_count plant) VARIABLES) rest.0).1

  -- and its parts end where they do
  pub ends-of_well_formed : All (PartEnds (variable_count plant) plant.types) plant.parts
  ends-of_well_formed =
      let parts = and_parts (firsts_follow plant.types 0 plant.parts) (nat_le (variable_count plant) VARIABLES) rest.0 in
      λ k d below. record { last = let one = (ends-of_follow plant.types 0 plant.parts parts.0 k d below).last in omega arith }

  -- what the parts of a well-formed plant read
  pub parts-of_well_formed : All (PartReads (variable_count plant) plant.types) plant.parts
  parts-of_well_formed = All-of_both plant.parts (All-of_test (part_fits plant.types) (λ p. part_fits plant.types p ≡ true) plant.parts (λ p e. e) parts_pass.1) ends-of_well_formed
    where
      All-of_both : (ps : List Part) → All (λ p. part_fits plant.types p ≡ true) ps → All (PartEnds (variable_count plant) plant.types) ps → All (PartReads (variable_count plant) plant.types) ps
      All-of_both ps fit ends = λ k d below. PartReads-of_test plant.domains plant.types (variable_count plant) (get_or ps k d) types_pass (fit k d below) (ends k d below)

  -- what its laws read
  pub laws-of_well_formed : All (Reads (variable_count plant) 0) plant.laws
  laws-of_well_formed =
      let count : length (plant_ranges plant) ≡ variable_count plant = length-plant_ranges plant in
      laws_read (plant_ranges plant) (variable_count plant) 0 (omega arith) plant.laws (and_parts (laws_fit plant) (prices_fit plant) (and_parts (laws_fit plant && prices_fit plant) (clauses_fit plant) rest.1).0).0
