-- The variables of a well-formed plant have booleans as their ranges say: those of each part where the part's variables begin.
use Rattle.std.proofs.Common.{◌≡◌, ◌+◌, ◌<◌, ℕ, zero, suc, true, nat_eq, List, [], ◌∷◌, ◌++◌, length, map, slice_get, slice_index_or, Option, Some, None, refl, sym, ap, ◌∙◌, arith, All}
use Rattle.std.specs.List.{flat_map}
use Rattle.std.specs.Option.{option_map_or}
use Rattle.std.proofs.lemmas.Bool.{and_parts}
use Rattle.std.proofs.lemmas.Option.{slice_get_within}
use Rattle.std.proofs.lemmas.List.{length-map}
use Rattle.std.proofs.lemmas.List.Elements.{All-cons, All-append}
use borrow.Author.Tests.{eqb-true}
use Rattle.lv_base.specs.declared.range.Range.{Range}
use Rattle.lv_base.specs.declared.range.Sort.{Sort}
use Rattle.lv_base.specs.declared.range.Sort.TheVariants.{Modes, Values}
use Rattle.lv_base.specs.Fits.{is_same_sort}
use Rattle.lv_model.specs.declared.plant.Plant.{Plant}
use Rattle.lv_model.specs.declared.plant.Domain.{Domain}
use Rattle.lv_model.specs.declared.plant.ComponentType.{ComponentType}
use Rattle.lv_model.specs.declared.plant.Variable.{Variable}
use Rattle.lv_model.specs.declared.plant.Part.{Part}
use Rattle.lv_model.specs.Ranges.{domain_size, variable_range, type_ranges, part_ranges, plant_ranges}
use Rattle.lv_model.specs.Lists.{sizes, part_width}
use Rattle.lv_model.specs.WellFormed.{firsts_follow}
use Rattle.lv_model.proofs.Reading.{All-at}
use Rattle.lv_compile.specs.Booleans.{Booleans}
use Rattle.lv_compile.specs.FormulaClauses.{size_of}
use Rattle.lv_compile.specs.Laws.{HaveBooleans}

-- elements of lists

got_front : {X : Type 0} (xs ys : List X) (n : ℕ) (x : X) → slice_get xs n ≡ Some x → slice_get (xs ++ ys) n ≡ Some x
got_front [] ys n x here = absurd (cc)
got_front (z ∷ xs) ys zero x here = here
got_front (z ∷ xs) ys (suc n) x here = got_front xs ys n x here

got_back : {X : Type 0} (xs ys : List X) (n m : ℕ) → length xs + n ≡ m → slice_get (xs ++ ys) m ≡ slice_get ys n
got_back [] ys n m at = let e : m ≡ n = omega (arith, at) in ap (slice_get ys) e
got_back (z ∷ xs) ys n zero at = absurd (omega (arith, at))
got_back (z ∷ xs) ys n (suc m) at = got_back xs ys n m (omega (arith, at))

index_of_map : {X : Type 0} (f : X → ℕ) (xs : List X) (n : ℕ) (x : X) → slice_get xs n ≡ Some x → slice_index_or (map f xs) n 0 ≡ f x
index_of_map f [] n x here = absurd (cc)
index_of_map f (z ∷ xs) zero x here = let e : z ≡ x = cc here in ap f e
index_of_map f (z ∷ xs) (suc n) x here = index_of_map f xs n x here

-- ranges of one sort are equally large

module _ (plant : Plant) where
  abbrev pub sort_size : Sort → ℕ
  sort_size (Modes k) = option_map_or (λ (t : ComponentType). length t.modes) (slice_get plant.types k) 0
  sort_size (Values d) = domain_size plant.domains d

  pub record Sized (r : Range) : Type 0 where
    pub size : r.size ≡ sort_size r.sort

  same_size : (s t : Sort) → is_same_sort s t ≡ true → sort_size s ≡ sort_size t
  same_size (Modes a) (Modes b) e = ap (λ n. sort_size (Modes n)) (eqb-true a b e)
  same_size (Modes a) (Values b) e = absurd (cc)
  same_size (Values a) (Modes b) e = absurd (cc)
  same_size (Values a) (Values b) e = ap (λ n. sort_size (Values n)) (eqb-true a b e)

  alike : (r s : Range) → Sized r → Sized s → is_same_sort r.sort s.sort ≡ true → r.size ≡ s.size
  alike r s a b e = a.size ∙ same_size r.sort s.sort e ∙ sym b.size

  sized_variables : (vs : List Variable) → All Sized (map (variable_range plant.domains) vs)
  sized_variables [] = λ k d below. absurd (omega arith)
  sized_variables (v ∷ vs) = All-cons Sized (variable_range plant.domains v) (map (variable_range plant.domains) vs) (record { size = refl }) (sized_variables vs)

  sized_type : (k : ℕ) (t : ComponentType) → slice_get plant.types k ≡ Some t → All Sized (type_ranges plant.domains k t)
  sized_type k t is =
      All-cons Sized (record { sort = Modes k; size = length t.modes }) (map (variable_range plant.domains) t.variables)
      (record { size = sym (ap (λ o. option_map_or (λ (u : ComponentType). length u.modes) o 0) is) }) (sized_variables t.variables)

  sized_part : (k : ℕ) (o : Option ComponentType) → slice_get plant.types k ≡ o → All Sized (option_map_or (type_ranges plant.domains k) o [])
  sized_part k None is = λ j d below. absurd (omega arith)
  sized_part k (Some t) is = sized_type k t is

  sized_parts : (ps : List Part) → All Sized (flat_map (part_ranges plant.domains plant.types) ps)
  sized_parts [] = λ k d below. absurd (omega arith)
  sized_parts (p ∷ ps) =
      All-append Sized (part_ranges plant.domains plant.types p) (flat_map (part_ranges plant.domains plant.types) ps)
      (sized_part p.kind (slice_get plant.types p.kind) refl) (sized_parts ps)

  -- the booleans of a copy, by the ranges of the plant

  module _ (b : Booleans) (copy : b.sizes ≡ sizes plant) where
    inside : (n : ℕ) (r : Range) → slice_get (plant_ranges plant) n ≡ Some r → n < length b.sizes
    inside n r here =
        let within = slice_get_within (plant_ranges plant) n r here in
        let same : length b.sizes ≡ length (plant_ranges plant) = ap length copy ∙ length-map (plant_ranges plant) (λ (q : Range). q.size) in
        omega (arith, within, same)

    size_there : (n : ℕ) (r : Range) → slice_get (plant_ranges plant) n ≡ Some r → size_of b n ≡ r.size
    size_there n r here = ap (λ (s : List ℕ). slice_index_or s n 0) copy ∙ index_of_map (λ (q : Range). q.size) (plant_ranges plant) n r here

    pub have_system : HaveBooleans (plant_ranges plant) b 0
    have_system =
        record {
          within = λ x r here. let i = inside x r here in omega (arith, i);
          size = λ x r here. let e : 0 + x ≡ x = omega arith in ap (size_of b) e ∙ size_there x r here;
          alike = λ x y r s here there e. alike r s (All-at Sized (plant_ranges plant) x r (sized_parts plant.parts) here) (All-at Sized (plant_ranges plant) y s (sized_parts plant.parts) there) e;
        }

    -- ranges that stand at base among those of the plant
    have_at : (ranges : List Range) (base : ℕ) → All Sized ranges → ((x : ℕ) (r : Range) → slice_get ranges x ≡ Some r → slice_get (plant_ranges plant) (base + x) ≡ Some r) → HaveBooleans ranges b base
    have_at ranges base sized stand =
        record {
          within = λ x r here. inside (base + x) r (stand x r here);
          size = λ x r here. size_there (base + x) r (stand x r here);
          alike = λ x y r s here there e. alike r s (All-at Sized ranges x r sized here) (All-at Sized ranges y s sized there) e;
        }

-- where the ranges of a part stand

record Place (domains : List Domain) (types : List ComponentType) (next : ℕ) (ps : List Part) (p : Part) (x : ℕ) (r : Range) : Type 0 where
  pub past : ℕ
  pub first : p.first.0 ≡ next + past
  pub at : slice_get (flat_map (part_ranges domains types) ps) (past + x) ≡ Some r

width_same : (domains : List Domain) (k : ℕ) (o : Option ComponentType) → length (option_map_or (type_ranges domains k) o []) ≡ option_map_or (λ (t : ComponentType). length t.variables + 1) o 0
width_same domains k None = refl
width_same domains k (Some t) = let same = length-map t.variables (variable_range domains) in omega (arith, same)

place : (domains : List Domain) (types : List ComponentType) (next : ℕ) (ps : List Part) (n x : ℕ) (p : Part) (t : ComponentType) (r : Range) → firsts_follow types next ps ≡ true
    → slice_get ps n ≡ Some p → slice_get types p.kind ≡ Some t → slice_get (type_ranges domains p.kind t) x ≡ Some r → Place domains types next ps p x r
place domains types next [] n x p t r follow here kind is = absurd (cc)
place domains types next (q ∷ qs) zero x p t r follow here kind is =
    let same : q ≡ p = cc here in
    let two = and_parts (nat_eq q.first.0 next) (firsts_follow types (next + part_width types q) qs) follow in
    let first : p.first.0 ≡ next = ap (λ (y : Part). y.first.0) (sym same) ∙ eqb-true q.first.0 next two.0 in
    let own : slice_get (part_ranges domains types p) x ≡ Some r = ap (λ o. slice_get (option_map_or (type_ranges domains p.kind) o []) x) kind ∙ is in
    let front = got_front (part_ranges domains types p) (flat_map (part_ranges domains types) qs) x r own in
    let none : 0 + x ≡ x = omega arith in
    record {
      past = 0;
      first = omega (arith, first);
      at =
          ap (slice_get (flat_map (part_ranges domains types) (q ∷ qs))) none
          ∙ ap (λ (y : Part). slice_get (part_ranges domains types y ++ flat_map (part_ranges domains types) qs) x) same
          ∙ front;
    }
place domains types next (q ∷ qs) (suc n) x p t r follow here kind is =
    let two = and_parts (nat_eq q.first.0 next) (firsts_follow types (next + part_width types q) qs) follow in
    let rest : Place domains types (next + part_width types q) qs p x r = place domains types (next + part_width types q) qs n x p t r two.1 here kind is in
    let width = width_same domains q.kind (slice_get types q.kind) in
    let first = rest.first in
    record {
      past = part_width types q + rest.past;
      first = omega (arith, first);
      at = got_back (part_ranges domains types q) (flat_map (part_ranges domains types) qs) (rest.past + x) (part_width types q + rest.past + x) (omega (arith, width)) ∙ rest.at;
    }

stands : (plant : Plant) → firsts_follow plant.types 0 plant.parts ≡ true → (n : ℕ) (p : Part) (t : ComponentType) → slice_get plant.parts n ≡ Some p → slice_get plant.types p.kind ≡ Some t
    → (x : ℕ) (r : Range) → slice_get (type_ranges plant.domains p.kind t) x ≡ Some r → slice_get (plant_ranges plant) (p.first.0 + x) ≡ Some r
stands plant follow n p t here kind x r is =
    let found : Place plant.domains plant.types 0 plant.parts p x r = place plant.domains plant.types 0 plant.parts n x p t r follow here kind is in
    let first = found.first in
    let e : p.first.0 + x ≡ found.past + x = omega (arith, first) in
    ap (slice_get (plant_ranges plant)) e ∙ found.at

pub have_part : (plant : Plant) (b : Booleans) → b.sizes ≡ sizes plant → firsts_follow plant.types 0 plant.parts ≡ true → (n : ℕ) (p : Part) (t : ComponentType)
    → slice_get plant.parts n ≡ Some p → slice_get plant.types p.kind ≡ Some t → HaveBooleans (type_ranges plant.domains p.kind t) b p.first.0
have_part plant b copy follow n p t here kind =
    have_at plant b copy (type_ranges plant.domains p.kind t) p.first.0 (sized_type plant p.kind t kind) (stands plant follow n p t here kind)
