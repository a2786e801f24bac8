-- The first list of values that passes is such a list, none that passes comes before it, and it is the only such list.
use Rattle.std.proofs.Common.{◌≡◌, ◌+◌, ◌<◌, ◌≤◌, ℕ, zero, suc, Bool, true, false, ◌&&◌, ◌||◌, nat_eq, nat_lt, if◌then◌else◌, List, [], ◌∷◌, Option, Some, None, refl, sym, subst, ap, ap₂, ◌∙◌, arith}
use Rattle.std.specs.Option.{option_map_or}
use Rattle.std.proofs.lemmas.Bool.{and_parts, and_from, lt-ltb, ltb-true, eqb-true}
use Rattle.lv_base.specs.declared.ids.ValId.{ValId}
use Rattle.lv_meaning.specs.Possible.{value}
use Rattle.lv_plant_step.specs.FirstList.{found_or, first_from, first_list, comes_before}
use Rattle.lv_plant_step.specs.Finding.{are_values}

-- where no value from v on finds something, nothing is found
from_none : (left v : ℕ) (found : ℕ → Option (List ValId)) → ((u : ℕ) → v ≤ u → u < v + left → found u ≡ None) → first_from left v found ≡ None
from_none zero v found none = refl
from_none (suc left) v found none =
    ap (λ (o : Option (List ValId)). found_or v o (first_from left (v + 1) found)) (none v (omega arith) (omega arith))
    ∙ from_none left (v + 1) found (λ u above below. none u (omega (arith, above)) (omega (arith, below)))

-- and the other way round
each_none : (left v : ℕ) (found : ℕ → Option (List ValId)) → first_from left v found ≡ None → (u : ℕ) → v ≤ u → u < v + left → found u ≡ None
each_none zero v found h u above below = absurd (omega (arith, above, below))
each_none (suc left) v found h u above below = by (found v) refl h (λ later less. each_none left (v + 1) found later u (omega (arith, less)) (omega (arith, below)))
  where
    by : (o : Option (List ValId)) → found v ≡ o → found_or v o (first_from left (v + 1) found) ≡ None
        → (first_from left (v + 1) found ≡ None → v < u → found u ≡ None) → found u ≡ None
    by (Some vs) e none rest = absurd (cc none)
    by None e none rest = here (nat_eq v u) refl
      where
        here : (b : Bool) → nat_eq v u ≡ b → found u ≡ None
        here true same = ap found (sym (eqb-true v u same)) ∙ e
        here false other = rest none (grind (arith, other, above))

-- the value found first
pub record FirstFound (left v : ℕ) (found : ℕ → Option (List ValId)) (vs : List ValId) : Type 0 where
  pub number : ℕ
  pub rest : List ValId
  pub above : v ≤ number
  pub below : number < v + left
  pub found_so : found number ≡ Some rest
  pub whole : vs ≡ value number ∷ rest
  pub earlier : (u : ℕ) → v ≤ u → u < number → found u ≡ None

unwrapped : (xs ys : List ValId) → Some xs ≡ Some ys → xs ≡ ys
unwrapped xs ys e = ap (λ (o : Option (List ValId)). option_map_or (λ (zs : List ValId). zs) o []) e

first_found : (left v : ℕ) (found : ℕ → Option (List ValId)) (vs : List ValId) → first_from left v found ≡ Some vs → FirstFound left v found vs
first_found zero v found vs h = absurd (cc h)
first_found (suc left) v found vs h = by (found v) refl h (λ later. first_found left (v + 1) found vs later)
  where
    by : (o : Option (List ValId)) → found v ≡ o → found_or v o (first_from left (v + 1) found) ≡ Some vs
        → (first_from left (v + 1) found ≡ Some vs → FirstFound left (v + 1) found vs) → FirstFound (suc left) v found vs
    by (Some rest) e some later =
        record {
          number = v;
          rest = rest;
          above = omega arith;
          below = omega arith;
          found_so = e;
          whole = sym (unwrapped (value v ∷ rest) vs some);
          earlier = λ u above below. absurd (omega (arith, above, below));
        }
    by None e none later =
        let f : FirstFound left (v + 1) found vs = later none in
        record {
          number = f.number;
          rest = f.rest;
          above = let more = f.above in omega (arith, more);
          below = let less = f.below in omega (arith, less);
          found_so = f.found_so;
          whole = f.whole;
          earlier = λ u above below. here u (nat_eq v u) refl above (λ more. f.earlier u more below);
        }
      where
        here : (u : ℕ) (b : Bool) → nat_eq v u ≡ b → v ≤ u → (v + 1 ≤ u → found u ≡ None) → found u ≡ None
        here u true same above rest = ap found (sym (eqb-true v u same)) ∙ e
        here u false other above rest = rest (grind (arith, other, above))

-- the first value with which something is found
from_first : (left v w : ℕ) (found : ℕ → Option (List ValId)) (vs : List ValId) → v ≤ w → w < v + left → ((u : ℕ) → v ≤ u → u < w → found u ≡ None) → found w ≡ Some vs
    → first_from left v found ≡ Some (value w ∷ vs)
from_first zero v w found vs above below none is = absurd (omega (arith, above, below))
from_first (suc left) v w found vs above below none is =
    by (nat_eq v w) refl
    (λ less. from_first left (v + 1) w found vs (omega (arith, less)) (omega (arith, below)) (λ u over under. none u (omega (arith, over)) under) is)
  where
    by : (b : Bool) → nat_eq v w ≡ b → (v < w → first_from left (v + 1) found ≡ Some (value w ∷ vs)) → first_from (suc left) v found ≡ Some (value w ∷ vs)
    by true e later =
        let same : v ≡ w = eqb-true v w e in
        ap (λ (o : Option (List ValId)). found_or v o (first_from left (v + 1) found)) (ap found same ∙ is) ∙ ap (λ (n : ℕ). Some (value n ∷ vs)) same
    by false e later =
        let less : v < w = grind (arith, e, above) in
        ap (λ (o : Option (List ValId)). found_or v o (first_from left (v + 1) found)) (none v (omega arith) less) ∙ later less

-- of no places the empty list, if it passes
abbrev nothing_if : Bool → Option (List ValId)
nothing_if b = if b then Some [] else None

if_none : (b : Bool) → b ≡ false → nothing_if b ≡ None
if_none true e = absurd (cc e)
if_none false e = refl

if_some : (b : Bool) → b ≡ true → nothing_if b ≡ Some []
if_some true e = refl
if_some false e = absurd (cc e)

-- where no list passes there is no first one
pub first_none : (ns : List ℕ) (p : List ValId → Bool) → ((vs : List ValId) → are_values ns vs ≡ true → p vs ≡ false) → first_list ns p ≡ None
first_none [] p none = if_none (p []) (none [] refl)
first_none (n ∷ ns) p none =
    from_none n 0 (λ v. first_list ns (λ vs. p (value v ∷ vs)))
    (λ u above below. first_none ns (λ vs. p (value u ∷ vs)) (λ vs fit. none (value u ∷ vs) (and_from (nat_lt u n) (are_values ns vs) (lt-ltb u n (omega (arith, below))) fit)))

-- and the other way round
pub none_passes : (ns : List ℕ) (p : List ValId → Bool) → first_list ns p ≡ None → (vs : List ValId) → are_values ns vs ≡ true → p vs ≡ false
none_passes [] p h [] fit = by (p []) h
  where
    by : (b : Bool) → nothing_if b ≡ None → b ≡ false
    by true e = absurd (cc e)
    by false e = refl
none_passes [] p h (v ∷ vs) fit = absurd (cc fit)
none_passes (n ∷ ns) p h [] fit = absurd (cc fit)
none_passes (n ∷ ns) p h (v ∷ vs) fit =
    let two = and_parts (nat_lt v.0 n) (are_values ns vs) fit in
    let less : v.0 < n = ltb-true v.0 n two.0 in
    none_passes ns (λ xs. p (v ∷ xs)) (each_none n 0 (λ u. first_list ns (λ xs. p (value u ∷ xs))) h v.0 (omega arith) (omega (arith, less))) vs two.1

-- a list that passes, and that no list that passes comes before
pub record IsFirst (ns : List ℕ) (p : List ValId → Bool) (vs : List ValId) : Type 0 where
  pub values : are_values ns vs ≡ true
  pub passes : p vs ≡ true
  pub least : (other : List ValId) → are_values ns other ≡ true → p other ≡ true → comes_before other vs ≡ false

not_before_nothing : (xs : List ValId) → comes_before xs [] ≡ false
not_before_nothing [] = refl
not_before_nothing (x ∷ xs) = refl

passing_not : (b : Bool) → (b ≡ true → ⊥) → b ≡ false
passing_not true h = absurd (h refl)
passing_not false h = refl

less_before : (u w : ℕ) (b : Bool) → u < w → (nat_lt u w || b) ≡ true
less_before u w b less = ap (λ t. t || b) (lt-ltb u w less)

-- lists that begin with one value
same_head : (n : ℕ) (b : Bool) → (nat_lt n n || (nat_eq n n && b)) ≡ b
same_head n b =
    let lt : nat_lt n n ≡ false = grind arith in
    let eq : nat_eq n n ≡ true = grind arith in
    ap₂ (λ (x y : Bool). x || (y && b)) lt eq

pub first_is : (ns : List ℕ) (p : List ValId → Bool) (vs : List ValId) → IsFirst ns p vs → first_list ns p ≡ Some vs
first_is [] p [] h = if_some (p []) h.passes
first_is [] p (v ∷ vs) h = let fit = h.values in absurd (cc fit)
first_is (n ∷ ns) p [] h = let fit = h.values in absurd (cc fit)
first_is (n ∷ ns) p (v ∷ vs) h =
    let two = and_parts (nat_lt v.0 n) (are_values ns vs) h.values in
    let less : v.0 < n = ltb-true v.0 n two.0 in
    from_first n 0 v.0 (λ u. first_list ns (λ xs. p (value u ∷ xs))) vs (omega arith) (omega (arith, less))
    (λ u above below.
    first_none ns (λ xs. p (value u ∷ xs))
    (λ xs fit.
    passing_not (p (value u ∷ xs))
    (λ goes.
    let clash : true ≡ false =
    sym (less_before u v.0 (nat_eq u v.0 && comes_before xs vs) below)
    ∙ h.least (value u ∷ xs) (and_from (nat_lt u n) (are_values ns xs) (lt-ltb u n (omega (arith, below, less))) fit) goes
    in
    cc clash)))
    (first_is ns (λ xs. p (v ∷ xs)) vs
    (record {
      values = two.1;
      passes = h.passes;
      least = λ other fit goes. sym (same_head v.0 (comes_before other vs)) ∙ h.least (v ∷ other) (and_from (nat_lt v.0 n) (are_values ns other) two.0 fit) goes;
    }))

-- what is found first is such a list
pub first_some : (ns : List ℕ) (p : List ValId → Bool) (vs : List ValId) → first_list ns p ≡ Some vs → IsFirst ns p vs
first_some [] p vs h = by (p []) refl h
  where
    by : (b : Bool) → p [] ≡ b → nothing_if b ≡ Some vs → IsFirst [] p vs
    by true e some =
        subst (λ (xs : List ValId). IsFirst [] p xs) (unwrapped [] vs some) (record { values = refl; passes = e; least = λ other fit goes. not_before_nothing other })
    by false e some = absurd (cc some)
first_some (n ∷ ns) p vs h =
    let f : FirstFound n 0 (λ v. first_list ns (λ xs. p (value v ∷ xs))) vs = first_found n 0 (λ v. first_list ns (λ xs. p (value v ∷ xs))) vs h in
    whole f (first_some ns (λ xs. p (value f.number ∷ xs)) f.rest f.found_so)
  where
    whole : (f : FirstFound n 0 (λ v. first_list ns (λ xs. p (value v ∷ xs))) vs) → IsFirst ns (λ xs. p (value f.number ∷ xs)) f.rest → IsFirst (n ∷ ns) p vs
    whole f rest =
        let below = f.below in
        subst (λ (xs : List ValId). IsFirst (n ∷ ns) p xs) (sym f.whole)
        (record {
          values = and_from (nat_lt f.number n) (are_values ns f.rest) (lt-ltb f.number n (omega (arith, below))) rest.values;
          passes = rest.passes;
          least = least;
        })
      where
        least : (other : List ValId) → are_values (n ∷ ns) other ≡ true → p other ≡ true → comes_before other (value f.number ∷ f.rest) ≡ false
        least [] fit goes = refl
        least (x ∷ xs) fit goes = by (nat_lt x.0 f.number) refl (nat_eq x.0 f.number) refl
          where
            two : (nat_lt x.0 n ≡ true) × (are_values ns xs ≡ true)
            two = and_parts (nat_lt x.0 n) (are_values ns xs) fit

            by : (b : Bool) → nat_lt x.0 f.number ≡ b → (c : Bool) → nat_eq x.0 f.number ≡ c → (b || (c && comes_before xs f.rest)) ≡ false
            by true e c d =
                let clash : true ≡ false = sym goes ∙ none_passes ns (λ ys. p (x ∷ ys)) (f.earlier x.0 (omega arith) (ltb-true x.0 f.number e)) xs two.1 in
                absurd (cc clash)
            by false e true d = rest.least xs two.1 (subst (λ (k : ℕ). p (value k ∷ xs) ≡ true) (eqb-true x.0 f.number d) goes)
            by false e false d = refl
