-- What is found in a list, and what a clause that is there has.
use Rattle.std.proofs.Common.{◌≡◌, ◌≢◌, Bool, true, false, not, List, [], ◌∷◌, cond, find, Option, Some, None, IsSome, IfSome, IfNone, Result, Ok, Err, OnErr, refl, sym, ap, subst, ◌∙◌, inl, inr, Contains}
use Rattle.lv_base.specs.declared.ids.Lit.{Lit}
use Rattle.lv_clauses.specs.Literals.{neg}
use Rattle.lv_clauses.specs.Marks.{Marks, is_marked}
use Rattle.lv_clauses.proofs.LiteralLemmas.{Contains-head, Contains-tail, Contains-cases, Contains-nil, and_left, and_right, and_both}
use Rattle.lv_ltms.specs.Trail.{same_lit}
use Rattle.lv_ltms.specs.Visiting.{is_open_but}
use Rattle.lv_ltms.proofs.BoolLemmas.{from_not, not_true}
use Rattle.lv_ltms.proofs.CountLemmas.{same_lit-self}
use Rattle.lv_ltms.proofs.TrailLemmas.{same_lit-equal}

-- what is found passes and is of the list; where nothing is found nothing passes
pub found_passes : {X : Type 0} (p : X → Bool) (xs : List X) (x : X) → find p xs ≡ Some x → (p x ≡ true) × Contains xs x
found_passes p [] x e = absurd (cc)
found_passes {X} p (y ∷ ys) x e = by_value (p y) refl (λ (f : find p ys ≡ Some x). found_passes p ys x f)
  where
    by_value : (b : Bool) → p y ≡ b → (find p ys ≡ Some x → (p x ≡ true) × Contains ys x) → (p x ≡ true) × Contains (y ∷ ys) x
    by_value true q later =
        let same : y ≡ x = some_is (sym (ap (λ (b : Bool). cond b (Some y) (find p ys)) q) ∙ e) in
        (ap p (sym same) ∙ q, subst (Contains (y ∷ ys)) same (Contains-head y ys))
      where
        some_is : {a b : X} → Some a ≡ Some b → a ≡ b
        some_is f = cc
    by_value false q later =
        let rest = later (sym (ap (λ (b : Bool). cond b (Some y) (find p ys)) q) ∙ e) in
        (rest.0, Contains-tail y x ys rest.1)

pub none_passes : {X : Type 0} (p : X → Bool) (xs : List X) (x : X) → find p xs ≡ None → Contains xs x → p x ≡ true → ⊥
none_passes p [] x e h q = Contains-nil x h
none_passes {X} p (y ∷ ys) x e h q = by_value (p y) refl (λ (f : find p ys ≡ None) (rest : Contains ys x). none_passes p ys x f rest q)
  where
    by_value : (b : Bool) → p y ≡ b → (find p ys ≡ None → Contains ys x → ⊥) → ⊥
    by_value true r later = absurd (cc (sym (ap (λ (b : Bool). cond b (Some y) (find p ys)) r) ∙ e))
    by_value false r later = elim (Contains-cases y x ys h) [
      | inl same ↦ cc (ap p same, r, q)
      | inr rest ↦ later (sym (ap (λ (b : Bool). cond b (Some y) (find p ys)) r) ∙ e) rest
    ]

pub if_some : {X : Type 0} (P : X → Type 0) (o : Option X) (x : X) → o ≡ Some x → P x → IfSome o P
if_some P None x e h = absurd (cc e)
if_some {X} P (Some y) x e h = subst P (sym (same e)) h
  where
    same : {a b : X} → Some a ≡ Some b → a ≡ b
    same f = cc

pub from_some : {X : Type 0} (P : X → Type 0) (o : Option X) (x : X) → o ≡ Some x → IfSome o P → P x
from_some P None x e h = absurd (cc e)
from_some {X} P (Some y) x e h = subst P (same e) h
  where
    same : {a b : X} → Some a ≡ Some b → a ≡ b
    same f = cc

pub is_there : {X : Type 0} (o : Option X) (x : X) → o ≡ Some x → IsSome o
is_there o x e = subst IsSome (sym e) refl

pub some_is : {X : Type 0} {a b : X} → Some a ≡ Some b → a ≡ b
some_is e = cc

-- a literal found that isn't this one isn't false
pub record IsFound (c : List Lit) (but : Lit) (marks : Marks) (l : Lit) : Type 0 where
  pub member : Contains c l
  pub differs : l ≢ but
  pub open_still : is_marked marks (neg l) ≡ false

pub open_found : (c : List Lit) (but : Lit) (marks : Marks) (l : Lit) → find (is_open_but but marks) c ≡ Some l → IsFound c but marks l
open_found c but marks l e =
    let found = found_passes (is_open_but but marks) c l e in
    record {
      member = found.1;
      differs = λ same. cc (from_not (same_lit l but) (and_left (not (same_lit l but)) (not (is_marked marks (neg l))) found.0), ap (λ k. same_lit k but) same, same_lit-self but);
      open_still = from_not (is_marked marks (neg l)) (and_right (not (same_lit l but)) (not (is_marked marks (neg l))) found.0);
    }

-- where none is found, all others are false
pub none_open : (c : List Lit) (but : Lit) (marks : Marks) → find (is_open_but but marks) c ≡ None → (m : Lit) → Contains c m → m ≢ but → is_marked marks (neg m) ≡ true
none_open c but marks e m h differs = by_value (is_marked marks (neg m)) refl
  where
    apart : same_lit m but ≡ false
    apart = not_true (same_lit m but) (λ f. differs (same_lit-equal m but f))

    by_value : (b : Bool) → is_marked marks (neg m) ≡ b → is_marked marks (neg m) ≡ true
    by_value true f = f
    by_value false f = absurd (none_passes (is_open_but but marks) c m e h (and_both (not (same_lit m but)) (not (is_marked marks (neg m))) (ap not apart) (ap not f)))

pub if_none : {X : Type 0} {P : Type 0} (o : Option X) → (o ≡ None → P) → IfNone o P
if_none None h = h refl
if_none (Some x) h = tt

pub on_err : {T E : Type 0} {P : Type 0} (r : Result T E) → P → OnErr r P
on_err (Ok x) h = tt
on_err (Err e) h = h
