-- Literals and what values make of them.
use Rattle.std.proofs.Common.{◌≡◌, ◌≢◌, ◌⊎◌, ℕ, suc, zero, Bool, true, false, not, ◌&&◌, ◌||◌, List, [], ◌∷◌, Some, refl, sym, ap, ap₂, ◌∙◌, arith, inl, inr, Contains}
use Rattle.std.specs.List.{list_any, list_all}
use Rattle.std.proofs.lemmas.Bool.{cases_eq}
use Rattle.lv_base.specs.declared.ids.Lit.{Lit}
use Rattle.lv_clauses.specs.Literals.{neg, same_truth, lit_holds, clause_holds}
use Rattle.lv_clauses.specs.ClauseMap.{Slots, clause_at, slot_holds, satisfies}
use Rattle.slab.proofs.SlabLemmas.{Contains-cons, Contains-cons_cases}

pub not_not : (b : Bool) → not (not b) ≡ b
not_not true = refl
not_not false = refl

pub lit_of : (l m : Lit) → l.var.0 ≡ m.var.0 → l.sign ≡ m.sign → l ≡ m
lit_of l m e f = ap₂ (λ (v : ℕ) (s : Bool). record { var = record { 0 = v }; sign = s }) e f

pub neg_neg : (l : Lit) → neg (neg l) ≡ l
neg_neg l = lit_of (neg (neg l)) l refl (not_not l.sign)

pub neg_other : (l : Lit) → neg l ≢ l
neg_other l e = by_sign l.sign (ap (λ (m : Lit). m.sign) e)
  where
    by_sign : (s : Bool) → not s ≡ s → ⊥
    by_sign true e = (cc)
    by_sign false e = (cc)

-- of two literals of one boolean one is the other or its negation
pub same_or_neg : (l m : Lit) → l.var.0 ≡ m.var.0 → (l ≡ m) ⊎ (l ≡ neg m)
same_or_neg l m e = by_signs l.sign m.sign refl refl
  where
    by_signs : (s t : Bool) → l.sign ≡ s → m.sign ≡ t → (l ≡ m) ⊎ (l ≡ neg m)
    by_signs true true p q = inl (lit_of l m e (cc))
    by_signs false false p q = inl (lit_of l m e (cc))
    by_signs true false p q = inr (lit_of l (neg m) e (p ∙ sym (ap not q)))
    by_signs false true p q = inr (lit_of l (neg m) e (p ∙ sym (ap not q)))

-- two literals are equal or they aren't
pub lit_cases : (l m : Lit) → (l ≡ m) ⊎ (l ≢ m)
lit_cases l m = elim (cases_eq l.var.0 m.var.0) [
  | inl e ↦ elim (same_or_neg l m e) [ inl same ↦ inl same | inr other ↦ inr (λ (same : l ≡ m). neg_other m (sym other ∙ same)) ]
  | inr differs ↦ inr (λ (same : l ≡ m). differs (ap (λ (k : Lit). k.var.0) same))
]

truth_of_not : (a b : Bool) → same_truth a b ≡ true → same_truth a (not b) ≡ true → ⊥
truth_of_not true true p q = (cc)
truth_of_not true false p q = (cc)
truth_of_not false true p q = (cc)
truth_of_not false false p q = (cc)

-- values don't make a literal and its negation true
pub lit_or_neg : (values : List Bool) (l : Lit) → lit_holds values l ≡ true → lit_holds values (neg l) ≡ true → ⊥
lit_or_neg values l p q = truth_of_not _ l.sign p q

pub Contains-nil : {X : Type 0} (x : X) → Contains [] x → ⊥
Contains-nil x h = absurd (omega (arith, h.1))

pub Contains-head : {X : Type 0} (x : X) (xs : List X) → Contains (x ∷ xs) x
Contains-head x xs = (0, omega arith, refl)

pub and_left : (b d : Bool) → (b && d) ≡ true → b ≡ true
and_left true d q = refl
and_left false d q = q

pub and_right : (b d : Bool) → (b && d) ≡ true → d ≡ true
and_right true d q = q
and_right false d q = absurd (cc)

pub and_both : (b d : Bool) → b ≡ true → d ≡ true → (b && d) ≡ true
and_both true d p q = q
and_both false d p q = absurd (cc)

pub or_right : (b d : Bool) → d ≡ true → (b || d) ≡ true
or_right true d q = refl
or_right false d q = q

-- a list of which one passes has one that does
pub any_member : {X : Type 0} (p : X → Bool) (xs : List X) → list_any p xs ≡ true → (x : X) × Contains xs x × (p x ≡ true)
any_member p [] e = absurd (cc)
any_member {X} p (x ∷ xs) e = by_value (p x) refl (λ more. any_member p xs more)
  where
    by_value : (b : Bool) → p x ≡ b → (list_any p xs ≡ true → (y : X) × Contains xs y × (p y ≡ true)) → (y : X) × Contains (x ∷ xs) y × (p y ≡ true)
    by_value true h rest = (x, Contains-head x xs, h)
    by_value false h rest =
        let later = rest (rw h at e) in
        (later.0, Contains-cons x later.0 xs later.1, later.2)

pub member_any : {X : Type 0} (p : X → Bool) (xs : List X) (x : X) → Contains xs x → p x ≡ true → list_any p xs ≡ true
member_any p [] x h e = absurd (Contains-nil x h)
member_any p (y ∷ ys) x h e = elim (Contains-cons_cases y x ys h) [
  | inl same ↦ rw (same, e) refl
  | inr rest ↦ or_right (p y) (list_any p ys) (member_any p ys x rest e)
]

pub all_member : {X : Type 0} (p : X → Bool) (xs : List X) (x : X) → list_all p xs ≡ true → Contains xs x → p x ≡ true
all_member p [] x e h = absurd (Contains-nil x h)
all_member p (y ∷ ys) x e h = elim (Contains-cons_cases y x ys h) [
  | inl same ↦ ap p (sym same) ∙ and_left (p y) (list_all p ys) e
  | inr rest ↦ all_member p ys x (and_right (p y) (list_all p ys) e) rest
]

-- values that satisfy the clauses make each clause present true
pub present_holds : (values : List Bool) (slots : Slots) (id : ℕ) (c : List Lit) → satisfies values slots ≡ true → clause_at slots id ≡ Some c → clause_holds values c ≡ true
present_holds values [] id c e h = absurd (cc)
present_holds values (s ∷ ss) zero c e h = sym (ap (slot_holds values) h) ∙ and_left (slot_holds values s) (satisfies values ss) e
present_holds values (s ∷ ss) (suc id) c e h = present_holds values ss id c (and_right (slot_holds values s) (satisfies values ss) e) h

pub Contains-tail : {X : Type 0} (head x : X) (rest : List X) → Contains rest x → Contains (head ∷ rest) x
Contains-tail head x rest h = Contains-cons head x rest h

pub Contains-cases : {X : Type 0} (head x : X) (rest : List X) → Contains (head ∷ rest) x → (head ≡ x) ⊎ Contains rest x
Contains-cases head x rest h = Contains-cons_cases head x rest h
