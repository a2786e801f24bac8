-- What one assumption more makes of marks, and of the literals noted.
use Rattle.std.proofs.Common.{◌≡◌, ℕ, ◌<◌, Bool, true, false, not, ◌||◌, ◌&&◌, List, [], ◌∷◌, ◌++◌, length, get_or, Option, Some, None, is_none, refl, sym, subst, ap, ap₂, ◌∙◌, arith, inl, inr, set}
use Rattle.std.proofs.lemmas.List.{length-append, length-set, get_or-set_same, set-set, set-get_or}
use Rattle.std.proofs.lemmas.Bool.Decides.{nat_tests}
use Rattle.lv_base.specs.declared.ids.Lit.{Lit}
use Rattle.lv_clauses.specs.Literals.{neg, in_range}
use Rattle.lv_clauses.specs.Marks.{Marks, is_marked, is_free, marked, mark_is}
use Rattle.lv_clauses.proofs.MarkLemmas.{is_marked-marked_free, same_truth-self}
use Rattle.lv_ltms.specs.Trail.{same_lit}
use Rattle.lv_ltms.specs.System.{System}
use Rattle.lv_ltms.proofs.TrailLemmas.{same_lit-equal}
use Rattle.lv_ltms.proofs.LabelLemmas.{free_not_has, not_free_cases}
use Rattle.lv_labels.specs.Assuming.{AreTrue, Joins, IsOver, none, more}

or_false : (b : Bool) → (b || false) ≡ b
or_false true = refl
or_false false = refl

or_true : (a b : Bool) → b ≡ true → (b ≡ true → a ≡ true) → a ≡ (a || b)
or_true true b e f = refl
or_true false b e f = absurd (cc (f e))

pub or_assoc : (a b d : Bool) → ((a || b) || d) ≡ (a || (b || d))
or_assoc true b d = refl
or_assoc false b d = refl

within_range : (bools n : ℕ) (l : Lit) → in_range bools l ≡ true → n ≡ bools → l.var.0 < n
within_range bools n l e same = grind (arith, nat_tests)

pub range_within : (bools : ℕ) (l : Lit) → l.var.0 < bools → in_range bools l ≡ true
range_within bools l e = grind (arith, nat_tests)

-- a literal whose boolean is unmarked joins
pub joins_free : (marks : Marks) (l : Lit) → l.var.0 < length marks → is_free marks l ≡ true → Joins marks l (marked marks l)
joins_free marks l within free =
    record { marks = λ m. is_marked-marked_free marks l m within (free_not_has marks l free) (free_not_has marks (neg l) free) }

-- a true literal whose boolean is marked is there
pub joins_held : (s : System) (l : Lit) → AreTrue s → l.sign ≡ true → is_free s.assumed l ≡ false → Joins s.assumed l s.assumed
joins_held s l positive sign held =
    record { marks = λ m. by_same m (same_lit l m) refl }
  where
    there : is_marked s.assumed l ≡ true
    there = elim (not_free_cases s.assumed l held) [
      | inl here ↦ here
      | inr turned ↦ let f : not l.sign ≡ true = positive.positive (neg l) turned in absurd (cc (ap not sign, f))
    ]

    by_same : (m : Lit) (b : Bool) → same_lit l m ≡ b → is_marked s.assumed m ≡ (is_marked s.assumed m || same_lit l m)
    by_same m true e = let here : is_marked s.assumed m ≡ true = subst (λ k. is_marked s.assumed k ≡ true) (same_lit-equal l m e) there in rw (here) refl
    by_same m false e = rw (e) (sym (or_false (is_marked s.assumed m)))

-- the marks stay true ones
pub true_more : (s t : System) (l : Lit) → AreTrue s → l.sign ≡ true → l.var.0 < s.bools → is_free s.assumed l ≡ true → t.assumed ≡ marked s.assumed l → t.bools ≡ s.bools → AreTrue t
true_more s t l positive sign within free changed bools =
    record {
      positive = λ m e. by_old m (is_marked s.assumed m) refl (sym (joins.marks m) ∙ ap (λ (k : Marks). is_marked k m) (sym changed) ∙ e);
      whole = ap (λ (k : Marks). length k) changed ∙ length-set s.assumed l.var.0 (Some l.sign) ∙ positive.whole ∙ sym bools;
    }
  where
    joins : Joins s.assumed l (marked s.assumed l)
    joins = joins_free s.assumed l (subst (λ (n : ℕ). l.var.0 < n) (sym positive.whole) within) free

    by_old : (m : Lit) (b : Bool) → is_marked s.assumed m ≡ b → (is_marked s.assumed m || same_lit l m) ≡ true → m.sign ≡ true
    by_old m true e f = positive.positive m e
    by_old m false e f =
        let same : same_lit l m ≡ true = sym (ap (λ (b : Bool). b || same_lit l m) e) ∙ f in
        ap (λ (k : Lit). k.sign) (sym (same_lit-equal l m same)) ∙ sign

-- one more is noted
pub over_more : (base : Marks) (added new : List Lit) (s : System) (top : Marks) (l : Lit) → length s.assumed ≡ s.bools → l.var.0 < s.bools → is_free s.assumed l ≡ true
    → top ≡ marked s.assumed l → new ≡ added ++ l ∷ [] → IsOver base added s.assumed → IsOver base new top
over_more base added new s top l whole within free changed pushed over =
    more added s.assumed l over (range_within (length s.assumed) l (subst (λ (n : ℕ). l.var.0 < n) (sym whole) within)) free pushed changed

-- a boolean in range that can't be assumed is marked
pub held : (s : System) (l : Lit) → l.var.0 < s.bools → (in_range s.bools l && is_free s.assumed l) ≡ false → is_free s.assumed l ≡ false
held s l within e = let inside = range_within s.bools l within in sym (ap (λ (b : Bool). b && is_free s.assumed l) inside) ∙ e

snoc_parts : (xs ys : List Lit) (x y : Lit) → xs ++ x ∷ [] ≡ ys ++ y ∷ [] → (xs ≡ ys) × (x ≡ y)
snoc_parts [] [] x y e = (refl, cc)
snoc_parts [] (b ∷ ys) x y e = absurd (omega (arith, ap (λ (zs : List Lit). length zs) e, length-append ys (y ∷ [])))
snoc_parts (a ∷ xs) [] x y e = absurd (omega (arith, ap (λ (zs : List Lit). length zs) e, length-append xs (x ∷ [])))
snoc_parts (a ∷ xs) (b ∷ ys) x y e =
    let heads : a ≡ b = cc in
    let tails : xs ++ x ∷ [] ≡ ys ++ y ∷ [] = cc in
    let ih = snoc_parts xs ys x y tails in
    (ap₂ (λ (z : Lit) (zs : List Lit). z ∷ zs) heads ih.0, ih.1)

none_is : (o : Option Bool) → is_none o ≡ true → o ≡ None
none_is None e = refl
none_is (Some b) e = absurd (cc)

-- the marks below the last that was noted, of which it is a mark
pub record IsLast (base : Marks) (before : List Lit) (l : Lit) (top : Marks) : Type 0 where
  pub below : IsOver base before (set top l.var.0 None)
  pub marked : is_marked top l ≡ true

marked_back : (marks top : Marks) (l : Lit) → is_free marks l ≡ true → top ≡ marked marks l → set top l.var.0 None ≡ marks
marked_back marks top l free e =
    ap (λ (t : Marks). set t l.var.0 None) e
    ∙ set-set marks l.var.0 (Some l.sign) None
    ∙ ap (λ (o : Option Bool). set marks l.var.0 o) (sym (none_is (get_or marks l.var.0 None) free))
    ∙ set-get_or marks l.var.0 None

marked_there : (marks top : Marks) (l : Lit) → in_range (length marks) l ≡ true → top ≡ marked marks l → is_marked top l ≡ true
marked_there marks top l inside e =
    ap (λ (t : Marks). is_marked t l) e
    ∙ ap (λ (o : Option Bool). mark_is o l.sign) (get_or-set_same marks l.var.0 (Some l.sign) None (within_range (length marks) (length marks) l inside refl))
    ∙ same_truth-self l.sign

over_cut : {base : Marks} {added : List Lit} {top : Marks} → (before : List Lit) (l : Lit) → IsOver base added top → added ≡ before ++ l ∷ [] → IsLast base before l top
over_cut before l none e = absurd (omega (arith, ap (λ (zs : List Lit). length zs) e, length-append before (l ∷ [])))
over_cut {base} {added} {top} before l (more front below k over inside free pushed changed) e =
    let parts = snoc_parts front before k l (sym pushed ∙ e) in
    subst (λ (j : Lit). IsLast base before j top) parts.1
    (record {
      below = subst (λ (ms : Marks). IsOver base before ms) (sym (marked_back below top k free changed)) (subst (λ (ls : List Lit). IsOver base ls below) parts.0 over);
      marked = marked_there below top k inside changed;
    })

pub over_last : (base : Marks) (added before : List Lit) (l : Lit) (top : Marks) → IsOver base added top → added ≡ before ++ l ∷ [] → IsLast base before l top
over_last base added before l top over e = over_cut before l over e

over_end : {base : Marks} {added : List Lit} {top : Marks} → IsOver base added top → added ≡ [] → top ≡ base
over_end none e = refl
over_end (more front below k over inside free pushed changed) e =
    absurd (omega (arith, ap (λ (zs : List Lit). length zs) (sym pushed ∙ e), length-append front (k ∷ [])))

-- nothing is left to take back
pub over_done : (base : Marks) (added : List Lit) (top : Marks) → IsOver base added top → added ≡ [] → top ≡ base
over_done base added top over e = over_end over e

pub over_nothing : (base : Marks) (added : List Lit) → added ≡ [] → IsOver base added base
over_nothing base added e = subst (λ (ls : List Lit). IsOver base ls base) (sym e) none
