-- Which literals are among true ones, by how often their booleans stand there.
use Rattle.std.proofs.Common.{◌≡◌, ℕ, ◌+◌, Bool, true, false, nat_eq, List, [], ◌∷◌, map, count_by, None, Some, ◌<◌, if◌then◌else◌, refl, sym, ap, ◌∙◌, arith}
use Rattle.std.specs.List.{list_all}
use Rattle.std.proofs.Math.ListN.{get_or-map}
use Rattle.std.proofs.lemmas.Bool.Decides.{nat_tests}
use Rattle.lv_base.specs.declared.ids.Lit.{Lit}
use Rattle.lv_clauses.specs.Marks.{is_marked, mark_is}
use Rattle.lv_clauses.specs.Noted.{is_of}
use Rattle.lv_clauses.proofs.LiteralLemmas.{and_left, and_right}
use Rattle.lv_ltms.specs.System.{in_list}
use Rattle.lv_ltms.proofs.CountLemmas.{count_yes, count_no}
use Rattle.lv_labels.specs.Claims.{is_positive, count_at, mark_of}

cond_false : (b : Bool) → mark_is (if b then None else Some true) false ≡ false
cond_false true = refl
cond_false false = refl

-- a boolean marked for what it is claimed says nothing of its false literal
false_unmarked : (n : ℕ) → mark_is (mark_of n) false ≡ false
false_unmarked n = cond_false (nat_eq n 0)

pub mark_more : (n : ℕ) → 0 < n → mark_of n ≡ Some true
mark_more n more = let e : nat_eq n 0 ≡ false = grind (arith, nat_tests) in ap (λ (b : Bool). if b then None else Some true) e

pub claimed_among : (ls : List Lit) → list_all is_positive ls ≡ true → (l : Lit) → mark_is (mark_of (count_by (is_of l.var.0) ls)) l.sign ≡ in_list ls l
claimed_among [] positive l = refl
claimed_among (k ∷ ks) positive l =
    let here : k.sign ≡ true = and_left k.sign (list_all is_positive ks) positive in
    by_boolean (nat_eq k.var.0 l.var.0) refl l.sign refl here (claimed_among ks (and_right k.sign (list_all is_positive ks) positive) l)
  where
    by_boolean : (b : Bool) → nat_eq k.var.0 l.var.0 ≡ b → (s : Bool) → l.sign ≡ s → k.sign ≡ true → mark_is (mark_of (count_by (is_of l.var.0) ks)) l.sign ≡ in_list ks l
        → mark_is (mark_of (count_by (is_of l.var.0) (k ∷ ks))) l.sign ≡ in_list (k ∷ ks) l
    by_boolean true e true s here ih =
        rw (count_yes (is_of l.var.0) k ks e, e, s, here, mark_more (1 + count_by (is_of l.var.0) ks) (omega arith)) refl
    by_boolean true e false s here ih =
        let rest : in_list ks l ≡ false = sym ih ∙ ap (mark_is (mark_of (count_by (is_of l.var.0) ks))) s ∙ false_unmarked (count_by (is_of l.var.0) ks) in
        rw (s, false_unmarked (count_by (is_of l.var.0) (k ∷ ks)), e, here, rest) refl
    by_boolean false e s f here ih = rw (count_no (is_of l.var.0) k ks e, e) ih

-- what is marked for claims, where the counts are these
pub marked_among : (counts : List ℕ) (ls : List Lit) → ((b : ℕ) → count_at counts b ≡ count_by (is_of b) ls) → list_all is_positive ls ≡ true
    → (l : Lit) → is_marked (map mark_of counts) l ≡ in_list ls l
marked_among counts ls same positive l =
    ap (λ o. mark_is o l.sign) (get_or-map mark_of counts l.var.0 0) ∙ ap (λ n. mark_is (mark_of n) l.sign) (same l.var.0) ∙ claimed_among ls positive l

-- only true literals are marked
pub positive_marks : (counts : List ℕ) (l : Lit) → is_marked (map mark_of counts) l ≡ true → l.sign ≡ true
positive_marks counts l e = by_sign l.sign (sym (ap (λ o. mark_is o l.sign) (get_or-map mark_of counts l.var.0 0)) ∙ e)
  where
    by_sign : (s : Bool) → mark_is (mark_of (count_at counts l.var.0)) s ≡ true → s ≡ true
    by_sign true f = refl
    by_sign false f = let never = false_unmarked (count_at counts l.var.0) in absurd (cc)
