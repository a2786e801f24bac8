-- A clause is true of everything exactly where it is so without its repeats.
use Rattle.std.proofs.Common.{◌≡◌, ℕ, Bool, true, false, not, nat_eq, ◌&&◌, ◌||◌, List, [], ◌∷◌, ◌++◌, map, filter, if◌then◌else◌, append_assoc, append-nil, refl, sym, ap, ap₂, ◌∙◌, subst, arith}
use Rattle.std.specs.List.{list_any}
use Rattle.std.proofs.lemmas.Bool.{and_parts, or_parts}
use Rattle.std.proofs.lemmas.Bool.Decides.{nat_tests}
use borrow.Author.Tests.{eqb-true}
use Rattle.lv_base.specs.declared.ids.Lit.{Lit}
use Rattle.lv_clauses.specs.Literals.{neg, same_truth, same_var}
use Rattle.lv_compile.specs.FormulaClauses.{Clauses}
use Rattle.lv_compile.specs.Cleaning.{same_literal, is_tautology, unless_tautology, without_repeats, cleaned}

same_signs : (s t : Bool) → same_truth s t ≡ true → s ≡ t
same_signs true true e = refl
same_signs true false e = absurd (cc)
same_signs false true e = absurd (cc)
same_signs false false e = refl

-- literals that are alike are one
pub one_literal : (l m : Lit) → same_literal l m ≡ true → l ≡ m
one_literal l m e =
    let two = and_parts (same_var l m) (same_truth l.sign m.sign) e in
    ap₂ (λ (n : ℕ) (s : Bool). record { var = record { 0 = n }; sign = s }) (eqb-true l.var.0 m.var.0 two.0) (same_signs l.sign m.sign two.1)

same_number : (n : ℕ) → nat_eq n n ≡ true
same_number n = grind (arith, nat_tests)

itself : (l : Lit) → same_literal l l ≡ true
itself l = ap₂ (λ (a b : Bool). a && b) (same_number l.var.0) (sign l.sign)
  where
    sign : (s : Bool) → same_truth s s ≡ true
    sign true = refl
    sign false = refl

-- a literal isn't its negation
unlike : (l : Lit) → same_literal l (neg l) ≡ false
unlike l = ap₂ (λ (a b : Bool). a && b) (same_number l.var.0) (sign l.sign)
  where
    sign : (s : Bool) → same_truth s (not s) ≡ false
    sign true = refl
    sign false = refl

negated_twice : (l : Lit) → neg (neg l) ≡ l
negated_twice l = ap (λ (s : Bool). record { var = l.var; sign = s }) (sign l.sign)
  where
    sign : (s : Bool) → not (not s) ≡ s
    sign true = refl
    sign false = refl

abbrev others : Lit → List Lit → List Lit
others l ms = filter (λ (m : Lit). not (same_literal l m)) ms

-- what isn't like l stands among the others exactly where it stands among all
any_other : (k l : Lit) → same_literal k l ≡ false → (ms : List Lit) → list_any (same_literal k) (others l ms) ≡ list_any (same_literal k) ms
any_other k l apart [] = refl
any_other k l apart (m ∷ ms) = by (same_literal l m) refl (any_other k l apart ms)
  where
    by : (b : Bool) → same_literal l m ≡ b → list_any (same_literal k) (others l ms) ≡ list_any (same_literal k) ms → list_any (same_literal k) (others l (m ∷ ms)) ≡ (same_literal k m || list_any (same_literal k) ms)
    by true is rest =
        let off : same_literal k m ≡ false = subst (λ (n : Lit). same_literal k n ≡ false) (one_literal l m is) apart in
        rw (is, off) rest
    by false is rest = rw (is) (ap (λ (b : Bool). same_literal k m || b) rest)

-- each literal stands in a clause without repeats exactly where it stands in the clause
any_without : (k : Lit) (ls : List Lit) → list_any (same_literal k) (without_repeats ls) ≡ list_any (same_literal k) ls
any_without k [] = refl
any_without k (l ∷ ls) = by (same_literal k l) refl (any_without k ls)
  where
    by : (b : Bool) → same_literal k l ≡ b → list_any (same_literal k) (without_repeats ls) ≡ list_any (same_literal k) ls → (same_literal k l || list_any (same_literal k) (others l (without_repeats ls))) ≡ (same_literal k l || list_any (same_literal k) ls)
    by true is rest = rw (is) refl
    by false is rest = ap (λ (b : Bool). same_literal k l || b) (any_other k l is (without_repeats ls) ∙ rest)

-- where the negation of l doesn't stand there, l makes no difference
others_tautology : (l : Lit) (ms : List Lit) → list_any (same_literal (neg l)) ms ≡ false → is_tautology (others l ms) ≡ is_tautology ms
others_tautology l [] none = refl
others_tautology l (m ∷ ms) none = by (same_literal l m) refl (others_tautology l ms)
  where
    two : (same_literal (neg l) m ≡ false) × (list_any (same_literal (neg l)) ms ≡ false)
    two = or_parts (same_literal (neg l) m) (list_any (same_literal (neg l)) ms) none

    -- the negation of m isn't like l, as m would be the negation of l
    apart : (b : Bool) → same_literal (neg m) l ≡ b → b ≡ false
    apart false is = refl
    apart true is =
        let same : neg l ≡ m = sym (ap neg (one_literal (neg m) l is)) ∙ negated_twice m in
        let alike : same_literal (neg l) m ≡ true = subst (λ (n : Lit). same_literal (neg l) n ≡ true) same (itself (neg l)) in
        sym alike ∙ two.0

    by : (b : Bool) → same_literal l m ≡ b → (list_any (same_literal (neg l)) ms ≡ false → is_tautology (others l ms) ≡ is_tautology ms)
        → is_tautology (others l (m ∷ ms)) ≡ (list_any (same_literal (neg m)) ms || is_tautology ms)
    by true is rest =
        let none_of_m : list_any (same_literal (neg m)) ms ≡ false = subst (λ (n : Lit). list_any (same_literal (neg n)) ms ≡ false) (one_literal l m is) two.1 in
        rw (is, none_of_m) (rest two.1)
    by false is rest =
        rw (is) (ap₂ (λ (a b : Bool). a || b) (any_other (neg m) l (apart (same_literal (neg m) l) refl) ms) (rest two.1))

pub tautology_without : (ls : List Lit) → is_tautology (without_repeats ls) ≡ is_tautology ls
tautology_without [] = refl
tautology_without (l ∷ ls) = by (list_any (same_literal (neg l)) ls) refl (tautology_without ls)
  where
    -- the negation of l isn't like l
    apart : same_literal (neg l) l ≡ false
    apart = subst (λ (n : Lit). same_literal (neg l) n ≡ false) (negated_twice l) (unlike (neg l))

    stands : list_any (same_literal (neg l)) (others l (without_repeats ls)) ≡ list_any (same_literal (neg l)) ls
    stands = any_other (neg l) l apart (without_repeats ls) ∙ any_without (neg l) ls

    by : (b : Bool) → list_any (same_literal (neg l)) ls ≡ b → is_tautology (without_repeats ls) ≡ is_tautology ls
        → (list_any (same_literal (neg l)) (others l (without_repeats ls)) || is_tautology (others l (without_repeats ls))) ≡ (list_any (same_literal (neg l)) ls || is_tautology ls)
    by true is rest = rw (stands, is) refl
    by false is rest =
        rw (stands, is) (others_tautology l (without_repeats ls) (any_without (neg l) ls ∙ is) ∙ rest)

-- so that it may be looked for when the repeats are gone
pub cleaned_more : (out rest whole : Clauses) (c : List Lit) → out ++ cleaned (c ∷ rest) ≡ whole → (out ++ unless_tautology (without_repeats c)) ++ cleaned rest ≡ whole
cleaned_more out rest whole c h = by (is_tautology c) refl
  where
    by : (b : Bool) → is_tautology c ≡ b → (out ++ unless_tautology (without_repeats c)) ++ cleaned rest ≡ whole
    by true is =
        let gone : is_tautology (without_repeats c) ≡ true = tautology_without c ∙ is in
        rw (gone, append-nil) (ap (λ (b : Bool). out ++ map without_repeats (if not b then c ∷ filter (λ (d : List Lit). not (is_tautology d)) rest else filter (λ (d : List Lit). not (is_tautology d)) rest)) (sym is) ∙ h)
    by false is =
        let stays : is_tautology (without_repeats c) ≡ false = tautology_without c ∙ is in
        rw (stays) (append_assoc out (without_repeats c ∷ []) (cleaned rest)
        ∙ ap (λ (b : Bool). out ++ map without_repeats (if not b then c ∷ filter (λ (d : List Lit). not (is_tautology d)) rest else filter (λ (d : List Lit). not (is_tautology d)) rest)) (sym is) ∙ h)
