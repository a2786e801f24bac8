-- The literals that are marked are distinct and just those, and all assumptions are a core where there is a contradiction.
use Rattle.std.proofs.Common.{◌≡◌, ◌⊎◌, ℕ, ◌+◌, ◌<◌, suc, zero, Bool, true, not, ◌&&◌, ◌||◌, nat_eq, List, [], ◌∷◌, get_or, Some, None, refl, sym, ap, ap₂, subst, ◌∙◌, arith, inl, inr}
use Rattle.std.specs.List.{list_all}
use Rattle.std.proofs.lemmas.Bool.Decides.{nat_tests}
use Rattle.lv_base.specs.declared.ids.Lit.{Lit}
use Rattle.lv_clauses.specs.Literals.{neg, same_truth, same_var, distinct}
use Rattle.lv_clauses.specs.ClauseMap.{Slots}
use Rattle.lv_clauses.specs.Closure.{InClosure, IsContradictory, assumption, unit, both_signs, empty_clause}
use Rattle.lv_clauses.specs.Marks.{Marks, is_marked, mark_is}
use Rattle.lv_clauses.proofs.LiteralLemmas.{and_right, or_right}
use Rattle.lv_ltms.specs.Trail.{same_lit}
use Rattle.lv_ltms.specs.Marked.{literals_from}
use Rattle.lv_ltms.specs.System.{System, IsCore, IsRefuted, in_list}
use Rattle.lv_ltms.proofs.TrailLemmas.{same_lit-equal, or_cases}

-- more assumptions derive more
pub closure_grows : (clauses : Slots) (a b : Lit → Bool) → ((l : Lit) → a l ≡ true → b l ≡ true) → (l : Lit) → InClosure clauses a l → InClosure clauses b l
closure_grows clauses a b more l (assumption e) = assumption (more l e)
closure_grows clauses a b more l (unit id c at in_clause others) = unit id c at in_clause (λ m m_in differs. closure_grows clauses a b more (neg m) (others m m_in differs))

pub refuted_grows : (clauses : Slots) (a b : Lit → Bool) → ((l : Lit) → a l ≡ true → b l ≡ true) → IsContradictory clauses a → IsContradictory clauses b
refuted_grows clauses a b more (both_signs l p q) = both_signs l (closure_grows clauses a b more l p) (closure_grows clauses a b more (neg l) q)
refuted_grows clauses a b more (empty_clause id at) = empty_clause id at

-- a listed literal is marked
record IsMarkedAt (first : ℕ) (marks : Marks) (l : Lit) : Type 0 where
  place : ℕ
  var : l.var.0 ≡ first + place
  mark : mark_is (get_or marks place None) l.sign ≡ true

listed_marked : (first : ℕ) (marks : Marks) (l : Lit) → in_list (literals_from first marks) l ≡ true → IsMarkedAt first marks l
listed_marked first [] l e = absurd (cc)
listed_marked first (None ∷ ms) l e =
    let later : IsMarkedAt (first + 1) ms l = listed_marked (first + 1) ms l e in
    record { place = suc later.place; var = omega (arith, later.var); mark = later.mark }
listed_marked first (Some s ∷ ms) l e = by_place (or_cases (same_lit (record { var = record { 0 = first }; sign = s }) l) (in_list (literals_from (first + 1) ms) l) e) (λ (more : in_list (literals_from (first + 1) ms) l ≡ true). listed_marked (first + 1) ms l more)
  where
    by_place : (same_lit (record { var = record { 0 = first }; sign = s }) l ≡ true) ⊎ (in_list (literals_from (first + 1) ms) l ≡ true) → (in_list (literals_from (first + 1) ms) l ≡ true → IsMarkedAt (first + 1) ms l) → IsMarkedAt first (Some s ∷ ms) l
    by_place (inl same) ih =
        let e1 : record { var = record { 0 = first }; sign = s } ≡ l = same_lit-equal (record { var = record { 0 = first }; sign = s }) l same in
        record { place = 0; var = omega (arith, ap (λ (k : Lit). k.var.0) e1); mark = and_right (same_var (record { var = record { 0 = first }; sign = s }) l) (same_truth s l.sign) same }
    by_place (inr rest) ih =
        let later : IsMarkedAt (first + 1) ms l = ih rest in
        record { place = suc later.place; var = omega (arith, later.var); mark = later.mark }

marked_listed : (first : ℕ) (marks : Marks) (l : Lit) (k : ℕ) → l.var.0 ≡ first + k → mark_is (get_or marks k None) l.sign ≡ true → in_list (literals_from first marks) l ≡ true
marked_listed first [] l k e m = absurd (cc)
marked_listed first (None ∷ ms) l zero e m = absurd (cc)
marked_listed first (None ∷ ms) l (suc k) e m = marked_listed (first + 1) ms l k (omega arith) m
marked_listed first (Some s ∷ ms) l zero e m = here (nat_eq first l.var.0) (eq_is first l.var.0 (omega arith)) (in_list (literals_from (first + 1) ms) l)
  where
    eq_is : (a b : ℕ) → a ≡ b → nat_eq a b ≡ true
    eq_is a b e = grind (arith, nat_tests)

    here : (b : Bool) → b ≡ true → (d : Bool) → ((b && same_truth s l.sign) || d) ≡ true
    here b e d = rw (e, m) refl
marked_listed first (Some s ∷ ms) l (suc k) e m = or_right (same_lit (record { var = record { 0 = first }; sign = s }) l) (in_list (literals_from (first + 1) ms) l) (marked_listed (first + 1) ms l k (omega arith) m)

others_above : (l : Lit) (first : ℕ) (marks : Marks) → l.var.0 < first → list_all (λ m. not (same_var l m)) (literals_from first marks) ≡ true
others_above l first [] below = refl
others_above l first (None ∷ ms) below = others_above l (first + 1) ms (omega arith)
others_above l first (Some s ∷ ms) below = ap₂ (λ a b. a && b) (isnt l.var.0 first below) (others_above l (first + 1) ms (omega arith))
  where
    isnt : (a b : ℕ) → a < b → not (nat_eq a b) ≡ true
    isnt a b e = grind (arith, nat_tests)

listed_distinct : (first : ℕ) (marks : Marks) → distinct (literals_from first marks) ≡ true
listed_distinct first [] = refl
listed_distinct first (None ∷ ms) = listed_distinct (first + 1) ms
listed_distinct first (Some s ∷ ms) = ap₂ (λ a b. a && b) (others_above (record { var = record { 0 = first }; sign = s }) (first + 1) ms (omega arith)) (listed_distinct (first + 1) ms)

-- all assumptions are a core
pub all_assumed : (s : System) (core : List Lit) → IsRefuted s → core ≡ literals_from 0 s.assumed → IsCore s core
all_assumed s core refuted e =
    subst (IsCore s) (sym e)
    (record {
      present =
          λ l h.
          let at : IsMarkedAt 0 s.assumed l = listed_marked 0 s.assumed l h in
          let place : l.var.0 ≡ at.place = omega (arith, at.var) in
          ap (λ k. mark_is (get_or s.assumed k None) l.sign) place ∙ at.mark;
      distinct = listed_distinct 0 s.assumed;
      contradictory = refuted_grows s.clauses (is_marked s.assumed) (in_list (literals_from 0 s.assumed)) (λ l h. marked_listed 0 s.assumed l l.var.0 (omega arith) h) refuted;
    })
