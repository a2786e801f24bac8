-- A line that follows is a step of a log that does.
use Rattle.std.proofs.Common.{◌≡◌, ℕ, suc, zero, ◌-◌, Bool, true, false, ◌&&◌, nat_eq, List, [], ◌∷◌, length, map, get_or, Option, Some, None, slice_get, refl, sym, ap, ap₂, ◌∙◌, arith, if◌then◌else◌}
use Rattle.std.specs.List.{list_all}
use Rattle.std.proofs.Math.Path.{fun_ext}
use Rattle.std.proofs.lemmas.Bool.{and_parts}
use Rattle.std.proofs.lemmas.Bool.Decides.{nat_tests}
use Rattle.lv_base.specs.declared.ids.Lit.{Lit}
use Rattle.lv_cert.specs.declared.line.Literal.{Literal}
use Rattle.lv_clauses.specs.Literals.{clause_holds, distinct}
use Rattle.lv_clauses.specs.ClauseMap.{ClauseMap, satisfies}
use Rattle.lv_clauses.specs.Marks.{Marks, nothing}
use Rattle.lv_refcheck.specs.lv_clauses.declared.log.Step.{Step}
use Rattle.lv_refcheck.specs.lv_clauses.Following as Log
use Rattle.lv_refcheck.specs.lv_clauses.Following.{goes_on_from, denied, follows_by_hints, first_bad_step, IsImplied}
use Rattle.lv_refcheck.proofs.lv_clauses.SoundLemmas.{checked}
use Rattle.lv_cert_meaning.specs.Following.{names_boolean, literal_of, numbered, is_last, ends_well, follows}
use Rattle.lv_cert_meaning.specs.FollowingLaws.{as_set, as_hint, as_step}
use Rattle.lv_cert_meaning.proofs.RangeLemmas.{clause_if_distinct}

slot_is : (clauses : List (List Lit)) (n : ℕ) → get_or (map Some clauses) n None ≡ slice_get clauses n
slot_is [] n = refl
slot_is (c ∷ cs) zero = refl
slot_is (c ∷ cs) (suc n) = slot_is cs n

-- a clause stands in the set under its number
named_is : (bools : ℕ) (clauses : List (List Lit)) (n : ℕ) → Log.clause_of (as_set bools clauses).slots [] (as_hint n) ≡ numbered clauses n
named_is bools clauses zero = refl
named_is bools clauses (suc n) = let some : nat_eq (suc n) 0 ≡ false = grind (arith, nat_tests) in let same : suc n - 1 ≡ n = omega arith in rw (some, same) (slot_is clauses n)

last_is : (hints : List ℕ) → Log.is_last (map as_hint hints) ≡ is_last hints
last_is [] = refl
last_is (h ∷ hs) = refl

ends_is : (bools : ℕ) (clauses : List (List Lit)) (hints : List ℕ) (marks : Marks) → Log.ends_well (as_set bools clauses).slots [] (map as_hint hints) marks ≡ ends_well clauses hints marks
ends_is bools clauses [] marks = refl
ends_is bools clauses (h ∷ hs) marks =
    ap₂ (λ (ended : Bool) (o : Option (List Lit)). goes_on_from marks ended (Log.ends_well (as_set bools clauses).slots [] (map as_hint hs)) o) (last_is hs) (named_is bools clauses h)
    ∙ ap (λ (rest : Marks → Bool). goes_on_from marks (is_last hs) rest (numbered clauses h)) (fun_ext (λ (next : Marks). ends_is bools clauses hs next))

pub is_the_logs : (bools : ℕ) (clauses : List (List Lit)) (literals : List Literal) (hints : List ℕ)
    → follows bools clauses literals hints ≡ (list_all (names_boolean bools) literals && follows_by_hints (as_set bools clauses) [] (as_step literals hints))
is_the_logs bools clauses literals hints = by (list_all (names_boolean bools) literals) refl
  where
    by : (b : Bool) → list_all (names_boolean bools) literals ≡ b
        → follows bools clauses literals hints ≡ (list_all (names_boolean bools) literals && follows_by_hints (as_set bools clauses) [] (as_step literals hints))
    by false e = ap (λ b. b && (distinct (map literal_of literals) && ends_well clauses hints (denied (nothing bools) (map literal_of literals)))) e
        ∙ sym (ap (λ b. b && follows_by_hints (as_set bools clauses) [] (as_step literals hints)) e)
    by true e = ap (λ b. list_all (names_boolean bools) literals && b)
        (ap₂ (λ p q. p && q) (sym (clause_if_distinct bools literals e)) (sym (ends_is bools clauses hints (denied (nothing bools) (map literal_of literals)))))

all_hold : (values : List Bool) (clauses : List (List Lit)) → satisfies values (map Some clauses) ≡ list_all (clause_holds values) clauses
all_hold values [] = refl
all_hold values (c ∷ cs) = ap (λ b. clause_holds values c && b) (all_hold values cs)

-- a log's step that follows is true
first_holds : (set : ClauseMap) (s : Step) → follows_by_hints set [] s ≡ true → IsImplied set s
first_holds set s e =
    let none : None ≡ first_bad_step set (s ∷ []) = sym (ap (λ b. if b then None else Some 0) e) in
    checked set (s ∷ []) None none 0 s (omega arith)

pub follows_sound : (bools : ℕ) (clauses : List (List Lit)) (literals : List Literal) (hints : List ℕ) → follows bools clauses literals hints ≡ true
    → (values : List Bool) → length values ≡ bools → list_all (clause_holds values) clauses ≡ true → clause_holds values (map literal_of literals) ≡ true
follows_sound bools clauses literals hints e values long all =
    let parts = and_parts (list_all (names_boolean bools) literals) (follows_by_hints (as_set bools clauses) [] (as_step literals hints)) (sym (is_the_logs bools clauses literals hints) ∙ e) in
    let step : IsImplied (as_set bools clauses) (as_step literals hints) = first_holds (as_set bools clauses) (as_step literals hints) parts.1 in
    step.holds values (all_hold values clauses ∙ all) long
