-- Lines that follow one after the other.
use Rattle.std.proofs.Common.{◌≡◌, ℕ, Bool, true, false, ◌&&◌, nat_eq, List, [], ◌∷◌, ◌++◌, length, map, refl, ◌∙◌, arith}
use Rattle.std.specs.List.{list_all}
use Rattle.std.proofs.lemmas.Bool.{and_parts, and_from}
use Rattle.std.proofs.lemmas.Bool.Decides.{nat_tests}
use Rattle.std.proofs.lemmas.List.Folds.{list_all-append}
use Rattle.lv_base.specs.declared.ids.Lit.{Lit}
use Rattle.lv_cert.specs.declared.line.Literal.{Literal}
use Rattle.lv_clauses.specs.Literals.{clause_holds}
use Rattle.lv_cert_meaning.specs.Following.{literal_of, follows}
use Rattle.lv_cert_meaning.specs.Deriving.{Derived, clause_of_line, derives, ends_empty, refutes}
use Rattle.lv_cert_meaning.proofs.LogLemmas.{follows_sound}

module _ (bools : ℕ) (values : List Bool) (long : length values ≡ bools) where
  pub derived_hold : (clauses : List (List Lit)) (lines : List Derived) → derives bools clauses lines ≡ true → list_all (clause_holds values) clauses ≡ true
      → list_all (λ d. clause_holds values (clause_of_line d)) lines ≡ true
  derived_hold clauses [] e all = refl
  derived_hold clauses (d ∷ ds) e all =
      let parts = and_parts (follows bools clauses d.literals d.hints) (derives bools (clauses ++ clause_of_line d ∷ []) ds) e in
      let here : clause_holds values (clause_of_line d) ≡ true = follows_sound bools clauses d.literals d.hints parts.0 values long all in
      let more : list_all (clause_holds values) (clauses ++ clause_of_line d ∷ []) ≡ true =
      list_all-append (clause_holds values) clauses (clause_of_line d ∷ [])
      ∙ and_from (list_all (clause_holds values) clauses) (clause_holds values (clause_of_line d) && true) all (and_from (clause_holds values (clause_of_line d)) true here refl) in
      and_from (clause_holds values (clause_of_line d)) (list_all (λ (x : Derived). clause_holds values (clause_of_line x)) ds) here
      (derived_hold (clauses ++ clause_of_line d ∷ []) ds parts.1 more)

  -- nothing makes an empty line true
  none_true : (ls : List Literal) → nat_eq (length ls) 0 ≡ true → clause_holds values (map literal_of ls) ≡ true → ⊥
  none_true [] e holds = absurd (cc holds)
  none_true (l ∷ ls) e holds = let none : length (l ∷ ls) ≡ 0 = grind (arith, nat_tests, e) in absurd (omega (arith, none))

  last_fails : (lines : List Derived) → ends_empty lines ≡ true → list_all (λ d. clause_holds values (clause_of_line d)) lines ≡ true → ⊥
  last_fails [] e all = absurd (cc e)
  last_fails (d ∷ []) e all = none_true d.literals e (and_parts (clause_holds values (clause_of_line d)) true all).0
  last_fails (d ∷ (f ∷ more)) e all =
      last_fails (f ∷ more) e (and_parts (clause_holds values (clause_of_line d)) (list_all (λ (x : Derived). clause_holds values (clause_of_line x)) (f ∷ more)) all).1

  pub refuted_fail : (clauses : List (List Lit)) (lines : List Derived) → refutes bools clauses lines ≡ true → list_all (clause_holds values) clauses ≡ false
  refuted_fail clauses lines e = by (list_all (clause_holds values) clauses) refl
    where
      by : (b : Bool) → list_all (clause_holds values) clauses ≡ b → list_all (clause_holds values) clauses ≡ false
      by false f = f
      by true f =
          let parts = and_parts (derives bools clauses lines) (ends_empty lines) e in
          absurd (last_fails lines parts.1 (derived_hold clauses lines parts.0 f))
