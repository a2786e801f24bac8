-- Literals whose numbers are those of booleans.
use Rattle.std.proofs.Common.{◌≡◌, ℕ, Bool, true, false, List, [], ◌∷◌, map, Some, None, refl, sym, ap, ◌∙◌, arith, if◌then◌else◌}
use Rattle.std.specs.List.{list_all}
use Rattle.std.proofs.lemmas.Bool.{and_parts, and_from}
use Rattle.std.proofs.lemmas.Bool.Decides.{nat_tests}
use Rattle.lv_base.specs.declared.ids.Lit.{Lit}
use Rattle.lv_cert.specs.declared.line.Literal.{Literal}
use Rattle.lv_clauses.specs.Literals.{in_range, distinct, is_clause}
use Rattle.lv_cert_meaning.specs.Following.{names_boolean, literal_of, follows}

pub is_in_range : (bools : ℕ) (l : Literal) → names_boolean bools l ≡ true → in_range bools (literal_of l) ≡ true
is_in_range bools l e = grind (arith, nat_tests, e)

pub are_in_range : (bools : ℕ) (ls : List Literal) → list_all (names_boolean bools) ls ≡ true → list_all (in_range bools) (map literal_of ls) ≡ true
are_in_range bools [] e = refl
are_in_range bools (l ∷ ls) e =
    let parts = and_parts (names_boolean bools l) (list_all (names_boolean bools) ls) e in
    and_from (in_range bools (literal_of l)) (list_all (in_range bools) (map literal_of ls)) (is_in_range bools l parts.0) (are_in_range bools ls parts.1)

-- where all numbers are those of booleans, the literals are a clause if their booleans are distinct
pub clause_if_distinct : (bools : ℕ) (ls : List Literal) → list_all (names_boolean bools) ls ≡ true → is_clause bools (map literal_of ls) ≡ distinct (map literal_of ls)
clause_if_distinct bools ls e = rw (are_in_range bools ls e) refl

-- a line of which two literals are of one boolean doesn't follow
pub twice_named : (bools : ℕ) (clauses : List (List Lit)) (ls : List Literal) (hints : List ℕ) (lits : List Lit)
    → Some lits ≡ (if list_all (names_boolean bools) ls then Some (map literal_of ls) else None) → is_clause bools lits ≡ false → follows bools clauses ls hints ≡ false
twice_named bools clauses ls hints lits read e = by (list_all (names_boolean bools) ls) refl
  where
    by : (b : Bool) → list_all (names_boolean bools) ls ≡ b → follows bools clauses ls hints ≡ false
    by false none = rw none refl
    by true all =
        let same : Some lits ≡ Some (map literal_of ls) = read ∙ ap (λ b. if b then Some (map literal_of ls) else None) all in
        let are : lits ≡ map literal_of ls = cc same in
        let apart : distinct (map literal_of ls) ≡ false = sym (clause_if_distinct bools ls all) ∙ ap (is_clause bools) (sym are) ∙ e in
        rw (all, apart) refl
