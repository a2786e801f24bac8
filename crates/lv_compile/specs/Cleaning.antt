-- Clauses without repeated literals, and without those that are true of everything.
use Rattle.std.specs.Prelude.{Bool, not, false, ◌||◌, ◌&&◌, if◌then◌else◌, List, [], ◌∷◌, ◌++◌, map, filter}
use Rattle.std.specs.List.{list_any}
use Rattle.lv_base.specs.declared.ids.Lit.{Lit}
use Rattle.lv_clauses.specs.Literals.{neg, same_truth, same_var}
use Rattle.lv_compile.specs.FormulaClauses.{Clauses}

abbrev pub same_literal : Lit → Lit → Bool
same_literal l m = same_var l m && same_truth l.sign m.sign

-- it stands among those before it
abbrev pub is_repeated : List Lit → Lit → Bool
is_repeated earlier l = list_any (λ (m : Lit). same_literal m l) earlier

-- the literal behind them, where it isn't among them
abbrev pub with_new : List Lit → Lit → List Lit
with_new earlier l = if is_repeated earlier l then earlier else earlier ++ l ∷ []

-- a literal stands in it with its negation
abbrev pub is_tautology : List Lit → Bool
is_tautology [] = false
is_tautology (l ∷ ls) = list_any (same_literal (neg l)) ls || is_tautology ls

-- the clause alone, or nothing where it is one
abbrev pub unless_tautology : List Lit → Clauses
unless_tautology c = if is_tautology c then [] else c ∷ []

-- a literal stands in it twice
abbrev pub has_repeats : List Lit → Bool
has_repeats [] = false
has_repeats (l ∷ ls) = list_any (same_literal l) ls || has_repeats ls

-- each literal once, at its first place
abbrev pub without_repeats : List Lit → List Lit
without_repeats [] = []
without_repeats (l ∷ ls) = l ∷ filter (λ (m : Lit). not (same_literal l m)) (without_repeats ls)

abbrev pub cleaned : Clauses → Clauses
cleaned cs = map without_repeats (filter (λ (c : List Lit). not (is_tautology c)) cs)
