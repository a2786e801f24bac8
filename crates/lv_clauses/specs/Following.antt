-- How a step of a log follows from clauses present and earlier steps by its hints: the negations of its literals are
-- taken as true; then each hint in order names a clause of which one literal isn't false, and that literal is taken as
-- true; the last hint, and no other, names a clause of which each literal is false.
use Rattle.std.specs.Prelude.{◌≡◌, ℕ, Bool, true, false, ◌&&◌, List, [], ◌∷◌, ◌++◌, length, Option, Some, None, option_map, slice_get, if◌then◌else◌}
use Rattle.lv_base.specs.declared.ids.Lit.{Lit}
use Rattle.lv_clauses.specs.declared.marks.Finding.{Finding}
use Rattle.lv_clauses.specs.declared.marks.Finding.TheVariants.{AllFalse, Unit, Open}
use Rattle.lv_clauses.specs.Literals.{neg, is_clause, clause_holds}
use Rattle.lv_clauses.specs.ClauseMap.{ClauseMap, Slots, clause_at, satisfies}
use Rattle.lv_clauses.specs.Marks.{Marks, nothing, marked, look_at}
use Rattle.lv_clauses.specs.declared.log.Hint.{Hint}
use Rattle.lv_clauses.specs.declared.log.Hint.TheVariants.{Given, Earlier}
use Rattle.lv_clauses.specs.declared.log.Step.{Step}

-- the clause that a hint names, if it is present or an earlier step's
abbrev pub clause_of : Slots → List Step → Hint → Option (List Lit)
clause_of slots earlier (Given id) = clause_at slots id.0
clause_of slots earlier (Earlier place) = option_map (λ (s : Step). s.clause) (slice_get earlier place)

abbrev pub is_last : List Hint → Bool
is_last [] = true
is_last (h ∷ hs) = false

-- after a clause in which all is false the hints must have ended; one literal left is taken as true for the rest
abbrev pub goes_on : Marks → Bool → (Marks → Bool) → Finding → Bool
goes_on marks ended rest AllFalse = ended
goes_on marks ended rest (Unit l) = rest (marked marks l)
goes_on marks ended rest Open = false

abbrev pub goes_on_from : Marks → Bool → (Marks → Bool) → Option (List Lit) → Bool
goes_on_from marks ended rest None = false
goes_on_from marks ended rest (Some c) = goes_on marks ended rest (look_at marks c)

-- the hints end well from these marks on
abbrev pub ends_well : Slots → List Step → List Hint → Marks → Bool
ends_well slots earlier [] marks = false
ends_well slots earlier (h ∷ hs) marks = goes_on_from marks (is_last hs) (ends_well slots earlier hs) (clause_of slots earlier h)

-- the marks with each literal of the clause false
abbrev pub denied : Marks → List Lit → Marks
denied marks [] = marks
denied marks (l ∷ ls) = denied (marked marks (neg l)) ls

-- the step's clause is one over the booleans, and it follows by its hints
abbrev pub follows_by_hints : ClauseMap → List Step → Step → Bool
follows_by_hints set earlier s = is_clause set.bools s.clause && ends_well set.slots earlier s.hints (denied (nothing set.bools) s.clause)

-- the place of the first step that doesn't follow, where these steps come earlier
abbrev pub first_bad_after : ClauseMap → List Step → List Step → Option ℕ
first_bad_after set earlier [] = None
first_bad_after set earlier (s ∷ ss) = if follows_by_hints set earlier s then first_bad_after set (earlier ++ s ∷ []) ss else Some (length earlier)

-- the place of the first step that doesn't follow; a log is valid where there is none
abbrev pub first_bad_step : ClauseMap → List Step → Option ℕ
first_bad_step set log = first_bad_after set [] log

-- the clause of the step is true under all values that satisfy the set
pub record IsImplied (set : ClauseMap) (s : Step) : Type 0 where
  pub holds : (values : List Bool) → satisfies values set.slots ≡ true → length values ≡ set.bools → clause_holds values s.clause ≡ true
