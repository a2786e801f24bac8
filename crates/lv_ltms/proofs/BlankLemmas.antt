-- Clauses without literals.
use Rattle.std.proofs.Common.{◌≡◌, ℕ, ◌<◌, suc, zero, arith, IfNone, true, false, nat_eq, List, [], ◌∷◌, length, Option, Some, None, IsSome, refl, ap, Contains}
use Rattle.std.proofs.lemmas.Bool.Decides.{nat_tests}
use Rattle.lv_base.specs.declared.ids.Lit.{Lit}
use Rattle.lv_base.specs.declared.ids.ClauseId.{ClauseId}
use Rattle.lv_clauses.specs.ClauseMap.{Slots, clause_at}
use Rattle.lv_clauses.proofs.LiteralLemmas.{Contains-head}
use Rattle.lv_ltms.specs.Standing.{has_no_lits, PutsSlot, NoneEmpty, TellsEmpty}
use Rattle.lv_ltms.proofs.AddLemmas.{gone_empty}

pub blank_is : (slot : Option (List Lit)) → has_no_lits slot ≡ true → slot ≡ Some []
blank_is None e = absurd (cc e)
blank_is (Some []) e = refl
blank_is (Some (m ∷ ms)) e = absurd (never (length ms) e)
  where
    never : (n : ℕ) → nat_eq (suc n) 0 ≡ true → ⊥
    never n f = grind (arith, nat_tests)

-- a clause with a literal
pub record HasLit (slot : Option (List Lit)) : Type 0 where
  pub clause : List Lit
  pub lit : Lit
  pub present : slot ≡ Some clause
  pub has : Contains clause lit

pub lit_there : (slot : Option (List Lit)) → IsSome slot → has_no_lits slot ≡ false → HasLit slot
lit_there None some e = absurd (cc some)
lit_there (Some []) some e = absurd (cc e)
lit_there (Some (m ∷ ms)) some e = record { clause = m ∷ ms; lit = m; present = refl; has = Contains-head m ms }

pub no_blank : (slot : Option (List Lit)) → slot ≡ Some [] → has_no_lits slot ≡ true
no_blank slot e = ap has_no_lits e

pub some_within : (slots : Slots) (id : ℕ) → IsSome (clause_at slots id) → id < length slots
some_within [] id some = absurd (cc some)
some_within (s ∷ ss) zero some = omega arith
some_within (s ∷ ss) (suc id) some = omega (arith, some_within ss id some)

-- a clause without literals is told of still, where one goes
pub tells_left : (slots after : Slots) (id : ℕ) (f : Option ClauseId) → PutsSlot slots after id None → TellsEmpty slots f → IfNone f (NoneEmpty after)
tells_left slots after id None puts none = gone_empty slots after id puts none
tells_left slots after id (Some i) puts there = tt
