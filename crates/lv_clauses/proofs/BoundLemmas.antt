-- A walk over all clauses that ends at a bound.
use Rattle.std.proofs.Common.{◌≡◌, ℕ, ◌<◌, suc, zero, Bool, true, List, [], ◌∷◌, drop, Some, None, IsSome, refl, arith}
use Rattle.lv_clauses.specs.ClauseMap.{Slots, clause_at, satisfies}

-- past the numbers of the clauses present nothing is left to be made true
pub none_left : (values : List Bool) (slots : Slots) (at : ℕ) → ((id : ℕ) → IsSome (clause_at slots id) → id < at) → satisfies values (drop at slots) ≡ true
none_left values [] zero above = refl
none_left values [] (suc at) above = refl
none_left values (s ∷ ss) (suc at) above = none_left values ss at (λ id h. omega (arith, above (suc id) h))
none_left values (None ∷ ss) zero above = none_left values ss zero (λ id h. absurd (omega (arith, above (suc id) h)))
none_left values (Some c ∷ ss) zero above = absurd (omega (arith, above 0 refl))
