-- Clauses of two literals: the two that they watch are all that they have.
use Rattle.std.specs.Prelude.{◌≡◌, ◌⊎◌, ℕ, ◌<◌, Bool, true, false, nat_eq, List, [], ◌∷◌, length, Option, Some, None, slice_index_or}
use Rattle.lv_base.specs.declared.ids.Lit.{Lit}
use Rattle.lv_clauses.specs.ClauseMap.{Slots, clause_at}
use Rattle.lv_ltms.specs.Watching.{Rows, lit_at}

-- a clause is there that has two literals
abbrev pub has_two : Option (List Lit) → Bool
has_two None = false
has_two (Some c) = nat_eq (length c) 2

-- of each number it is noted whether its clause has two literals
pub record AreNoted (pairs : List Bool) (slots : Slots) : Type 0 where
  pub exact : (id : ℕ) → slice_index_or pairs id false ≡ has_two (clause_at slots id)

-- where a clause is there that has two literals, it has these
abbrev pub HasBoth : Option (List Lit) → Lit → Lit → Type 0
HasBoth slot a b = has_two slot ≡ true → (slot ≡ Some (a ∷ b ∷ [])) ⊎ (slot ≡ Some (b ∷ a ∷ []))

-- each clause has its watches, and one of two literals watches both
pub record AreWatched (slots : Slots) (near far : Rows) : Type 0 where
  pub near_room : (id : ℕ) → has_two (clause_at slots id) ≡ true → id < length near.watches
  pub far_room : (id : ℕ) → has_two (clause_at slots id) ≡ true → id < length far.watches
  pub both : (id : ℕ) → HasBoth (clause_at slots id) (lit_at near id) (lit_at far id)
