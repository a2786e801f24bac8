-- What is noted of each number: whether its clause has two literals.
use Rattle.std.proofs.Common.{◌≡◌, ◌≢◌, ◌⊎◌, ℕ, ◌<◌, ◌≤◌, suc, zero, Bool, false, List, [], ◌∷◌, ◌++◌, length, get_or, set, None, refl, sym, ap, ◌∙◌, arith, inl, inr}
use Rattle.std.proofs.lemmas.Bool.{cases_eq, cases_lt}
use Rattle.std.proofs.lemmas.List.{get_or-set_same, get_or-set_other, get_or_past, length-set}
use Rattle.lv_clauses.specs.ClauseMap.{Slots, clause_at}
use Rattle.lv_ltms.specs.Pairs.{has_two, AreNoted}

-- one more place for which nothing is noted
pub false_behind : (pairs : List Bool) (i : ℕ) → get_or (pairs ++ false ∷ []) i false ≡ get_or pairs i false
false_behind [] zero = refl
false_behind [] (suc i) = refl
false_behind (p ∷ ps) zero = refl
false_behind (p ∷ ps) (suc i) = false_behind ps i

pub noted_none : AreNoted [] []
noted_none = record { exact = λ id. by_place id }
  where
    by_place : (id : ℕ) → get_or [] id false ≡ has_two (clause_at [] id)
    by_place zero = refl
    by_place (suc id) = refl

pub noted_fit : (old new : List Bool) (slots : Slots) → ((i : ℕ) → get_or new i false ≡ get_or old i false) → AreNoted old slots → AreNoted new slots
noted_fit old new slots same is = record { exact = λ id. same id ∙ is.exact id }

module _ (pairs : List Bool) (old new : Slots) (id : ℕ) (others : (other : ℕ) → other ≢ id → clause_at new other ≡ clause_at old other) (is : AreNoted pairs old) where
  apart : (pair : Bool) (i : ℕ) → i ≢ id → get_or (set pairs id pair) i false ≡ has_two (clause_at new i)
  apart pair i differs = get_or-set_other pairs id i pair false differs ∙ is.exact i ∙ sym (ap has_two (others i differs))

  pub noted_put : (pair : Bool) → id < length pairs → has_two (clause_at new id) ≡ pair → AreNoted (set pairs id pair) new
  noted_put pair room two = record { exact = λ i. by_number i (cases_eq i id) }
    where
      by_number : (i : ℕ) → (i ≡ id) ⊎ (i ≢ id) → get_or (set pairs id pair) i false ≡ has_two (clause_at new i)
      by_number i (inl same) = ap (λ (n : ℕ). get_or (set pairs id pair) n false) same ∙ get_or-set_same pairs id pair false room ∙ sym two ∙ sym (ap (λ (n : ℕ). has_two (clause_at new n)) same)
      by_number i (inr differs) = apart pair i differs

  pub noted_gone : clause_at new id ≡ None → AreNoted (set pairs id false) new
  noted_gone gone = record { exact = λ i. by_number i (cases_eq i id) }
    where
      by_room : (id < length pairs) ⊎ (length pairs ≤ id) → get_or (set pairs id false) id false ≡ false
      by_room (inl within) = get_or-set_same pairs id false false within
      by_room (inr past) = get_or_past (set pairs id false) id false (omega (arith, past, length-set pairs id false))

      by_number : (i : ℕ) → (i ≡ id) ⊎ (i ≢ id) → get_or (set pairs id false) i false ≡ has_two (clause_at new i)
      by_number i (inl same) = ap (λ (n : ℕ). get_or (set pairs id false) n false) same ∙ by_room (cases_lt id (length pairs)) ∙ sym (ap has_two gone) ∙ sym (ap (λ (n : ℕ). has_two (clause_at new n)) same)
      by_number i (inr differs) = apart false i differs
