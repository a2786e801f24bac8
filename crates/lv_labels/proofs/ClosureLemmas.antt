-- The closure of the same clauses, whatever their numbers, and of more assumptions.
use Rattle.std.proofs.Common.{◌≡◌, ℕ, zero, suc, Bool, true, List, [], ◌∷◌, map, Some, ap, subst, inl, inr, Contains}
use Rattle.lv_base.specs.declared.ids.Lit.{Lit}
use Rattle.lv_clauses.specs.Literals.{neg}
use Rattle.lv_clauses.specs.ClauseMap.{Slots, clause_at}
use Rattle.lv_clauses.specs.Closure.{InClosure, IsContradictory, assumption, unit, both_signs, empty_clause}
use Rattle.lv_clauses.proofs.LiteralLemmas.{Contains-nil, Contains-head, Contains-tail, Contains-cases}
use Rattle.lv_compile.specs.FormulaClauses.{Clauses}
use Rattle.lv_labels.specs.Claims.{IsPresent, AreJust}

module _ {first second : Slots} {assumed wider : Lit → Bool} (present : (id : ℕ) (c : List Lit) → clause_at first id ≡ Some c → IsPresent second c) (more : (l : Lit) → assumed l ≡ true → wider l ≡ true) where
  pub closure_moved : (l : Lit) → InClosure first assumed l → InClosure second wider l
  closure_moved l (assumption a) = assumption (more l a)
  closure_moved l (unit id c at in_clause others) =
      let there = present id c at in
      unit there.number c there.at in_clause (λ m has_m differs. closure_moved (neg m) (others m has_m differs))

  pub refuted_moved : IsContradictory first assumed → IsContradictory second wider
  refuted_moved (both_signs l p q) = both_signs l (closure_moved l p) (closure_moved (neg l) q)
  refuted_moved (empty_clause id at) = let there = present id [] at in empty_clause there.number there.at

-- a clause of a list stands at its place
pub listed_present : (cs : Clauses) (c : List Lit) → Contains cs c → IsPresent (map Some cs) c
listed_present [] c h = absurd (Contains-nil c h)
listed_present (d ∷ ds) c h = elim (Contains-cases d c ds h) [
  | inl e ↦ record { number = 0; at = ap (λ (x : List Lit). Some x) e }
  | inr rest ↦ let there = listed_present ds c rest in record { number = suc there.number; at = there.at }
]

some_equal : {X : Type 0} (x y : X) → Some x ≡ Some y → x ≡ y
some_equal x y e = cc

pub present_listed : (cs : Clauses) (id : ℕ) (c : List Lit) → clause_at (map Some cs) id ≡ Some c → Contains cs c
present_listed [] id c e = absurd (cc)
present_listed (d ∷ ds) zero c e = subst (λ x. Contains (d ∷ ds) x) (some_equal d c e) (Contains-head d ds)
present_listed (d ∷ ds) (suc id) c e = Contains-tail d c ds (present_listed ds id c e)

-- just these clauses, at numbers of their own or at their places
module _ (cs : Clauses) (slots : Slots) (just : AreJust cs slots) where
  pub to_list : (id : ℕ) (c : List Lit) → clause_at slots id ≡ Some c → IsPresent (map Some cs) c
  to_list id c at = listed_present cs c (just.only id c at)

  pub from_list : (id : ℕ) (c : List Lit) → clause_at (map Some cs) id ≡ Some c → IsPresent slots c
  from_list id c at = just.each c (present_listed cs id c at)
