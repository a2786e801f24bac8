-- A refutation under assumptions refutes what states these.
use Rattle.std.proofs.Common.{◌≡◌, ◌⊎◌, ◌-◌, ℕ, Bool, List, [], ◌∷◌, length, map, Some, option_map, slice_get, Contains, sym, ap, subst, ◌∙◌, inl, inr}
use Rattle.lv_base.specs.declared.ids.Lit.{Lit}
use Rattle.lv_clauses.specs.ClauseMap.{ClauseMap}
use Rattle.lv_clauses.specs.Literals.{neg}
use Rattle.lv_clauses.proofs.LiteralLemmas.{neg_neg, Contains-nil, Contains-head, Contains-tail, Contains-cases}
use Rattle.lv_clauses.specs.declared.log.Step.{Step}
use Rattle.lv_sat.specs.Answers.{IsSublist, nothing as no_literals, left_out, taken, IsRefutation}
use Rattle.lv_cert_meaning.specs.Following.{numbered}
use Rattle.lv_cert_writing.specs.BlockNumbers.{HaveNumbers, HaveUnits}
use Rattle.lv_cert_writing.specs.BlockLines.{unit_number, IsDenied, IsRefuting}
use Rattle.lv_cert_writing.specs.Needed.{AreNeeded}

part_member : (core whole : List Lit) → IsSublist core whole → (l : Lit) → Contains core l → Contains whole l
part_member _ _ no_literals l h = h
part_member core _ (left_out {whole = ls} m s) l h = Contains-tail m l ls (part_member core ls s l h)
part_member _ _ (taken {core = cs} {whole = ls} m s) l h = by_place (Contains-cases m l cs h) (λ rest. part_member cs ls s l rest)
  where
    by_place : (m ≡ l) ⊎ Contains cs l → (Contains cs l → Contains ls l) → Contains (m ∷ ls) l
    by_place (inl same) more = subst (λ (x : Lit). Contains (m ∷ ls) x) same (Contains-head m ls)
    by_place (inr rest) more = Contains-tail m l ls (more rest)

-- the numbers of what states the assumptions deny the negations of some of them
denied_by : (clauses : List (List Lit)) (units : List ℕ) (core : List Lit) → ((l : Lit) → Contains core l → numbered clauses (unit_number units l) ≡ Some (l ∷ [])) → (m : Lit) → Contains (map neg core) m
    → numbered clauses (unit_number units m) ≡ Some (neg m ∷ [])
denied_by clauses units [] each m h = absurd (Contains-nil m h)
denied_by clauses units (l ∷ ls) each m h = elim (Contains-cases (neg l) m (map neg ls) h) [
  | inl same ↦
      subst (λ (k : Lit). numbered clauses (unit_number units k) ≡ Some (neg k ∷ [])) same
      (each l (Contains-head l ls) ∙ ap (λ (k : Lit). Some (k ∷ [])) (sym (neg_neg l)))
  | inr rest ↦ denied_by clauses units ls (λ k g. each k (Contains-tail l k ls g)) m rest
]

pub answered : (set : ClauseMap) (clauses : List (List Lit)) (numbers units : List ℕ) (assumed core : List Lit) (log : List Step) (needed : List Bool) → IsRefutation set assumed core log
    → HaveNumbers set.slots clauses numbers → HaveUnits clauses assumed units → AreNeeded log needed 0 → IsRefuting set clauses numbers units log needed
answered set clauses numbers units assumed core log needed is given stated marks = record { given = given; valid = is.valid; ends = ends; marks = marks }
  where
    each : (l : Lit) → Contains core l → numbered clauses (unit_number units l) ≡ Some (l ∷ [])
    each l h = stated.each l (part_member core assumed is.part l h)

    ends : (s : Step) → slice_get log (length log - 1) ≡ Some s → IsDenied clauses units s.clause
    ends s at =
        let last : Some s.clause ≡ Some (map neg core) = sym (ap (option_map (λ (t : Step). t.clause)) at) ∙ is.ends in
        let same : s.clause ≡ map neg core = cc last in
        subst (λ (c : List Lit). IsDenied clauses units c) (sym same) (record { each = denied_by clauses units core each })
