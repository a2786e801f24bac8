-- What observations leave of one candidate more, and of none.
use Rattle.std.proofs.Common.{◌≡◌, ℕ, ◌+◌, ◌<◌, ◌≤◌, List, [], ◌∷◌, All, inl, inr, cond, length, map, take, get_or, replicate, refl, sym, subst, ap, ap₂, ◌∙◌, arith}
use Rattle.std.proofs.lemmas.Bool.{cases_lt}
use Rattle.std.proofs.lemmas.List.{length-replicate, get_or-replicate, get_or_past}
use Rattle.std.proofs.lemmas.List.Sums.{sum_by_more, count_by-le-length}
use Rattle.std.proofs.lemmas.List.Elements.{All-map}
use Rattle.std.proofs.lemmas.List.FromFn.{length-map-range_with_len, get_or-map-range_with_len, fill_by_all}
use Rattle.lv_base.specs.declared.ids.VarId.{VarId}
use Rattle.lv_base.specs.declared.search.Candidate.{Candidate}
use Rattle.lv_model.specs.declared.plant.Plant.{Plant}
use Rattle.lv_model.specs.Lists.{sizes, IsFew}
use Rattle.lv_meaning.specs.declared.facts.Facts.{Facts}
use Rattle.lv_ident.specs.Probing.{is_allowed}
use Rattle.lv_reply.specs.declared.probes.Probed.{Probed}
use Rattle.lv_probe.specs.Probing.{IsProbed, seen, number_with, numbers_with, probed, none_left}

-- of one candidate more a value goes with one more, where that candidate goes with it
pub number_more : (plant : Plant) (facts : Facts) (cs : List Candidate) (at : ℕ) (d : Candidate) (x : VarId) (v : ℕ) → at < length cs
    → number_with plant facts (take (at + 1) cs) (seen x v) ≡ number_with plant facts (take at cs) (seen x v) + cond (is_allowed plant facts (seen x v) (get_or cs at d)) 1 0
number_more plant facts cs at d x v lt = sum_by_more (λ (c : Candidate). cond (is_allowed plant facts (seen x v) c) 1 0) cs at d lt

-- so many more than the candidates there are none
pub number_few : (plant : Plant) (facts : Facts) (cs : List Candidate) (x : VarId) (v : ℕ) → number_with plant facts cs (seen x v) ≤ length cs
number_few plant facts cs x v = count_by-le-length (is_allowed plant facts (seen x v)) cs

-- the number of a value stands at its place
pub number_at : (plant : Plant) (facts : Facts) (cs : List Candidate) (x : VarId) (n v : ℕ) → v < n → get_or (numbers_with plant facts cs x n) v 0 ≡ number_with plant facts cs (seen x v)
number_at plant facts cs x n v lt = get_or-map-range_with_len (λ (k : ℕ). number_with plant facts cs (seen x k)) 0 n v v 0 lt (omega arith)

-- there are as many numbers as values
pub numbers_long : (plant : Plant) (facts : Facts) (cs : List Candidate) (x : VarId) (n : ℕ) → length (numbers_with plant facts cs x n) ≡ n
numbers_long plant facts cs x n = length-map-range_with_len (λ (k : ℕ). number_with plant facts cs (seen x k)) 0 n

-- the numbers told of a variable are as many as its values, and each is that of its value
pub told_long : (plant : Plant) (facts : Facts) (cs : List Candidate) (p : Probed) (ns : List ℕ) → ns ≡ p.numbers → p ≡ probed plant facts cs p.var
    → length ns ≡ get_or (sizes plant) p.var.0 0
told_long plant facts cs p ns same told =
    ap (λ (it : List ℕ). length it) (same ∙ ap (λ (it : Probed). it.numbers) told) ∙ numbers_long plant facts cs p.var (get_or (sizes plant) p.var.0 0)

pub told_at : (plant : Plant) (facts : Facts) (cs : List Candidate) (p : Probed) (ns : List ℕ) → ns ≡ p.numbers → p ≡ probed plant facts cs p.var
    → (v : ℕ) → v < length ns → get_or ns v 0 ≡ number_with plant facts cs (seen p.var v)
told_at plant facts cs p ns same told v lt =
    ap (λ (it : List ℕ). get_or it v 0) (same ∙ ap (λ (it : Probed). it.numbers) told)
    ∙ number_at plant facts cs p.var (get_or (sizes plant) p.var.0 0) v (omega (arith, told_long plant facts cs p ns same told, lt))

-- of no candidate nothing is left, whatever is seen
none_is_left : (plant : Plant) (facts : Facts) (x : VarId) → none_left (sizes plant) x ≡ probed plant facts [] x
none_is_left plant facts x =
    let n = get_or (sizes plant) x.0 0 in
    ap (λ (ns : List ℕ). record { var = x; numbers = ns })
    (fill_by_all (λ (v : ℕ). number_with plant facts [] (seen x v)) (replicate n 0) n 0 (length-replicate n 0) (λ k lt. get_or-replicate n k 0 0 lt))

-- the values of a variable are few where those of each are; what is no variable has none
few_values : (ns : List ℕ) (k : ℕ) → All IsFew ns → IsFew (get_or ns k 0)
few_values ns k few = elim (cases_lt k (length ns)) [
  | inl within ↦ few k 0 within
  | inr past ↦ record { few = omega (arith, get_or_past ns k 0 past) }
]

-- what observations of variables would leave is told of each; their values are few
pub all_are_probed : (plant : Plant) (facts : Facts) (cs : List Candidate) (xs : List VarId) → All IsFew (sizes plant) → All (IsProbed plant facts cs) (map (probed plant facts cs) xs)
all_are_probed plant facts cs xs few = All-map (IsProbed plant facts cs) (probed plant facts cs) xs
    (λ k d lt. record {
      probed = refl;
      few = subst (λ (n : ℕ). IsFew n) (sym (numbers_long plant facts cs (get_or xs k d) (get_or (sizes plant) (get_or xs k d).0 0))) (few_values (sizes plant) (get_or xs k d).0 few);
    })

-- what is told of observables, told anew of their variables, is told of these
pub told_anew : (plant : Plant) (facts : Facts) (cs ds : List Candidate) (xs : List VarId)
    → map (λ (p : Probed). probed plant facts ds p.var) (map (probed plant facts cs) xs) ≡ map (probed plant facts ds) xs
told_anew plant facts cs ds [] = refl
told_anew plant facts cs ds (x ∷ xs) = ap (λ (ps : List Probed). probed plant facts ds x ∷ ps) (told_anew plant facts cs ds xs)

-- of no candidate nothing is left, whatever is seen of which variable
pub none_are_left : (plant : Plant) (facts : Facts) (xs : List VarId) → map (none_left (sizes plant)) xs ≡ map (probed plant facts []) xs
none_are_left plant facts [] = refl
none_are_left plant facts (x ∷ xs) = ap₂ (λ (p : Probed) (ps : List Probed). p ∷ ps) (none_is_left plant facts x) (none_are_left plant facts xs)
