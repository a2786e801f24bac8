-- The number of a value is how many a settled diagnosis lists where the value is observed too.
use Rattle.std.proofs.Common.{◌≡◌, ℕ, ◌+◌, ◌<◌, ◌≤◌, Bool, true, false, ◌&&◌, cond, List, [], ◌∷◌, ◌++◌, length, map, filter, take, ◌⊎◌, inl, inr, refl, sym, subst, ap, ◌∙◌, arith}
use Rattle.std.specs.List.{count_by}
use Rattle.std.proofs.lemmas.Bool.{and_parts, and_from, cases_order}
use Rattle.std.proofs.lemmas.List.{length-take-le, take_all}
use Rattle.std.proofs.lemmas.List.Folds.{list_all-append}
use Rattle.std.proofs.lemmas.List.Sums.{count_by-le-length, length-filter, sum_by-cons}
use Rattle.lv_base.specs.declared.ids.ValId.{ValId}
use Rattle.lv_base.specs.declared.ids.MoveId.{MoveId}
use Rattle.lv_base.specs.declared.rank.Rank.{Rank}
use Rattle.lv_base.specs.declared.search.Pair.{Pair}
use Rattle.lv_base.specs.Choices.{pairs_of}
use Rattle.lv_model.specs.declared.plant.Plant.{Plant}
use Rattle.lv_model.specs.declared.state.TrackedState.{TrackedState}
use Rattle.lv_model.specs.Meaning.{is_step}
use Rattle.lv_meaning.specs.declared.facts.Observation.{Observation}
use Rattle.lv_meaning.specs.declared.facts.Facts.{Facts}
use Rattle.lv_meaning.specs.Facts.{agrees, meets, now_facts, meets_facts}
use Rattle.lv_meaning.specs.lv_boxes.declared.outcome.Outcome.TheVariants.{Settled}
use Rattle.lv_meaning.specs.lv_boxes.Walk.{candidate_of}
use Rattle.lv_meaning.specs.Possible.{value, move_number, extends, is_possible}
use Rattle.lv_meaning.specs.PossibleLaws.{Witness}
use Rattle.lv_meaning.specs.Candidates.{candidates, is_possible_rank}
use Rattle.lv_meaning.specs.Diagnosis.{diagnosis_walk}
use Rattle.lv_meaning.proofs.Possibility.{witnessed, possible}
use Rattle.lv_meaning.proofs.DiagnosisWalks.{diagnosis_exact}
use Rattle.lv_ident.specs.Probing.{with_next, is_allowed}
use Rattle.lv_probe.specs.Probing.{number_with}

-- what is possible with one observation more is possible without it
still_possible : (plant : Plant) (facts : Facts) (o : Observation) (pairs : List Pair) → is_possible plant (with_next facts o) pairs ≡ true → is_possible plant facts pairs ≡ true
still_possible plant facts o pairs can =
    let w : Witness plant (with_next facts o) pairs = witnessed plant (with_next facts o) pairs can in
    let a : List ValId = map value w.before in
    let b : List ValId = map value w.after in
    let ms : List MoveId = map move_number w.moves in
    let one = and_parts (extends ms pairs) (is_step plant a b ms && meets_facts plant (with_next facts o) a b) w.step in
    let two = and_parts (is_step plant a b ms) (meets_facts plant (with_next facts o) a b) one.1 in
    let three = and_parts (meets a (now_facts plant facts)) (meets b (facts.next ++ o ∷ [])) two.1 in
    let seen = and_parts (meets b facts.next) (meets b (o ∷ [])) (sym (list_all-append (agrees b) facts.next (o ∷ [])) ∙ three.1) in
    possible plant facts pairs
    (record {
      before = w.before;
      after = w.after;
      moves = w.moves;
      before_below = w.before_below;
      after_below = w.after_below;
      moves_below = w.moves_below;
      step =
          and_from (extends ms pairs) (is_step plant a b ms && meets_facts plant facts a b) one.0
          (and_from (is_step plant a b ms) (meets_facts plant facts a b) two.0 (and_from (meets a (now_facts plant facts)) (meets b facts.next) three.0 seen.0));
    })

module _ {X : Type 0} where
  -- a stronger test takes the same out of what passes a weaker one
  filter_within : (p q : X → Bool) → ((x : X) → q x ≡ true → p x ≡ true) → (xs : List X) → filter q (filter p xs) ≡ filter q xs
  filter_within p q stronger [] = refl
  filter_within p q stronger (x ∷ xs) = by (p x) (q x) refl refl (filter_within p q stronger xs)
    where
      by : (b c : Bool) → p x ≡ b → q x ≡ c → filter q (filter p xs) ≡ filter q xs → filter q (cond b (x ∷ filter p xs) (filter p xs)) ≡ cond c (x ∷ filter q xs) (filter q xs)
      by true true e f ih = ap (λ d. cond d (x ∷ filter q (filter p xs)) (filter q (filter p xs))) f ∙ ap (λ ys. x ∷ ys) ih
      by true false e f ih = ap (λ d. cond d (x ∷ filter q (filter p xs)) (filter q (filter p xs))) f ∙ ih
      by false true e f ih = let clash : true ≡ false = sym (stronger x f) ∙ e in absurd (cc clash)
      by false false e f ih = ih

  -- where the first k are fewer than k, they are all
  all_of_few : (k : ℕ) (xs : List X) → length (take k xs) < k → length xs ≤ k
  all_of_few k xs few = by (cases_order k (length xs))
    where
      by : (k ≡ length xs) ⊎ ((k < length xs) ⊎ (length xs < k)) → length xs ≤ k
      by (inr (inl less)) = let whole = length-take-le k xs (omega (arith, less)) in absurd (omega (arith, whole, few))
      by (inl same) = omega (arith, same)
      by (inr (inr less)) = omega (arith, less)

-- how many of the candidates of ranks pass
count_of_ranks : (plant : Plant) (facts : Facts) (o : Observation) (rs : List Rank) → count_by (is_allowed plant facts o) (map candidate_of rs) ≡ count_by (is_possible_rank plant (with_next facts o)) rs
count_of_ranks plant facts o [] = refl
count_of_ranks plant facts o (r ∷ rs) =
    let here : ℕ = cond (is_allowed plant facts o (candidate_of r)) 1 0 in
    sum_by-cons (λ c. cond (is_allowed plant facts o c) 1 0) (candidate_of r) (map candidate_of rs)
    ∙ ap (λ (n : ℕ). here + n) (count_of_ranks plant facts o rs)
    ∙ sym (sum_by-cons (λ (s : Rank). cond (is_possible_rank plant (with_next facts o) s) 1 0) r rs)

pub numbers_listed : (plant : Plant) (facts : Facts) (tracked : List TrackedState) (k budget other : ℕ) (o : Observation)
    → (diagnosis_walk plant facts k false budget (candidates plant tracked)).outcome ≡ Settled
    → length (diagnosis_walk plant facts k false budget (candidates plant tracked)).listed < k
    → (diagnosis_walk plant (with_next facts o) k false other (candidates plant tracked)).outcome ≡ Settled
    → number_with plant facts (map candidate_of (diagnosis_walk plant facts k false budget (candidates plant tracked)).listed) o
    ≡ length (diagnosis_walk plant (with_next facts o) k false other (candidates plant tracked)).listed
numbers_listed plant facts tracked k budget other o settled few again =
    let cs : List Rank = candidates plant tracked in
    let p : Rank → Bool = is_possible_rank plant facts in
    let q : Rank → Bool = is_possible_rank plant (with_next facts o) in
    let listed : List Rank = (diagnosis_walk plant facts k false budget cs).listed in
    let is : listed ≡ take k (filter p cs) = diagnosis_exact plant facts k budget cs settled in
    let fewer : length (take k (filter p cs)) < k = subst (λ (rs : List Rank). length rs < k) is few in
    let short : length (filter p cs) ≤ k = all_of_few k (filter p cs) fewer in
    let whole : listed ≡ filter p cs = is ∙ take_all k (filter p cs) short in
    let within : filter q (filter p cs) ≡ filter q cs = filter_within p q (λ r. still_possible plant facts o (pairs_of r.choices)) cs in
    let counted : length (filter q (filter p cs)) ≡ count_by q (filter p cs) = length-filter q (filter p cs) in
    let less = count_by-le-length q (filter p cs) in
    let short_too : length (filter q cs) ≤ k = subst (λ (rs : List Rank). length rs ≤ k) within (omega (arith, counted, less, short)) in
    let there : (diagnosis_walk plant (with_next facts o) k false other cs).listed ≡ filter q cs = diagnosis_exact plant (with_next facts o) k other cs again ∙ take_all k (filter q cs) short_too in
    count_of_ranks plant facts o listed
    ∙ ap (count_by q) whole
    ∙ sym counted
    ∙ ap (λ (rs : List Rank). length rs) within
    ∙ sym (ap (λ (rs : List Rank). length rs) there)
