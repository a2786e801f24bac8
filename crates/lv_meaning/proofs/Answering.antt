-- The answer is the first of the possible candidates.
use Rattle.std.proofs.Common.{◌≡◌, ℕ, zero, suc, ◌≤◌, ◌<◌, Bool, true, false, List, [], ◌∷◌, length, take, filter, cond, inl, inr, refl, sym, subst, ◌∙◌, ap, arith}
use Rattle.std.proofs.lemmas.Bool.{and_parts, and_from}
use Rattle.std.specs.List.{list_all}
use Rattle.lv_base.specs.declared.rank.Rank.{Rank}
use Rattle.lv_base.specs.Rank.{ranks_before}
use Rattle.lv_model.specs.declared.plant.Plant.{Plant}
use Rattle.lv_meaning.specs.declared.facts.Facts.{Facts}
use Rattle.lv_model.specs.declared.state.TrackedState.{TrackedState}
use Rattle.lv_meaning.specs.Candidates.{candidates, is_possible_rank, first_possible}
use Rattle.lv_boxes.specs.Ranked.{rises}
use Rattle.lv_meaning.specs.CandidateLaws.{IsAnswer}
use Rattle.lv_meaning.proofs.Rising.{candidates_rise_law}
use Rattle.lv_meaning.proofs.Among.{Among, among, contained, all_among}
use Rattle.lv_meaning.proofs.Listing.{is_listed, is_candidate}

module _ {X : Type 0} where
  all_filtered : (f p : X → Bool) (xs : List X) → list_all f xs ≡ true → list_all f (filter p xs) ≡ true
  all_filtered f p [] h = refl
  all_filtered f p (x ∷ xs) h = by (p x) (all_filtered f p xs ((and_parts (f x) (list_all f xs) h).1))
    where
      by : (b : Bool) → list_all f (filter p xs) ≡ true → list_all f (cond b (x ∷ filter p xs) (filter p xs)) ≡ true
      by true rest = and_from (f x) (list_all f (filter p xs)) ((and_parts (f x) (list_all f xs) h).0) rest
      by false rest = rest

  all_taken : (f : X → Bool) (k : ℕ) (xs : List X) → list_all f xs ≡ true → list_all f (take k xs) ≡ true
  all_taken f zero xs h = refl
  all_taken f (suc k) [] h = refl
  all_taken f (suc k) (x ∷ xs) h =
      and_from (f x) (list_all f (take k xs)) ((and_parts (f x) (list_all f xs) h).0) (all_taken f k xs ((and_parts (f x) (list_all f xs) h).1))

  among_taken : (k : ℕ) (xs : List X) (x : X) → Among x (take k xs) → Among x xs
  among_taken zero xs x h = absurd h
  among_taken (suc k) [] x h = absurd h
  among_taken (suc k) (y ∷ ys) x (inl e) = inl e
  among_taken (suc k) (y ∷ ys) x (inr h) = inr (among_taken k ys x h)

  few_taken : (k : ℕ) (xs : List X) → length (take k xs) ≤ k
  few_taken zero xs = omega arith
  few_taken (suc k) [] = omega arith
  few_taken (suc k) (x ∷ xs) = let rest : length (take k xs) ≤ k = few_taken k xs in omega arith

  all_are_taken : (k : ℕ) (xs : List X) (x : X) → length (take k xs) < k → Among x xs → Among x (take k xs)
  all_are_taken zero xs x few h = absurd (omega arith)
  all_are_taken (suc k) [] x few h = absurd h
  all_are_taken (suc k) (y ∷ ys) x few (inl e) = inl e
  all_are_taken (suc k) (y ∷ ys) x few (inr h) = inr (all_are_taken k ys x (omega arith) h)

  pub among_passing : (p : X → Bool) (xs : List X) (x : X) → Among x xs → p x ≡ true → Among x (filter p xs)
  among_passing p [] x h passes = absurd h
  among_passing p (y ∷ ys) x (inl e) passes =
      subst (λ b. Among x (cond b (y ∷ filter p ys) (filter p ys))) (sym (ap p (sym e) ∙ passes)) (inl e)
  among_passing p (y ∷ ys) x (inr h) passes = by (p y) (among_passing p ys x h passes)
    where
      by : (b : Bool) → Among x (filter p ys) → Among x (cond b (y ∷ filter p ys) (filter p ys))
      by true a = inr a
      by false a = a

  pub among_filtered : (p : X → Bool) (xs : List X) (x : X) → Among x (filter p xs) → Among x xs
  among_filtered p [] x h = absurd h
  among_filtered p (y ∷ ys) x h = by (p y) (among_filtered p ys x) h
    where
      by : (b : Bool) → (Among x (filter p ys) → Among x ys) → Among x (cond b (y ∷ filter p ys) (filter p ys)) → Among x (y ∷ ys)
      by true rest (inl e) = inl e
      by true rest (inr a) = inr (rest a)
      by false rest a = inr (rest a)

  pub all_pass : (p : X → Bool) (xs : List X) → list_all p (filter p xs) ≡ true
  all_pass p [] = refl
  all_pass p (y ∷ ys) = by (p y) refl (all_pass p ys)
    where
      by : (b : Bool) → p y ≡ b → list_all p (filter p ys) ≡ true → list_all p (cond b (y ∷ filter p ys) (filter p ys)) ≡ true
      by true e rest = and_from (p y) (list_all p (filter p ys)) e rest
      by false e rest = rest

pub rise_filtered : (p : Rank → Bool) (rs : List Rank) → rises rs ≡ true → rises (filter p rs) ≡ true
rise_filtered p [] h = refl
rise_filtered p (r ∷ rs) h = by (p r) (rise_filtered p rs ((and_parts (list_all (ranks_before r) rs) (rises rs) h).1))
  where
    by : (b : Bool) → rises (filter p rs) ≡ true → rises (cond b (r ∷ filter p rs) (filter p rs)) ≡ true
    by true rest =
        and_from (list_all (ranks_before r) (filter p rs)) (rises (filter p rs))
        (all_filtered (ranks_before r) p rs ((and_parts (list_all (ranks_before r) rs) (rises rs) h).0)) rest
    by false rest = rest

rise_taken : (k : ℕ) (rs : List Rank) → rises rs ≡ true → rises (take k rs) ≡ true
rise_taken zero rs h = refl
rise_taken (suc k) [] h = refl
rise_taken (suc k) (r ∷ rs) h =
    and_from (list_all (ranks_before r) (take k rs)) (rises (take k rs))
    (all_taken (ranks_before r) k rs ((and_parts (list_all (ranks_before r) rs) (rises rs) h).0))
    (rise_taken k rs ((and_parts (list_all (ranks_before r) rs) (rises rs) h).1))

-- of ranks in order one that is not among the first ranks after all of these
rest_after : (k : ℕ) (rs : List Rank) (r other : Rank) → rises rs ≡ true → Among r (take k rs) → Among other rs → (Among other (take k rs) → ⊥) → ranks_before r other ≡ true
rest_after zero rs r other h taken there left = absurd taken
rest_after (suc k) [] r other h taken there left = absurd taken
rest_after (suc k) (x ∷ xs) r other h taken (inl e) left = absurd (left (inl e))
rest_after (suc k) (x ∷ xs) r other h (inl e) (inr a) left =
    ap (λ (y : Rank). ranks_before y other) e ∙ all_among (ranks_before x) xs other ((and_parts (list_all (ranks_before x) xs) (rises xs) h).0) a
rest_after (suc k) (x ∷ xs) r other h (inr t) (inr a) left =
    rest_after k xs r other ((and_parts (list_all (ranks_before x) xs) (rises xs) h).1) t a (λ b. left (inr b))

pub answer_law : (k : ℕ) (plant : Plant) (facts : Facts) (tracked : List TrackedState) → IsAnswer k plant facts tracked (first_possible k plant facts tracked)
answer_law k plant facts tracked =
    let all : List Rank = candidates plant tracked in
    let possible : List Rank = filter (is_possible_rank plant facts) all in
    let rising : rises possible ≡ true = rise_filtered (is_possible_rank plant facts) all (candidates_rise_law plant tracked) in
    record {
      few = few_taken k possible;
      rising = rise_taken k possible rising;
      candidates = λ r h. is_candidate plant tracked r (contained all r (among_filtered (is_possible_rank plant facts) all r (among_taken k possible r (among (take k possible) r h))));
      possible = λ r h. all_among (is_possible_rank plant facts) possible r (all_pass (is_possible_rank plant facts) all) (among_taken k possible r (among (take k possible) r h));
      others_after =
          λ r other h is can left.
          rest_after k possible r other rising (among (take k possible) r h) (among_passing (is_possible_rank plant facts) all other (among all other (is_listed plant tracked other is)) can)
          (λ a. left (contained (take k possible) other a));
      none_left_out =
          λ few r is can.
          contained (take k possible) r (all_are_taken k possible r few (among_passing (is_possible_rank plant facts) all r (among all r (is_listed plant tracked r is)) can));
    }
