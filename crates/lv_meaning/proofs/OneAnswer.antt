-- Only one list of possible candidates is the answer.
use Rattle.std.proofs.Common.{◌≡◌, ℕ, zero, suc, ◌≤◌, ◌<◌, true, false, List, [], ◌∷◌, length, take, filter, inl, inr, ⊎_elim, refl, sym, subst, ◌∙◌, ap₂, arith}
use Rattle.std.proofs.lemmas.Bool.{and_parts}
use Rattle.std.specs.List.{list_all}
use Rattle.lv_base.specs.declared.rank.Rank.{Rank}
use Rattle.lv_base.specs.Rank.{rank_key, ranks_before}
use Rattle.lv_base.proofs.OrderLemmas.{irreflexive, transitive}
use Rattle.lv_model.specs.declared.plant.Plant.{Plant}
use Rattle.lv_meaning.specs.declared.facts.Facts.{Facts}
use Rattle.lv_model.specs.declared.state.TrackedState.{TrackedState}
use Rattle.lv_meaning.specs.Candidates.{candidates, is_possible_rank, first_possible}
use Rattle.lv_boxes.specs.Ranked.{rises}
use Rattle.lv_meaning.specs.CandidateLaws.{IsCandidate, IsAnswer}
use Rattle.lv_meaning.proofs.Rising.{candidates_rise_law}
use Rattle.lv_meaning.proofs.Among.{Among, among, contained, all_among}
use Rattle.lv_meaning.proofs.Listing.{is_listed, is_candidate}
use Rattle.lv_meaning.proofs.Answering.{among_passing, among_filtered, all_pass, rise_filtered}

-- at most k of these ranks, in order; the others rank after them, and there are none where they are fewer
pub record IsFirst (k : ℕ) (all first : List Rank) : Type 0 where
  pub few : length first ≤ k
  pub rising : rises first ≡ true
  pub members : (r : Rank) → Among r first → Among r all
  pub others_after : (r other : Rank) → Among r first → Among other all → (Among other first → ⊥) → ranks_before r other ≡ true
  pub none_left_out : length first < k → (r : Rank) → Among r all → Among r first

-- no rank ranks before itself
not_itself : (r : Rank) → ranks_before r r ≡ true → ⊥
not_itself r h = let never : ranks_before r r ≡ false = irreflexive (rank_key r) in let clash : true ≡ false = sym h ∙ never in cc clash

-- what is among later ranks isn't the first
not_first : (x r : Rank) (rs : List Rank) → list_all (ranks_before x) rs ≡ true → Among r rs → r ≡ x → ⊥
not_first x r rs h a e = not_itself x (subst (λ (y : Rank). ranks_before x y ≡ true) e (all_among (ranks_before x) rs r h a))

-- the first of the list is the first of all
same_head : (k : ℕ) (x y : Rank) (xs ys : List Rank) → rises (x ∷ xs) ≡ true → IsFirst k (x ∷ xs) (y ∷ ys) → Among y (x ∷ xs) → y ≡ x
same_head k x y xs ys h f (inl e) = e
same_head k x y xs ys h f (inr a) =
    let x_first : ranks_before x y ≡ true = all_among (ranks_before x) xs y ((and_parts (list_all (ranks_before x) xs) (rises xs) h).0) a in
    let y_first : list_all (ranks_before y) ys ≡ true = (and_parts (list_all (ranks_before y) ys) (rises ys) f.rising).0 in
    let turned : ranks_before y x ≡ true → ⊥ = λ yx. not_itself x (transitive (rank_key x) (rank_key y) (rank_key x) x_first yx) in
    absurd (turned (f.others_after y x (inl refl) (inl refl)
    (⊎_elim (λ e. not_itself x (subst (λ (z : Rank). ranks_before x z ≡ true) (sym e) x_first)) (λ b. turned (all_among (ranks_before y) ys x y_first b)))))

-- behind the first the same holds of what is left
behind_first : (k : ℕ) (x y : Rank) (xs ys : List Rank) → rises (x ∷ xs) ≡ true → y ≡ x → IsFirst (suc k) (x ∷ xs) (y ∷ ys) → IsFirst k xs ys
behind_first k x y xs ys h e f =
    let x_first : list_all (ranks_before x) xs ≡ true = (and_parts (list_all (ranks_before x) xs) (rises xs) h).0 in
    let y_first : list_all (ranks_before y) ys ≡ true = (and_parts (list_all (ranks_before y) ys) (rises ys) f.rising).0 in
    let few = f.few in
    record {
      few = omega arith;
      rising = (and_parts (list_all (ranks_before y) ys) (rises ys) f.rising).1;
      members = λ r a. ⊎_elim (λ is. absurd (not_first y r ys y_first a (is ∙ sym e))) (λ b. b) (f.members r (inr a));
      others_after = λ r other a b left. f.others_after r other (inr a) (inr b) (⊎_elim (λ is. not_first x other xs x_first b (is ∙ e)) left);
      none_left_out =
          λ fewer r a. ⊎_elim (λ is. absurd (not_first x r xs x_first a (is ∙ e))) (λ b. b) (f.none_left_out (omega arith) r (inr a));
    }

pub first_is : (k : ℕ) (all first : List Rank) → rises all ≡ true → IsFirst k all first → first ≡ take k all
first_is zero all [] h f = refl
first_is zero all (y ∷ ys) h f = let few = f.few in absurd (omega arith)
first_is (suc k) [] [] h f = refl
first_is (suc k) [] (y ∷ ys) h f = absurd (f.members y (inl refl))
first_is (suc k) (x ∷ xs) [] h f = absurd (f.none_left_out (omega arith) x (inl refl))
first_is (suc k) (x ∷ xs) (y ∷ ys) h f =
    let e : y ≡ x = same_head (suc k) x y xs ys h f (f.members y (inl refl)) in
    ap₂ (λ (r : Rank) (rs : List Rank). r ∷ rs) e
    (first_is k xs ys ((and_parts (list_all (ranks_before x) xs) (rises xs) h).1) (behind_first k x y xs ys h e f))

pub one_answer : (k : ℕ) (plant : Plant) (facts : Facts) (tracked : List TrackedState) (answer : List Rank) → IsAnswer k plant facts tracked answer
    → answer ≡ first_possible k plant facts tracked
one_answer k plant facts tracked answer is =
    let all : List Rank = candidates plant tracked in
    let possible : List Rank = filter (is_possible_rank plant facts) all in
    let can : (r : Rank) → Among r possible → is_possible_rank plant facts r ≡ true = λ r a. all_among (is_possible_rank plant facts) possible r (all_pass (is_possible_rank plant facts) all) a in
    let candidate : (r : Rank) → Among r possible → IsCandidate plant tracked r = λ r a. is_candidate plant tracked r (contained all r (among_filtered (is_possible_rank plant facts) all r a)) in
    first_is k possible answer (rise_filtered (is_possible_rank plant facts) all (candidates_rise_law plant tracked))
    (record {
      few = is.few;
      rising = is.rising;
      members =
          λ r a.
          among_passing (is_possible_rank plant facts) all r (among all r (is_listed plant tracked r (is.candidates r (contained answer r a)))) (is.possible r (contained answer r a));
      others_after = λ r other a b left. is.others_after r other (contained answer r a) (candidate other b) (can other b) (λ c. left (among answer other c));
      none_left_out = λ fewer r a. among answer r (is.none_left_out fewer r (candidate r a) (can r a));
    })
