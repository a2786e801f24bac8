-- What is known of a settled diagnosis: its listed candidates can be shown, its kept conflicts refuted, and each candidate explained.
use Rattle.std.proofs.Common.{◌≡◌, ℕ, zero, suc, ◌≤◌, Bool, true, false, not, ◌&&◌, ◌||◌, nat_lt, List, [], ◌∷◌, ◌++◌, inl, inr, ⊎_elim, length, take, filter, slice_index_or, Some, None, refl, sym, subst, ◌∙◌, ap, arith, All, Contains}
use Rattle.std.specs.List.{list_all, list_any}
use Rattle.std.proofs.lemmas.Bool.{and_parts, and_from, lt-ltb, ltb-true, not-true}
use Rattle.std.proofs.lemmas.List.Elements.{All-contains_itself, All-head, All-tail, All-cons, All-nil}
use Rattle.std.proofs.lemmas.List.Folds.{list_all-append}
use Rattle.lv_base.specs.declared.rank.Rank.{Rank}
use Rattle.lv_base.specs.declared.search.Pair.{Pair}
use Rattle.lv_base.specs.declared.search.Candidate.{Candidate}
use Rattle.lv_base.specs.Rank.{ranks_before}
use Rattle.lv_base.specs.Choices.{pairs_of, picks}
use Rattle.lv_model.specs.declared.plant.Plant.{Plant}
use Rattle.lv_model.specs.declared.state.TrackedState.{TrackedState}
use Rattle.lv_model.specs.Lists.{move_counts}
use Rattle.lv_meaning.specs.lv_boxes.declared.outcome.Outcome.TheVariants.{Settled}
use Rattle.lv_meaning.specs.lv_boxes.Ranked.{rises, is_among}
use Rattle.lv_meaning.specs.lv_boxes.Walk.{Walked, candidate_of, walk_from, distinct_walk, first_of_each}
use Rattle.lv_meaning.specs.lv_boxes.Groups.{alike_by}
use Rattle.lv_meaning.proofs.lv_boxes.WalkLemmas.{turn, distinct_exact}
use Rattle.lv_meaning.proofs.lv_boxes.ReasonLemmas.{still_impossible, part_of_all}
use Rattle.lv_meaning.specs.declared.facts.Facts.{Facts}
use Rattle.lv_meaning.specs.Possible.{is_possible}
use Rattle.lv_meaning.specs.Candidates.{candidates, is_possible_candidate, is_possible_rank}
use Rattle.lv_meaning.specs.Targets.{are_alike}
use Rattle.lv_meaning.specs.Diagnosis.{reason_of, diagnosis_walk}
use Rattle.lv_meaning.specs.CandidateLaws.{IsCandidate}
use Rattle.lv_meaning.proofs.Among.{Among, among, contained, all_among, among_either}
use Rattle.lv_meaning.proofs.Listing.{is_candidate}
use Rattle.lv_meaning.proofs.Reasons.{is_sound, own_pairs}
use Rattle.lv_meaning.proofs.Answering.{among_filtered, all_pass, rise_filtered}
use Rattle.lv_meaning.proofs.Rising.{candidates_rise_law}
use Rattle.lv_search_zones.proofs.lv_boxes.RankedMemberLemmas.{among_ranked_members_any}
use Rattle.lv_search_zones.specs.Moves.{move_slots, zones_from, is_full_choice}
use Rattle.lv_search_zones.proofs.ZoneLemmas.{zones_have_candidates, candidates_are_full}
use Rattle.lv_ident.specs.Literals.{HasMove}
use Rattle.lv_ident.proofs.ReasonLemmas.{full_is_partial}
use Rattle.lv_cert_writing.specs.Explained.{AreExplained, is_explained, last_if_full}
use Rattle.lv_cert_writing.specs.SplitLaws.{HasReasonsInside, explains}
use Rattle.lv_cert_writing.proofs.SplitWalkLemmas.{walk_explains}
use Rattle.lv_cert_laws.proofs.Shown.{candidate_is_full}
use Rattle.lv_meaning.proofs.TargetLemmas.{alike_join, targets_are_groups}
use Rattle.lv_cert_laws.proofs.Distinct.{each_among, each_rises, each_apart}
use Rattle.lv_cert_laws.specs.lv_cert_meaning.Certifying.{IsSettledDiagnosis}
use Rattle.lv_cert_diagnosis.specs.Showing.{CanBeShown, CanBeRefuted, targets_for}
use Rattle.lv_cert_diagnosis.proofs.ListingLemmas.{rise_after, are_new}

-- what holds of each item of the list holds of all
all_of : {X : Type 0} (P : X → Type 0) (xs : List X) → ((x : X) → Contains xs x → P x) → All P xs
all_of P xs each = λ n d inside. each _ (All-contains_itself xs n d inside)

-- the slot has the choice, as a test
abbrev has_move : List ℕ → Pair → Bool
has_move counts p = nat_lt p.choice (slice_index_or counts p.slot 0)

moves_tested : (counts : List ℕ) (ps : List Pair) → All (HasMove counts) ps → list_all (has_move counts) ps ≡ true
moves_tested counts [] have = refl
moves_tested counts (p ∷ ps) have =
    and_from (has_move counts p) (list_all (has_move counts) ps) (lt-ltb p.choice (slice_index_or counts p.slot 0) (All-head (HasMove counts) p ps have).below) (moves_tested counts ps (All-tail (HasMove counts) p ps have))

moves_there : (counts : List ℕ) (ps : List Pair) → list_all (has_move counts) ps ≡ true → All (HasMove counts) ps
moves_there counts [] h = All-nil (HasMove counts)
moves_there counts (p ∷ ps) h =
    let two = and_parts (has_move counts p) (list_all (has_move counts) ps) h in
    All-cons (HasMove counts) p ps (record { below = ltb-true p.choice (slice_index_or counts p.slot 0) two.0 }) (moves_there counts ps two.1)

-- what the reasons of candidates that suit pass each kept conflict passes
module _ (alike : Rank → Rank → Bool) (suits fits : Candidate → Bool) (reason : Candidate → List Pair) (p : List Pair → Bool) (passes : (c : Candidate) → suits c ≡ true → fits c ≡ false → p (reason c) ≡ true) where
  kept_pass : (k budget : ℕ) (left listed : List Rank) (kept : List (List Pair)) → list_all (λ (r : Rank). suits (candidate_of r)) left ≡ true → list_all p kept ≡ true
      → list_all p (walk_from alike fits reason k budget listed kept left).kept ≡ true
  kept_pass k budget [] listed kept suit all = all
  kept_pass k budget (r ∷ rs) listed kept suit all =
      let two = and_parts (suits (candidate_of r)) (list_all (λ (q : Rank). suits (candidate_of q)) rs) suit in
      turn alike fits reason k budget (λ w. list_all p w.kept ≡ true) r rs listed kept
      (λ _. all)
      (λ _. kept_pass k budget rs listed kept two.1 all)
      (λ _. kept_pass k budget rs listed kept two.1 all)
      (λ _. all)
      (λ _ _ _ _. kept_pass k budget rs (listed ++ (r ∷ [])) kept two.1 all)
      (λ _ _ unfit. kept_pass k budget rs listed (kept ++ (reason (candidate_of r) ∷ [])) two.1
      (list_all-append p kept (reason (candidate_of r) ∷ []) ∙ and_from (list_all p kept) (p (reason (candidate_of r)) && true) all (and_from (p (reason (candidate_of r))) true (passes (candidate_of r) two.0 unfit) refl)))

all_suit : (ranks : List Rank) → list_all (λ (r : Rank). true) ranks ≡ true
all_suit [] = refl
all_suit (r ∷ rs) = all_suit rs

-- a list that rises does so one after the other
pub rising_after : (listed : List Rank) → rises listed ≡ true → rise_after None listed ≡ true
rising_after [] h = refl
rising_after (r ∷ rs) h = let two = and_parts (list_all (ranks_before r) rs) (rises rs) h in later r rs two.0 two.1
  where
    later : (q : Rank) (qs : List Rank) → list_all (ranks_before q) qs ≡ true → rises qs ≡ true → rise_after (Some q) qs ≡ true
    later q [] before up = refl
    later q (x ∷ xs) before up =
        let here = and_parts (ranks_before q x) (list_all (ranks_before q) xs) before in
        let more = and_parts (list_all (ranks_before x) xs) (rises xs) up in
        and_from (ranks_before q x) (rise_after (Some x) xs) here.0 (later x xs more.0 more.1)

-- the first of a list
among_taken : (k : ℕ) (rs : List Rank) (r : Rank) → Among r (take k rs) → Among r rs
among_taken zero rs r a = absurd a
among_taken (suc k) [] r a = absurd a
among_taken (suc k) (x ∷ xs) r (inl e) = inl e
among_taken (suc k) (x ∷ xs) r (inr a) = inr (among_taken k xs r a)

few_taken : (k : ℕ) (rs : List Rank) → length (take k rs) ≤ k
few_taken zero rs = omega arith
few_taken (suc k) [] = omega arith
few_taken (suc k) (x ∷ xs) = let rest : length (take k xs) ≤ k = few_taken k xs in omega (arith, rest)

all_taken : (f : Rank → Bool) (k : ℕ) (rs : List Rank) → list_all f rs ≡ true → list_all f (take k rs) ≡ true
all_taken f zero rs h = refl
all_taken f (suc k) [] h = refl
all_taken f (suc k) (x ∷ xs) h = let two = and_parts (f x) (list_all f xs) h in and_from (f x) (list_all f (take k xs)) two.0 (all_taken f k xs two.1)

rise_taken : (k : ℕ) (rs : List Rank) → rises rs ≡ true → rises (take k rs) ≡ true
rise_taken zero rs h = refl
rise_taken (suc k) [] h = refl
rise_taken (suc k) (x ∷ xs) h =
    let two = and_parts (list_all (ranks_before x) xs) (rises xs) h in
    and_from (list_all (ranks_before x) (take k xs)) (rises (take k xs)) (all_taken (ranks_before x) k xs two.0) (rise_taken k xs two.1)

-- none of these passes
none_pass : (p : Rank → Bool) (qs : List Rank) → ((q : Rank) → Among q qs → p q ≡ false) → list_any p qs ≡ false
none_pass p [] each = refl
none_pass p (q ∷ qs) each = (λ i. each q (inl refl) i || none_pass p qs (λ x a. each x (inr a)) i)

-- of a list that rises each is alike none before it, and none of these before the first
pub new_after : (alike : Rank → Rank → Bool) (before rs : List Rank) → rises rs ≡ true → ((r q : Rank) → Among r rs → Among q before → alike r q ≡ false)
    → ((r q : Rank) → Among r rs → Among q rs → ranks_before q r ≡ true → alike r q ≡ false) → are_new alike before rs ≡ true
new_after alike before [] rise old apart = refl
new_after alike before (r ∷ rs) rise old apart =
    let two = and_parts (list_all (ranks_before r) rs) (rises rs) rise in
    and_from (not (list_any (alike r) before)) (are_new alike (before ++ r ∷ []) rs) (ap not (none_pass (alike r) before (λ q a. old r q (inl refl) a)))
    (new_after alike (before ++ r ∷ []) rs two.1
    (λ x q a b. ⊎_elim (λ there. old x q (inr a) there) (λ here. ⊎_elim (λ e. ap (alike x) e ∙ apart x r (inr a) (inl refl) (all_among (ranks_before r) rs x two.0 a)) (λ never. absurd never) here)
    (among_either before (r ∷ []) q b))
    (λ x q a b front. apart x q (inr a) (inr b) front))

-- what is listed: few possible candidates in order, of which none is alike one before it
pub record IsListing (plant : Plant) (tracked : List TrackedState) (facts : Facts) (k : ℕ) (distinct : Bool) (listed : List Rank) : Type 0 where
  pub few : length listed ≤ k
  pub rising : rises listed ≡ true
  pub candidates : (r : Rank) → Contains listed r → IsCandidate plant tracked r
  pub possible : (r : Rank) → Contains listed r → is_possible_rank plant facts r ≡ true
  pub apart : (r q : Rank) → Among r listed → Among q listed → ranks_before q r ≡ true → are_alike distinct plant r q ≡ false

-- candidates are alike where the targets of their moves say so
alike_as : (distinct : Bool) (plant : Plant) → are_alike distinct plant ≡ alike_by (targets_for distinct plant)
alike_as false plant = refl
alike_as true plant = λ i r q. targets_are_groups plant r q i

module _ (plant : Plant) (tracked : List TrackedState) (facts : Facts) (k : ℕ) (distinct : Bool) (listed : List Rank) (kept : List (List Pair)) (s : IsSettledDiagnosis plant tracked facts k distinct listed kept) where
  abbrev walk_is : Walked
  walk_is = diagnosis_walk plant facts k distinct s.budget (candidates plant tracked)

  settled : walk_is.outcome ≡ Settled
  settled = ap (λ (w : Walked). w.outcome) s.settled

  abbrev possible : List Rank
  possible = filter (is_possible_rank plant facts) (candidates plant tracked)

  abbrev each_first : List Rank
  each_first = first_of_each (are_alike distinct plant) possible

  first : listed ≡ take k each_first
  first =
      sym (ap (λ (w : Walked). w.listed) s.settled)
      ∙ distinct_exact (are_alike distinct plant) (alike_join distinct plant) (λ (c : Candidate). true) (is_possible_candidate plant facts) (reason_of plant facts) (is_sound plant facts) k s.budget (candidates plant tracked)
      (all_suit (candidates plant tracked)) settled

  possible_rise : rises possible ≡ true
  possible_rise = rise_filtered (is_possible_rank plant facts) (candidates plant tracked) (candidates_rise_law plant tracked)

  all_there : (r : Rank) → Among r (take k each_first) → Among r possible
  all_there r a = each_among (are_alike distinct plant) possible r (among_taken k each_first r a)

  pub listing : IsListing plant tracked facts k distinct listed
  listing =
      subst (IsListing plant tracked facts k distinct) (sym first)
      (record {
        few = few_taken k each_first;
        rising = rise_taken k each_first (each_rises (are_alike distinct plant) possible possible_rise);
        candidates = λ r h. is_candidate plant tracked r (contained (candidates plant tracked) r (among_filtered (is_possible_rank plant facts) (candidates plant tracked) r (all_there r (among (take k each_first) r h))));
        possible = λ r h. all_among (is_possible_rank plant facts) possible r (all_pass (is_possible_rank plant facts) (candidates plant tracked)) (all_there r (among (take k each_first) r h));
        apart = λ r q a b front. each_apart (are_alike distinct plant) possible r possible_rise (among_taken k each_first r a) q (all_there q b) front;
      })

  pub listed_can_be_shown : All (CanBeShown plant facts) listed
  listed_can_be_shown = all_of (CanBeShown plant facts) listed (λ r there. record { full = candidate_is_full plant tracked r (listing.candidates r there); possible = listing.possible r there })

  pub listed_are_candidates : All (IsCandidate plant tracked) listed
  listed_are_candidates = all_of (IsCandidate plant tracked) listed listing.candidates

  -- what is asked of a conflict, as a test
  abbrev is_refutable : List Pair → Bool
  is_refutable ps = list_all (has_move (move_counts plant)) ps && not (is_possible plant facts ps)

  reason_passes : (c : Candidate) → is_full_choice plant c ≡ true → is_possible_candidate plant facts c ≡ false → is_refutable (reason_of plant facts c) ≡ true
  reason_passes c full unfit =
      and_from (list_all (has_move (move_counts plant)) (reason_of plant facts c)) (not (is_possible plant facts (reason_of plant facts c)))
      (part_of_all (is_possible plant facts) (has_move (move_counts plant)) [] (pairs_of c.choices) refl (moves_tested (move_counts plant) (pairs_of c.choices) (full_is_partial plant c.choices full).moves))
      (ap not (still_impossible (is_possible plant facts) [] (pairs_of c.choices) unfit))

  kept_tested : list_all is_refutable kept ≡ true
  kept_tested =
      ap (λ (w : Walked). list_all is_refutable w.kept) (sym s.settled)
      ∙ kept_pass (are_alike distinct plant) (is_full_choice plant) (is_possible_candidate plant facts) (reason_of plant facts) is_refutable reason_passes k s.budget (candidates plant tracked) [] [] (candidates_are_full plant tracked) refl

  all_refutable : (cs : List (List Pair)) → list_all is_refutable cs ≡ true → All (CanBeRefuted plant facts) cs
  all_refutable [] h = All-nil (CanBeRefuted plant facts)
  all_refutable (c ∷ cs) h =
      let two = and_parts (is_refutable c) (list_all is_refutable cs) h in
      let one = and_parts (list_all (has_move (move_counts plant)) c) (not (is_possible plant facts c)) two.0 in
      All-cons (CanBeRefuted plant facts) c cs (record { moves = moves_there (move_counts plant) c one.0; impossible = not-true (is_possible plant facts c) one.1 }) (all_refutable cs two.1)

  pub kept_can_be_refuted : All (CanBeRefuted plant facts) kept
  kept_can_be_refuted = all_refutable kept kept_tested

  inside : HasReasonsInside (is_full_choice plant) (is_possible_candidate plant facts) (reason_of plant facts)
  inside = record { inside = λ c full unfit. part_of_all (is_possible plant facts) (picks c.choices) [] (pairs_of c.choices) refl (own_pairs [] c.choices) }

  grouped_walk : distinct_walk (alike_by (targets_for distinct plant)) (is_possible_candidate plant facts) (reason_of plant facts) k s.budget (candidates plant tracked) ≡ walk_is
  grouped_walk =
      ap (λ (alike : Rank → Rank → Bool). distinct_walk alike (is_possible_candidate plant facts) (reason_of plant facts) k s.budget (candidates plant tracked)) (sym (alike_as distinct plant))

  explained : 1 ≤ k → (r : Rank) → is_among r (candidates plant tracked) ≡ true → is_explained (targets_for distinct plant) (last_if_full k listed) listed kept r ≡ true
  explained some r there =
      sym (ap (λ (w : Walked). explains (targets_for distinct plant) k w r) (grouped_walk ∙ s.settled))
      ∙ walk_explains (targets_for distinct plant) (is_full_choice plant) (is_possible_candidate plant facts) (reason_of plant facts) inside k s.budget some (candidates plant tracked) (candidates_rise_law plant tracked)
      (candidates_are_full plant tracked) (ap (λ (w : Walked). w.outcome) (grouped_walk ∙ s.settled)) r there

  pub all_explained : 1 ≤ k → AreExplained (targets_for distinct plant) (move_slots plant) (zones_from plant 0 tracked) (last_if_full k listed) listed kept
  all_explained some = record {
    each = λ r there.
        explained some r
        (ap (is_among r) (sym (zones_have_candidates plant tracked)) ∙ among_ranked_members_any (move_slots plant) (zones_from plant 0 tracked) r ∙ there);
  }
