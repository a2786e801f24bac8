-- What a probe of the current diagnosis needs, and what its numbers are.
use Rattle.std.proofs.Common.{◌≡◌, ℕ, ◌<◌, Bool, true, false, cond, List, [], ◌∷◌, ◌++◌, length, map, sym, subst, ap, ◌∙◌, All}
use Rattle.std.proofs.lemmas.Bool.{and_parts}
use Rattle.std.proofs.lemmas.List.{map-append}
use Rattle.std.proofs.lemmas.List.Elements.{All-cons, All-nil, All-head, All-tail}
use Rattle.lv_base.specs.declared.rank.Rank.{Rank}
use Rattle.lv_model.specs.declared.plant.Plant.{Plant}
use Rattle.lv_boxes.specs.declared.outcome.Outcome.TheVariants.{Settled}
use Rattle.lv_boxes.specs.Walk.{Walked, candidate_of, suit_all}
use Rattle.lv_session_state.specs.lv_meaning.Candidates.{candidates, is_possible_candidate}
use Rattle.lv_session_state.specs.lv_meaning.Diagnosis.{reason_of, diagnosis_walk}
use Rattle.lv_session_state.specs.lv_meaning.Targets.{are_alike}
use Rattle.lv_session_state.specs.lv_ident.Probing.{with_next}
use Rattle.lv_session_state.specs.lv_ident.lv_search_zones.Moves.{is_full_choice}
use Rattle.lv_session_state.proofs.lv_ident.lv_search_zones.ZoneLemmas.{candidates_are_full}
use Rattle.lv_probe.specs.Probing.{IsFull, number_with}
use Rattle.lv_probe.proofs.LawLemmas.{numbers_listed}
use Rattle.lv_reply.specs.declared.reply.Refusal.TheVariants.{NameHeld, TooManyHeld}
use Rattle.lv_reply.specs.declared.reply.Reply.TheVariants.{Refused}
use Rattle.lv_session_state.specs.lv_session_request.Held.{observation_of}
use Rattle.lv_session_state.specs.lv_session_request.declared.request.Sighting.{Sighting}
use Rattle.lv_session_state.specs.State.{SessionState, unchanged, cleared, facts_of, walked, is_held, has_no_room, observe}
use Rattle.lv_session_state.specs.declared.query.Query.{Query}
use Rattle.lv_session_state.specs.declared.query.Query.TheVariants.{Diagnosis}
use Rattle.lv_session_state.specs.declared.running.Running.{Running}
use Rattle.lv_session_state.specs.Current.{kept_walk, IsKeptOf}
use Rattle.lv_session.specs.Laws.{is_refused}
use Rattle.lv_session_state.proofs.Kept.{diagnosis_came_to}
use Rattle.lv_session_state.proofs.Listed.{listed_all}

-- the candidate of the rank has a move for each part
record IsFullRank (plant : Plant) (r : Rank) : Type 0 where
  full : IsFull plant (candidate_of r)

ranks_full : (plant : Plant) (rs : List Rank) → suit_all (is_full_choice plant) rs ≡ true → All (IsFullRank plant) rs
ranks_full plant [] h = All-nil (IsFullRank plant)
ranks_full plant (r ∷ rs) h =
    let two = and_parts (is_full_choice plant (candidate_of r)) (suit_all (is_full_choice plant) rs) h in
    All-cons (IsFullRank plant) r rs (record { full = record { moves = two.0 } }) (ranks_full plant rs two.1)

of_ranks : (plant : Plant) (rs : List Rank) → All (IsFullRank plant) rs → All (IsFull plant) (map candidate_of rs)
of_ranks plant [] all = All-nil (IsFull plant)
of_ranks plant (r ∷ rs) all =
    All-cons (IsFull plant) (candidate_of r) (map candidate_of rs) (All-head (IsFullRank plant) r rs all).full (of_ranks plant rs (All-tail (IsFullRank plant) r rs all))

walked_full : (plant : Plant) (state : SessionState) (n : ℕ) → All (IsFull plant) (map candidate_of (walked plant state n).listed)
unfolding walked
walked_full plant state n =
    of_ranks plant (walked plant state n).listed
    (listed_all (IsFullRank plant) (are_alike state.distinct plant) (is_possible_candidate plant (facts_of state)) (reason_of plant (facts_of state)) state.k n (candidates plant state.tracked) [] [] (All-nil (IsFullRank plant))
    (ranks_full plant (candidates plant state.tracked) (candidates_are_full plant state.tracked)))

-- what is kept of a diagnosis lists candidates that have a move for each part
pub listed_full : (q : Query) (plant : Plant) (state : SessionState) (r : Running) (sum : ℕ) → q ≡ Diagnosis sum → IsKeptOf q plant state r → All (IsFull plant) (map candidate_of (kept_walk r).listed)
listed_full q plant state r sum asked at = subst (λ (w : Walked). All (IsFull plant) (map candidate_of w.listed)) (diagnosis_came_to q plant state r sum asked at) (walked_full plant state sum)

module _ (plant : Plant) (state : SessionState) (s : Sighting) (plain : state.distinct ≡ false) where
  -- the walk of a diagnosis once the observation is held
  observed_walk : (other : ℕ) → walked plant (cleared (record state { next = state.next ++ (s ∷ []) })).state other
      ≡ diagnosis_walk plant (with_next (facts_of state) (observation_of s)) state.k false other (candidates plant state.tracked)
  unfolding walked
  observed_walk other =
      (λ i. diagnosis_walk plant (record (facts_of state) { next = map-append observation_of state.next (s ∷ []) i }) state.k state.distinct other (candidates plant state.tracked))
      ∙ ap (λ (b : Bool). diagnosis_walk plant (with_next (facts_of state) (observation_of s)) state.k b other (candidates plant state.tracked)) plain

  own_walk : (sum : ℕ) → walked plant state sum ≡ diagnosis_walk plant (facts_of state) state.k false sum (candidates plant state.tracked)
  unfolding walked
  own_walk sum = ap (λ (b : Bool). diagnosis_walk plant (facts_of state) state.k b sum (candidates plant state.tracked)) plain

  pub numbers_are : (sum other : ℕ) → (walked plant state sum).outcome ≡ Settled → length (walked plant state sum).listed < state.k → is_refused (observe state s).reply ≡ false
      → (walked plant (observe state s).state other).outcome ≡ Settled
      → number_with plant (facts_of state) (map candidate_of (walked plant state sum).listed) (observation_of s) ≡ length (walked plant (observe state s).state other).listed
  numbers_are sum other settled few = by (is_held state s.name) (has_no_room state s.name)
    where
      carried : (walked plant (cleared (record state { next = state.next ++ (s ∷ []) })).state other).outcome ≡ Settled
          → number_with plant (facts_of state) (map candidate_of (walked plant state sum).listed) (observation_of s) ≡ length (walked plant (cleared (record state { next = state.next ++ (s ∷ []) })).state other).listed
      carried again =
          ap (λ (w : Walked). number_with plant (facts_of state) (map candidate_of w.listed) (observation_of s)) (own_walk sum)
          ∙ numbers_listed plant (facts_of state) state.tracked state.k sum other (observation_of s)
          (ap (λ (w : Walked). w.outcome) (sym (own_walk sum)) ∙ settled) (subst (λ (w : Walked). length w.listed < state.k) (own_walk sum) few)
          (ap (λ (w : Walked). w.outcome) (sym (observed_walk other)) ∙ again)
          ∙ sym (ap (λ (w : Walked). length w.listed) (observed_walk other))

      by : (a b : Bool)
          → is_refused (cond a (unchanged state (Refused NameHeld)) (cond b (unchanged state (Refused TooManyHeld)) (cleared (record state { next = state.next ++ (s ∷ []) })))).reply ≡ false
          → (walked plant (cond a (unchanged state (Refused NameHeld)) (cond b (unchanged state (Refused TooManyHeld)) (cleared (record state { next = state.next ++ (s ∷ []) })))).state other).outcome ≡ Settled
          → number_with plant (facts_of state) (map candidate_of (walked plant state sum).listed) (observation_of s)
          ≡ length (walked plant (cond a (unchanged state (Refused NameHeld)) (cond b (unchanged state (Refused TooManyHeld)) (cleared (record state { next = state.next ++ (s ∷ []) })))).state other).listed
      by true b r again = absurd (cc r)
      by false true r again = absurd (cc r)
      by false false r again = carried again
