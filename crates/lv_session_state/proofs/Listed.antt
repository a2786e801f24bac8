-- What the walk of a diagnosis lists: few candidates, each with a move for every part, and none dear.
use Rattle.std.proofs.Common.{◌≡◌, ℕ, ◌+◌, ◌*◌, ◌≤◌, Bool, true, List, [], ◌∷◌, ◌++◌, length, slice_get, Option, Some, None, refl, arith, All}
use Rattle.std.specs.Option.{option_map_or}
use Rattle.std.proofs.lemmas.Bool.{and_parts}
use Rattle.std.proofs.lemmas.List.Elements.{All-cons, All-append, All-head, All-tail, All-nil, Contains-get_or}
use Rattle.lv_base.specs.declared.ids.ValId.{ValId}
use Rattle.lv_base.specs.declared.rank.Rank.{Rank}
use Rattle.lv_base.specs.declared.search.Pair.{Pair}
use Rattle.lv_base.specs.declared.search.Candidate.{Candidate}
use Rattle.lv_base.specs.declared.limits.TheConstants.{PARTS, FAULT_COST}
use Rattle.lv_model.specs.declared.plant.Plant.{Plant}
use Rattle.lv_model.specs.declared.plant.ComponentType.{ComponentType}
use Rattle.lv_model.specs.declared.plant.Part.{Part}
use Rattle.lv_model.specs.declared.plant.Move.{Move}
use Rattle.lv_model.specs.WellFormed.{is_well_formed, MoveIsCheap, TypeIsSmall}
use Rattle.lv_model.proofs.Reading.{All-at, few-parts}
use Rattle.lv_model.proofs.Sizes.{small-types}
use Rattle.lv_boxes.specs.declared.outcome.Outcome.TheVariants.{Unsettled}
use Rattle.lv_boxes.specs.Walk.{candidate_of, walk_from}
use Rattle.lv_boxes.proofs.WalkLemmas.{turn, at_most, used_up_unsettled}
use Rattle.lv_meaning.specs.Candidates.{type_moves, move_cost, candidates, is_possible_candidate}
use Rattle.lv_meaning.specs.Diagnosis.{reason_of}
use Rattle.lv_meaning.specs.Targets.{are_alike}
use Rattle.lv_meaning.specs.CandidateLaws.{goes_from, are_moves, moves_cost, IsCandidate}
use Rattle.lv_meaning.proofs.Listing.{is_candidate}
use Rattle.lv_tracker.specs.Targets.{HasMoves}
use Rattle.lv_session_state.specs.State.{SessionState, facts_of, walked, trials}
use Rattle.lv_session_history.specs.Pasts.{most_cost, StateCosts}
use Rattle.lv_session_state.specs.States.{RankCosts, IsStateOf, IsListOf}

-- what holds of all entries holds of those that a walk lists
module _ (P : Rank → Type 0) (alike : Rank → Rank → Bool) (fits : Candidate → Bool) (reason : Candidate → List Pair) (k budget : ℕ) where
  pub listed_all : (left listed : List Rank) (kept : List (List Pair)) → All P listed → All P left → All P (walk_from alike fits reason k budget listed kept left).listed
  listed_all [] listed kept before all = before
  listed_all (r ∷ rs) listed kept before all =
      let rest : All P rs = All-tail P r rs all in
      turn alike fits reason k budget (λ w. All P w.listed) r rs listed kept
      (λ _. before)
      (λ _. listed_all rs listed kept before rest)
      (λ _. listed_all rs listed kept before rest)
      (λ _. before)
      (λ _ _ _ _. listed_all rs (listed ++ (r ∷ [])) kept (All-append P listed (r ∷ []) before (All-cons P r [] (All-head P r rs all) (All-nil P))) rest)
      (λ _ _ _. listed_all rs listed (kept ++ (reason (candidate_of r) ∷ [])) before rest)

pub move_for_each : (types : List ComponentType) (ps : List Part) (vs : List ValId) (cs : List ℕ) → are_moves types ps vs cs ≡ true → length cs ≡ length ps
move_for_each types [] vs [] e = refl
move_for_each types [] vs (c ∷ cs) e = absurd (cc e)
move_for_each types (p ∷ ps) [] cs e = absurd (cc e)
move_for_each types (p ∷ ps) (v ∷ vs) [] e = absurd (cc e)
move_for_each types (p ∷ ps) (v ∷ vs) (c ∷ cs) e =
    let rest : length cs ≡ length ps = move_for_each types ps vs cs (and_parts (goes_from (type_moves types p) v.0 c) (are_moves types ps vs cs) e).1 in
    omega arith

cheap_at : (ms : List Move) (n : ℕ) (o : Option Move) → slice_get ms n ≡ o → All MoveIsCheap ms → option_map_or (λ (m : Move). m.cost.0) o 0 ≤ FAULT_COST
cheap_at ms n None is all = omega arith
cheap_at ms n (Some m) is all = (All-at MoveIsCheap ms n m all is).cost

cheap_move : (types : List ComponentType) (k n : ℕ) (o : Option ComponentType) → slice_get types k ≡ o → All TypeIsSmall types
    → move_cost (option_map_or (λ (t : ComponentType). t.moves) o []) n ≤ FAULT_COST
cheap_move types k n None is all = cheap_at [] n (slice_get {X = Move} [] n) refl (All-nil MoveIsCheap)
cheap_move types k n (Some t) is all = cheap_at t.moves n (slice_get t.moves n) refl (All-at TypeIsSmall types k t all is).costs

pub cheap_moves : (types : List ComponentType) (ps : List Part) (cs : List ℕ) → All TypeIsSmall types → moves_cost types ps cs ≤ FAULT_COST * length ps
cheap_moves types [] cs all = omega arith
cheap_moves types (p ∷ ps) [] all = omega arith
cheap_moves types (p ∷ ps) (c ∷ cs) all =
    let one : move_cost (type_moves types p) c ≤ FAULT_COST = cheap_move types p.kind c (slice_get types p.kind) refl all in
    let rest : moves_cost types ps cs ≤ FAULT_COST * length ps = cheap_moves types ps cs all in
    omega arith

-- a candidate that can be taken over at a time
pub record IsReady (plant : Plant) (time : ℕ) (r : Rank) : Type 0 where
  pub moves : HasMoves (length plant.parts) r
  pub costs : RankCosts time r

module _ (plant : Plant) (state : SessionState) (h : is_well_formed plant ≡ true) (is : IsStateOf plant state) where
  ready : (r : Rank) → IsCandidate plant state.tracked r → IsReady plant (state.time + 1) r
  ready r c =
      let own : StateCosts state.time c.state = All-at (StateCosts state.time) state.tracked r.source c.state is.costs c.source in
      let most : c.state.cost.0 ≤ most_cost state.time = own.most in
      let moved : moves_cost plant.types plant.parts r.choices ≤ FAULT_COST * length plant.parts = cheap_moves plant.types plant.parts r.choices (small-types plant h) in
      let few : length plant.parts ≤ PARTS = few-parts plant h in
      let cost = c.cost in
      record {
        moves = record { moves = move_for_each plant.types plant.parts c.state.state.modes r.choices c.moves };
        costs = record { most = omega arith };
      }

  all_ready : All (IsReady plant (state.time + 1)) (candidates plant state.tracked)
  all_ready i d below = ready _ (is_candidate plant state.tracked _ (Contains-get_or (candidates plant state.tracked) i d below))

  each_ready : (n : ℕ) → All (IsReady plant (state.time + 1)) (walked plant state n).listed
  unfolding walked
  each_ready n =
      listed_all (IsReady plant (state.time + 1)) (are_alike state.distinct plant) (is_possible_candidate plant (facts_of state)) (reason_of plant (facts_of state)) state.k n
      (candidates plant state.tracked) [] [] (All-nil (IsReady plant (state.time + 1))) all_ready

  few_listed : (n : ℕ) → length (walked plant state n).listed ≤ state.k
  unfolding walked
  few_listed n =
      at_most (are_alike state.distinct plant) (is_possible_candidate plant (facts_of state)) (reason_of plant (facts_of state)) state.k n (candidates plant state.tracked) [] [] (omega arith)

  -- what a walk lists can be taken over
  pub list_of : (n : ℕ) → IsListOf plant state (walked plant state n).listed
  list_of n =
      let few : length (walked plant state n).listed ≤ state.k = few_listed n in
      let k = is.k.few in
      record {
        few = omega arith;
        moves = λ i d below. (each_ready n i d below).moves;
        costs = λ i d below. (each_ready n i d below).costs;
      }

-- a walk that isn't settled made as many trials as it may
pub all_trials : (plant : Plant) (state : SessionState) (n : ℕ) → (walked plant state n).outcome ≡ Unsettled → trials (walked plant state n) ≡ n
unfolding walked
all_trials plant state n =
    used_up_unsettled (are_alike state.distinct plant) (is_possible_candidate plant (facts_of state)) (reason_of plant (facts_of state)) state.k n (candidates plant state.tracked) [] []
