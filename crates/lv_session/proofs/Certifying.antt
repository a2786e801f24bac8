-- What the session's state gives for a certificate of its current query.
use Rattle.std.proofs.Common.{◌≡◌, ℕ, ◌≤◌, Bool, true, cond, nat_eq, List, [], ◌∷◌, length, map, Option, None, Some, All, refl, rules, ap, ap₂, subst, ◌∙◌, arith}
use Rattle.std.specs.List.{list_all}
use Rattle.std.specs.Cmp.Derive.{both_true}
use Rattle.std.specs.Cmp.Lexicographic.{pointwise}
use Rattle.std.specs.Option.{option_and_then}
use Rattle.std.proofs.lemmas.List.{length-map}
use Rattle.std.proofs.lemmas.List.Elements.{All-cons, All-head, All-tail, All-nil}
use Rattle.lv_base.specs.declared.limits.TheConstants.{TRACKED}
use Rattle.lv_text.proofs.ReadBack.{lexemes_have}
use Rattle.lv_base.specs.Tree.{Tree}
use Rattle.lv_model.specs.declared.plant.Plant.{Plant}
use Rattle.lv_model.specs.declared.state.TrackedState.{TrackedState}
use Rattle.lv_session_state.specs.lv_model_names.lv_formula_text.Canonical.{tokens_of, canonical_text}
use Rattle.lv_session_state.specs.lv_model_names.lv_formula_text.Resolving.{resolved}
use Rattle.lv_session_state.specs.lv_model_names.lv_formula_text.Descent.{phrase_of}
use Rattle.lv_session_state.specs.lv_model_names.Names.{plant_names}
use Rattle.lv_boxes.specs.declared.outcome.Outcome.{Outcome}
use Rattle.lv_boxes.specs.declared.outcome.Outcome.TheVariants.{Settled, Unsettled}
use Rattle.lv_boxes.specs.Walk.{Walked}
use Rattle.lv_session_state.specs.lv_meaning.Ranges.{StateFits}
use Rattle.lv_session_state.specs.lv_tracker.Tracked.{IsWithinCost}
use Rattle.lv_cert.specs.Words.{is_word}
use Rattle.lv_cert_diagnosis.specs.lv_cert_meaning.Stated.{simple_goal, goal_as, goal_in, goal_of}
use Rattle.lv_cert_diagnosis.specs.lv_cert_meaning.Certifying.{StateStands, IsSeen, AreStates, AreFacts, IsSettledDiagnosis, IsAsked, IsSettledRecovery, AreTexts}
use Rattle.lv_session_state.specs.lv_session_request.Held.{observation_of}
use Rattle.lv_session_state.specs.lv_session_request.declared.goals.Goal.{Goal}
use Rattle.lv_session_state.specs.lv_session_request.declared.request.Sighting.{Sighting}
use Rattle.lv_session_state.specs.lv_session_request.Goals.{IsGoalIn}
use Rattle.lv_session_state.specs.lv_session_request.Requests.{IsSightingIn}
use Rattle.lv_session_state.proofs.lv_session_request.WordLaws.{formula_is_one}
use Rattle.lv_session_state.specs.State.{SessionState, facts_of, aim_of, formula_of, text_of_goal, walked, recovery, is_settled_by}
use Rattle.lv_session_state.specs.States.{IsStateOf}
use Rattle.lv_session_state.proofs.Asking.{facts_fit, facts_in_range}
use Rattle.lv_session_state.proofs.RecoveriesAsked.{aim_fits}

-- what was observed are observables
all_seen : (plant : Plant) (ss : List Sighting) → All (IsSightingIn plant) ss → All (IsSeen plant) (map observation_of ss)
all_seen plant [] all = All-nil (IsSeen plant)
all_seen plant (s ∷ ss) all =
    All-cons (IsSeen plant) (observation_of s) (map observation_of ss) (record { observable = (All-head (IsSightingIn plant) s ss all).observable })
    (all_seen plant ss (All-tail (IsSightingIn plant) s ss all))

-- the tracked states stand
all_stand : (plant : Plant) (ss : List TrackedState) → All (StateFits plant) ss → All IsWithinCost ss → All (StateStands plant) ss
all_stand plant [] fit costs = All-nil (StateStands plant)
all_stand plant (s ∷ ss) fit costs =
    All-cons (StateStands plant) s ss (record { fits = All-head (StateFits plant) s ss fit; cost = (All-head IsWithinCost s ss costs).cost })
    (all_stand plant ss (All-tail (StateFits plant) s ss fit) (All-tail IsWithinCost s ss costs))

module _ (plant : Plant) (state : SessionState) (is : IsStateOf plant state) where
  pub are_states : 1 ≤ length state.tracked → length state.tracked ≤ TRACKED → All IsWithinCost state.tracked → AreStates plant state.tracked
  are_states some few costs = record { some = some; few = few; stand = all_stand plant state.tracked is.fit costs }

  pub are_facts : AreFacts plant (facts_of state)
  are_facts =
      let present = length-map state.present observation_of in
      let next = length-map state.next observation_of in
      let held = is.held in
      record {
        fit = facts_fit plant state is;
        in_range = facts_in_range plant state is;
        present = all_seen plant state.present is.present;
        next = all_seen plant state.next is.next;
        few = omega (arith, present, next, held);
      }

  pub is_asked : AreStates plant state.tracked → 1 ≤ length state.goals → IsAsked plant (aim_of state)
  is_asked states some =
      let present = length-map state.present observation_of in
      let goals = length-map state.goals formula_of in
      let held = is.held in
      let few = is.few_goals in
      record {
        states = states;
        fits = aim_fits plant state is;
        seen = all_seen plant state.present is.present;
        few = omega (arith, present, held);
        some = omega (arith, goals, some);
        goals = omega (arith, goals, few);
      }

-- what a goal's text stands for
same_bytes : (xs : List ℕ) → pointwise nat_eq xs xs ≡ true
same_bytes xs = search rules

goal_back : (plant : Plant) (g : Goal) → IsGoalIn plant g → goal_of plant g.text ≡ Some g.formula
unfolding goal_of
goal_back plant g is =
    let text : g.text ≡ canonical_text is.phrase = is.text in
    let few = is.simple in
    ap (goal_of plant) text
    ∙ ap (goal_in plant (canonical_text is.phrase)) is.reads_back.reading
    ∙ ap (λ (b : Bool). cond b None (option_and_then (goal_as plant (canonical_text is.phrase)) (phrase_of (tokens_of is.phrase)))) is.reads_back.shallow
    ∙ ap (option_and_then (goal_as plant (canonical_text is.phrase))) is.reads_back.read
    ∙ ap (λ (b : Bool). cond b (simple_goal plant (resolved (plant_names plant) is.phrase)) None) (same_bytes (canonical_text is.phrase))
    ∙ ap (simple_goal plant) is.stands_for
    ∙ ap (λ (b : Bool). cond b (Some g.formula) None) few

goal_word : (plant : Plant) (g : Goal) → IsGoalIn plant g → is_word g.text ≡ true
goal_word plant g is =
    ap is_word is.text ∙ formula_is_one (tokens_of is.phrase) is.phrase (lexemes_have (canonical_text is.phrase) (tokens_of is.phrase) is.reads_back.reading) is.reads_back.read

goals_back : (plant : Plant) (gs : List Goal) → All (IsGoalIn plant) gs → map (goal_of plant) (map text_of_goal gs) ≡ map Some (map formula_of gs)
goals_back plant [] all = refl
goals_back plant (g ∷ gs) all =
    ap₂ (λ (o : Option Tree) (os : List (Option Tree)). o ∷ os) (goal_back plant g (All-head (IsGoalIn plant) g gs all)) (goals_back plant gs (All-tail (IsGoalIn plant) g gs all))

goal_words : (plant : Plant) (gs : List Goal) → All (IsGoalIn plant) gs → list_all is_word (map text_of_goal gs) ≡ true
goal_words plant [] all = refl
goal_words plant (g ∷ gs) all =
    both_true (goal_word plant g (All-head (IsGoalIn plant) g gs all)) (goal_words plant gs (All-tail (IsGoalIn plant) g gs all))

pub are_texts : (plant : Plant) (state : SessionState) → IsStateOf plant state → AreTexts plant (map text_of_goal state.goals) (map formula_of state.goals)
are_texts plant state is = record { words = goal_words plant state.goals is.goals; read = goals_back plant state.goals is.goals }

-- an outcome that is settled
settled_is : (o p : Outcome) → p ≡ o → is_settled_by p ≡ true → o ≡ Settled
settled_is Settled p same settled = refl
settled_is Unsettled p same settled = let clash : is_settled_by Unsettled ≡ true = subst (λ (x : Outcome). is_settled_by x ≡ true) same settled in absurd (cc clash)

-- what a search has come to that stands at the end of a settled walk
module _ (plant : Plant) (state : SessionState) (sum : ℕ) (w : Walked) where
  pub settled_diagnosis : walked plant state sum ≡ w → is_settled_by (walked plant state sum).outcome ≡ true
      → IsSettledDiagnosis plant state.tracked (facts_of state) state.k state.distinct w.listed w.kept
  unfolding walked
  settled_diagnosis came settled =
      let o : w.outcome ≡ Settled = settled_is w.outcome (walked plant state sum).outcome (ap (λ (v : Walked). v.outcome) came) settled in
      record { budget = sum; settled = came ∙ ap (λ (x : Outcome). record { outcome = x; listed = w.listed; kept = w.kept }) o }

  pub settled_recovery : recovery plant state sum ≡ w → is_settled_by (recovery plant state sum).outcome ≡ true → IsSettledRecovery plant (aim_of state) w.listed w.kept
  unfolding recovery
  settled_recovery came settled =
      let o : w.outcome ≡ Settled = settled_is w.outcome (recovery plant state sum).outcome (ap (λ (v : Walked). v.outcome) came) settled in
      record { budget = sum; settled = came ∙ ap (λ (x : Outcome). record { outcome = x; listed = w.listed; kept = w.kept }) o }
