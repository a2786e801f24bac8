-- What a settled walk of a recovery leaves: a command set that recovers, or none, and reasons of sets that don't.
use Rattle.std.proofs.Common.{◌≡◌, ℕ, ◌+◌, ◌≤◌, Bool, true, false, ◌&&◌, not, List, [], ◌∷◌, ◌++◌, length, Option, Some, All, cond, ◌⊎◌, inl, inr, refl, sym, subst, ◌∙◌, ap, arith}
use Rattle.std.specs.List.{list_all, find}
use Rattle.std.specs.Option.{option_map_or}
use Rattle.std.proofs.lemmas.Bool.{and_parts}
use Rattle.std.proofs.lemmas.List.Elements.{All-nil, All-cons, All-append}
use Rattle.lv_base.specs.declared.rank.Rank.{Rank}
use Rattle.lv_base.specs.declared.search.Pair.{Pair}
use Rattle.lv_base.specs.Choices.{pairs_from, pairs_of}
use Rattle.lv_model.specs.declared.plant.Plant.{Plant}
use Rattle.lv_model.specs.declared.state.TrackedState.{TrackedState}
use Rattle.lv_meaning.specs.lv_boxes.declared.outcome.Outcome.TheVariants.{Settled}
use Rattle.lv_meaning.specs.lv_boxes.Walk.{Walked, none_alike, walk_from}
use Rattle.lv_meaning.specs.lv_boxes.Reason.{reduced}
use Rattle.lv_meaning.proofs.lv_boxes.WalkLemmas.{turn, at_most}
use Rattle.lv_meaning.proofs.Among.{Among, contained}
use Rattle.lv_meaning.proofs.Listing.{same_rank}
use Rattle.lv_meaning.specs.declared.aim.Aim.{Aim}
use Rattle.lv_meaning.specs.Recovers.{reaches, can_miss, is_sure_from}
use Rattle.lv_meaning.specs.Commands.{is_command_set, command_rank, command_sets}
use Rattle.lv_meaning.specs.Recovery.{reason_from, command_reason, candidate_recovers, candidate_reason, recovery_walk}
use Rattle.lv_meaning.specs.RecoveryLaws.{IsRecovery}
use Rattle.lv_meaning.proofs.NominalSteps.{each_passes}
use Rattle.lv_meaning.proofs.CommandSets.{among_is_set}
use Rattle.lv_meaning.proofs.CommandReasons.{reason_is_blocked}
use Rattle.lv_meaning.proofs.RecoveryWalks.{walk_found}
use Rattle.lv_cert_recovery.specs.Keeping.{IsReason, IsRecovering, choices_of, AreValues}

-- the choices of all pairs are these again
choices_from : (slot : ℕ) (u : List ℕ) → choices_of (pairs_from slot u) ≡ u
choices_from slot [] = refl
choices_from slot (v ∷ vs) = ap (λ (us : List ℕ). v ∷ us) (choices_from (slot + 1) vs)

pub values_same : (plant : Plant) (u : List ℕ) (pairs : List Pair) → pairs ≡ pairs_of u → choices_of pairs ≡ u
values_same plant u pairs is = ap choices_of is ∙ choices_from 0 u

pub values_of_all : (plant : Plant) (u : List ℕ) (pairs : List Pair) → is_command_set plant u ≡ true → pairs ≡ pairs_of u → AreValues plant pairs
values_of_all plant u pairs set is =
    let same : choices_of pairs ≡ u = ap choices_of is ∙ choices_from 0 u in
    record { set = ap (is_command_set plant) same ∙ set; all = ap pairs_of same ∙ sym is }

module _ (plant : Plant) (aim : Aim) where
  -- the first state from which values aren't sure
  record IsUnsure (u : List ℕ) (states : List TrackedState) : Type 0 where
    state : TrackedState
    among : Among state states
    found : find (λ (s : TrackedState). not (is_sure_from plant aim u s)) states ≡ Some state
    unsure : is_sure_from plant aim u state ≡ false

  some_unsure : (u : List ℕ) (states : List TrackedState) → list_all (is_sure_from plant aim u) states ≡ false → IsUnsure u states
  some_unsure u [] h = absurd (cc h)
  some_unsure u (s ∷ ss) h = by (is_sure_from plant aim u s) refl (λ e. some_unsure u ss (sym (ap (λ b. b && list_all (is_sure_from plant aim u) ss) e) ∙ h))
    where
      by : (b : Bool) → is_sure_from plant aim u s ≡ b → (is_sure_from plant aim u s ≡ true → IsUnsure u ss) → IsUnsure u (s ∷ ss)
      by true e rest =
          let r : IsUnsure u ss = rest e in
          record {
            state = r.state;
            among = inr r.among;
            found = ap (λ b. cond (not b) (Some s) (find (λ (t : TrackedState). not (is_sure_from plant aim u t)) ss)) e ∙ r.found;
            unsure = r.unsure;
          }
      by false e rest =
          record {
            state = s;
            among = inl refl;
            found = ap (λ b. cond (not b) (Some s) (find (λ (t : TrackedState). not (is_sure_from plant aim u t)) ss)) e;
            unsure = e;
          }

  -- a state from which the reason of values doesn't reach the goals, or from which the values, which are all in it, can miss one
  pub record IsStopped (pairs : List Pair) : Type 0 where
    pub state : TrackedState
    pub among : Among state aim.tracked
    pub cases : (reaches plant aim state.state pairs ≡ false) ⊎ ((can_miss plant aim state.state pairs ≡ true) × AreValues plant pairs)

  pub reason_stops : (pairs : List Pair) → IsReason plant aim pairs → IsStopped pairs
  reason_stops pairs is = record { state = at.state; among = at.among; cases = by (reaches plant aim at.state.state (pairs_of is.values)) refl }
    where
      at : IsUnsure is.values aim.tracked
      at = some_unsure is.values aim.tracked is.fails

      reason : pairs ≡ reason_from plant aim is.values at.state.state
      reason = is.reason ∙ ap (λ (o : Option TrackedState). option_map_or (λ (s : TrackedState). reason_from plant aim is.values s.state) o []) at.found

      missed : (b c : Bool) → (b && not c) ≡ false → b ≡ true → c ≡ true
      missed true true h e = refl
      missed true false h e = absurd (cc h)
      missed false c h e = absurd (cc e)

      by : (b : Bool) → reaches plant aim at.state.state (pairs_of is.values) ≡ b
          → (reaches plant aim at.state.state pairs ≡ false) ⊎ ((can_miss plant aim at.state.state pairs ≡ true) × AreValues plant pairs)
      by true e =
          let all : pairs ≡ pairs_of is.values = reason ∙ ap (λ b. cond b (pairs_of is.values) (reduced (reaches plant aim at.state.state) [] (pairs_of is.values))) e in
          inr (
            ap (can_miss plant aim at.state.state) all
                ∙ missed (reaches plant aim at.state.state (pairs_of is.values)) (can_miss plant aim at.state.state (pairs_of is.values)) at.unsure e,
            values_of_all plant is.values pairs is.set all,
          )
      by false e = inl (ap (reaches plant aim at.state.state) reason ∙ reason_is_blocked plant aim is.values at.state.state e)

  -- what a walk keeps are reasons
  module _ (budget : ℕ) where
    abbrev suits : Rank → Bool
    suits r = is_command_set plant r.choices

    kept_reasons : (left listed : List Rank) (kept : List (List Pair)) → list_all suits left ≡ true → All (IsReason plant aim) kept
        → All (IsReason plant aim) (walk_from none_alike (candidate_recovers plant aim) (candidate_reason plant aim) 1 budget listed kept left).kept
    kept_reasons [] listed kept sets are = are
    kept_reasons (r ∷ rs) listed kept sets are =
        let two = and_parts (suits r) (list_all suits rs) sets in
        turn none_alike (candidate_recovers plant aim) (candidate_reason plant aim) 1 budget (λ w. All (IsReason plant aim) w.kept) r rs listed kept (λ _. are) (λ _. kept_reasons rs listed kept two.1 are)
        (λ _. kept_reasons rs listed kept two.1 are) (λ _. are)
        (λ _ _ _ _. kept_reasons rs (listed ++ (r ∷ [])) kept two.1 are)
        (λ _ _ fails.
        kept_reasons rs listed (kept ++ (command_reason plant aim r.choices ∷ [])) two.1
        (All-append (IsReason plant aim) kept (command_reason plant aim r.choices ∷ []) are
        (All-cons (IsReason plant aim) (command_reason plant aim r.choices) [] (record { values = r.choices; set = two.0; fails = fails; reason = refl }) (All-nil (IsReason plant aim)))))

    pub walk_keeps : (listed : List Rank) (kept : List (List Pair)) → recovery_walk plant aim budget ≡ record { outcome = Settled; listed = listed; kept = kept } → All (IsReason plant aim) kept
    walk_keeps listed kept is =
        subst (λ (w : Walked). All (IsReason plant aim) w.kept) is
        (kept_reasons (command_sets plant) [] [] (each_passes suits (command_sets plant) (λ r a. (among_is_set plant r a).values)) (All-nil (IsReason plant aim)))

    pub walk_few : (listed : List Rank) (kept : List (List Pair)) → recovery_walk plant aim budget ≡ record { outcome = Settled; listed = listed; kept = kept } → length listed ≤ 1
    walk_few listed kept is =
        subst (λ (w : Walked). length w.listed ≤ 1) is (at_most none_alike (candidate_recovers plant aim) (candidate_reason plant aim) 1 budget (command_sets plant) [] [] (omega arith))

    pub walk_recovers : (listed : List Rank) (kept : List (List Pair)) → recovery_walk plant aim budget ≡ record { outcome = Settled; listed = listed; kept = kept } → (r : Rank) → Among r listed
        → IsRecovering plant aim r
    walk_recovers listed kept is r among =
        let settled : (recovery_walk plant aim budget).outcome ≡ Settled = ap (λ (w : Walked). w.outcome) is in
        let found : IsRecovery plant aim r =
        walk_found plant aim budget r settled (contained (recovery_walk plant aim budget).listed r (subst (λ (rs : List Rank). Among r rs) (sym (ap (λ (w : Walked). w.listed) is)) among)) in
        record {
          set = found.set.values;
          recovers = found.sure;
          rank = same_rank (command_rank plant r.choices) r (sym found.set.cost) (sym found.set.source) refl;
        }
