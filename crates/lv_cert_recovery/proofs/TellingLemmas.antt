-- What steps, and lines that refute them, tell of the values that they are of.
use Rattle.std.proofs.Common.{◌≡◌, ℕ, ◌<◌, Bool, true, false, not, List, [], ◌∷◌, ◌++◌, length, map, get_or, All, refl, sym, ◌∙◌, ap}
use Rattle.std.specs.List.{list_all}
use Rattle.std.proofs.lemmas.Bool.{and_parts, and_from, false_from_ne_true}
use Rattle.std.proofs.lemmas.List.Elements.{All-head, All-tail}
use Rattle.std.proofs.lemmas.List.Folds.{list_all_at}
use Rattle.lv_base.specs.declared.ids.ValId.{ValId}
use Rattle.lv_base.specs.declared.search.Pair.{Pair}
use Rattle.lv_system.specs.lv_clauses.Literals.{clause_holds}
use Rattle.lv_base.specs.Tree.{Tree, truth_of}
use Rattle.lv_base.specs.Fits.{fits}
use Rattle.lv_model.specs.declared.plant.Plant.{Plant}
use Rattle.lv_model.specs.declared.state.State.{State}
use Rattle.lv_model.specs.Ranges.{plant_ranges}
use Rattle.lv_model.specs.WellFormed.{is_well_formed}
use Rattle.lv_meaning.specs.declared.facts.Observation.{Observation}
use Rattle.lv_meaning.specs.Facts.{agrees, meets}
use Rattle.lv_meaning.specs.Possible.{value}
use Rattle.lv_meaning.proofs.Among.{Among, all_among}
use Rattle.lv_meaning.specs.declared.aim.Aim.{Aim}
use Rattle.lv_meaning.specs.Ranges.{ObservationFits}
use Rattle.lv_meaning.specs.Recovers.{meets_goals, reaches, can_miss}
use Rattle.lv_meaning.specs.RecoveryLaws.{NominalStep}
use Rattle.lv_meaning.proofs.NominalSteps.{StepFound, step_found, found_step, denied}
use Rattle.lv_search_zones.specs.lv_compile.Booleans.{booleans_now, bool_count}
use Rattle.lv_search_zones.specs.lv_compile.FormulaClauses.{Clauses}
use Rattle.lv_search_zones.specs.lv_compile.ModelClauses.{model_clauses}
use Rattle.lv_search_zones.specs.lv_compile.Laws.{literal_is_true, Encode}
use Rattle.lv_system.proofs.LiteralLemmas.{value_true}
use Rattle.lv_cert_laws.specs.lv_cert_meaning.Deriving.{Derived}
use Rattle.lv_cert_laws.proofs.lv_cert_meaning.DerivingLemmas.{refuted_fail}
use Rattle.lv_cert_laws.specs.lv_cert_meaning.Stated.{observed_literal}
use Rattle.lv_cert_laws.specs.lv_cert_meaning.Units.{goal_clauses}
use Rattle.lv_cert_writing.proofs.Numbers.{have_value}
use Rattle.lv_cert_laws.proofs.Blocked.{IsKnown, never_reached, never_missed}
use Rattle.lv_cert_recovery.specs.Showing.{stated_by, own_clauses, reached_clauses, AreRefuted}
use Rattle.lv_cert_recovery.specs.Telling.{IsReaching, IsMissing, AreUnreached, AreUnmissed, NeverMisses}

-- what is seen is said by its literals
observed_said : (plant : Plant) (truth : ℕ → Bool) (a : List ValId) → Encode truth (booleans_now plant) a → (os : List Observation) → All (ObservationFits plant) os → meets a os ≡ true
    → list_all (literal_is_true truth) (map (observed_literal (booleans_now plant)) os) ≡ true
observed_said plant truth a code [] fit met = refl
observed_said plant truth a code (o ∷ os) fit met =
    let two = and_parts (agrees a o) (meets a os) met in
    and_from (literal_is_true truth (observed_literal (booleans_now plant) o)) (list_all (literal_is_true truth) (map (observed_literal (booleans_now plant)) os))
    (value_true truth (booleans_now plant) a code o.var.0 o.val.0 (have_value (plant_ranges plant) o.var.0 o.val.0 (All-head (ObservationFits plant) o os fit).value) ∙ two.0)
    (observed_said plant truth a code os (All-tail (ObservationFits plant) o os fit) two.1)

module _ (plant : Plant) (aim : Aim) (s : State) (pairs : List Pair) where
  pub reaching_reaches : (a b : List ValId) → IsReaching plant aim s pairs a b → reaches plant aim s pairs ≡ true
  reaching_reaches a b is = found_step plant aim.present s pairs (meets_goals aim.goals) is.step.step (ap (meets_goals aim.goals) is.step.ends ∙ is.goals)

  pub missing_misses : (a b : List ValId) → IsMissing plant aim s pairs a b → can_miss plant aim s pairs ≡ true
  missing_misses a b is =
      found_step plant aim.present s pairs (λ vs. not (meets_goals aim.goals vs)) is.step.step (ap (λ vs. not (meets_goals aim.goals vs)) is.step.ends ∙ ap not is.goals)

  -- no step misses
  pub never_misses : NeverMisses plant aim s pairs aim.goals → can_miss plant aim s pairs ≡ false
  never_misses none =
      false_from_ne_true (can_miss plant aim s pairs)
      (λ can.
      let f : StepFound plant aim.present s pairs (λ vs. not (meets_goals aim.goals vs)) = step_found plant aim.present s pairs (λ vs. not (meets_goals aim.goals vs)) can in
      let clash : true ≡ false = sym (none.each f.step) ∙ denied (meets_goals aim.goals (map value f.step.after)) f.ends_so in
      cc clash)

  pub one_missed : (b : List ValId) (goals : List Tree) (g : ℕ) (d : Tree) → g < length goals → truth_of b 0 (get_or goals g d) ≡ false → meets_goals goals b ≡ false
  one_missed b goals g d below fails = list_all_at (truth_of b 0) goals g d below fails

  module _ (h : is_well_formed plant ≡ true) (seen : All (ObservationFits plant) aim.present) (fit : list_all (fits (plant_ranges plant)) aim.goals ≡ true) where
    known : IsKnown plant (stated_by plant aim)
    known =
        record {
          one = refl;
          says = record { holds = λ truth a b now next m p n. observed_said plant truth a now aim.present seen p };
          uncommanded = refl;
          unseen = refl;
          fit = λ goal among. all_among (fits (plant_ranges plant)) aim.goals goal fit among;
        }

    -- lines that refute leave nothing that makes the clauses true
    none_hold : (more : Clauses) (ds : List Derived) → AreRefuted plant (own_clauses plant aim s pairs more) ds → (values : List Bool) → length values ≡ bool_count plant
        → list_all (clause_holds values) (model_clauses plant ++ own_clauses plant aim s pairs more) ≡ true → ⊥
    none_hold more ds are values whole hold =
        let clash : true ≡ false = sym hold ∙ refuted_fail (bool_count plant) values whole (model_clauses plant ++ own_clauses plant aim s pairs more) ds are.refuted in
        cc clash

    pub unreached_never : (ds : List Derived) → AreUnreached plant aim s pairs ds → reaches plant aim s pairs ≡ false
    unreached_never ds are = never_reached plant h (stated_by plant aim) known s pairs (none_hold (reached_clauses plant aim) ds are)

    pub unmissed_never : (goal : Tree) → Among goal aim.goals → (ds : List Derived) → AreUnmissed plant aim s pairs goal ds → (w : NominalStep plant aim.present s pairs) → truth_of (map value w.after) 0 goal ≡ true
    unmissed_never goal among ds are = never_missed plant h (stated_by plant aim) known s pairs goal among (none_hold (goal_clauses plant false goal) ds are)

    -- one goal more that no step misses
    pub never_more : (goal : Tree) (rest all : List Tree) → Among goal aim.goals → (ds : List Derived) → AreUnmissed plant aim s pairs goal ds
        → (NeverMisses plant aim s pairs (goal ∷ rest) → NeverMisses plant aim s pairs all) → NeverMisses plant aim s pairs rest → NeverMisses plant aim s pairs all
    never_more goal rest all among ds are so_far none =
        so_far (record { each = λ w. and_from (truth_of (map value w.after) 0 goal) (meets_goals rest (map value w.after)) (unmissed_never goal among ds are w) (none.each w) })
