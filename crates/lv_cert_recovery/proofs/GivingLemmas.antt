-- What is put before lines that give a recovery, or exclude command sets, leads on.
use Rattle.std.proofs.Common.{◌≡◌, ℕ, zero, suc, ◌+◌, ◌^◌, ◌<◌, ◌≤◌, Bool, true, false, ◌&&◌, not, nat_eq, nat_lt, List, [], ◌∷◌, ◌++◌, length, map, get_or, slice_get, slice_index_or, Some, All, refl, sym, subst, ◌∙◌, ap, arith}
use Rattle.std.specs.Cmp.Lexicographic.{pointwise}
use Rattle.std.proofs.lemmas.Bool.{and_parts, ltb-true, eqb-true}
use Rattle.std.proofs.lemmas.List.{append-nil, length-append, length-map}
use Rattle.std.proofs.lemmas.List.Elements.{All-nil, All-cons}
use Rattle.lv_base.specs.declared.ids.ValId.{ValId}
use Rattle.lv_base.specs.declared.ids.VarId.{VarId}
use Rattle.lv_base.specs.declared.search.Pair.{Pair}
use Rattle.lv_base.specs.Choices.{picks, contains_all, pairs_of, slots_rise}
use Rattle.lv_base.specs.Tree.{Tree, truth_of}
use Rattle.lv_model.specs.declared.plant.Plant.{Plant}
use Rattle.lv_model.specs.declared.state.TrackedState.{TrackedState}
use Rattle.lv_model.specs.Lists.{sizes, move_counts, controls}
use Rattle.lv_model.specs.Ranges.{plant_ranges}
use Rattle.lv_model.specs.WellFormed.{is_well_formed}
use Rattle.lv_model.proofs.Reading.{All-at, few_variables}
use Rattle.lv_meaning.proofs.Among.{all_among}
use Rattle.lv_meaning.proofs.Reasons.{own_pairs}
use Rattle.lv_meaning.specs.declared.aim.Aim.{Aim}
use Rattle.lv_meaning.specs.Ranges.{StateFits, GoalFits, modes_fit}
use Rattle.lv_meaning.specs.Recovers.{meets_goals, reaches, can_miss, is_sure_from}
use Rattle.lv_meaning.specs.Commands.{control_sizes}
use Rattle.lv_meaning.proofs.NominalSteps.{denied}
use Rattle.lv_meaning.proofs.CommandReasons.{reason_is_inside}
use Rattle.lv_search_zones.specs.lv_compile.Booleans.{first_choice, bool_count}
use Rattle.lv_system.specs.declared.step_pair.StepPair.{StepPair}
use Rattle.lv_system.proofs.SystemLemmas.{choices_fit}
use Rattle.lv_search_zones.proofs.ControlLemmas.{few_controls}
use Rattle.lv_cert_laws.specs.lv_cert_meaning.Deriving.{Derived}
use Rattle.lv_cert_writing.specs.BlockLines.{derived_of}
use Rattle.lv_cert_writing.specs.declared.derivation.Derivation.{Derivation}
use Rattle.lv_cert_laws.specs.lv_cert_meaning.Units.{goal_clauses}
use Rattle.lv_cert.specs.declared.line.Line.{Line}
use Rattle.lv_cert_laws.proofs.Options.{got_among}
use Rattle.lv_cert_writing.specs.Lines.{clause_line, clause_lines}
use Rattle.lv_cert_writing.specs.Pairs.{HasChoice}
use Rattle.lv_cert_laws.specs.lv_cert_meaning.Certifying.{IsAsked}
use Rattle.lv_cert_recovery.specs.declared.asking.Told.{Told}
use Rattle.lv_cert_recovery.specs.declared.asking.Told.TheVariants.{Step, Lines}
use Rattle.lv_cert_recovery.specs.Showing.{IsStepFrom, AreRefuted, own_clauses, recovery_line, good_lines, proof_lines, conflict_lines, counter_lines}
use Rattle.lv_cert_recovery.specs.Leading.{asked, good, proved, excluding, standing, Lead, LeadsOn, Excludes}
use Rattle.lv_cert_recovery.specs.Telling.{IsReaching, IsMissing, AreUnreached, AreUnmissed, TellsReached, TellsMissed, IsMissingGoal, is_step, are_lines}
use Rattle.lv_cert_recovery.specs.Keeping.{IsReason, choices_of, AreValues, IsGiven, answer_of}
use Rattle.lv_cert_recovery.proofs.LeadingLemmas.{leads_by, leads_both, goals_done, states_done}
use Rattle.lv_cert_recovery.proofs.ShowingLemmas.{recovery_leads, good_leads, proof_leads}
use Rattle.lv_cert_recovery.proofs.ExcludingLemmas.{conflict_leads, counter_leads}
use Rattle.lv_cert_recovery.proofs.StepLemmas.{step_shown}
use Rattle.lv_cert_recovery.proofs.AskingLemmas.{all_fitting}
use Rattle.lv_cert_recovery.proofs.TellingLemmas.{missing_misses, unreached_never}

-- what stands at a place
pub got_at : {X : Type 0} (xs : List X) (n : ℕ) (x : X) → n < length xs → x ≡ get_or xs n x → slice_get xs n ≡ Some x
got_at [] n x below is = absurd (omega (arith, below))
got_at (y ∷ ys) zero x below is = ap Some (sym is)
got_at (y ∷ ys) (suc n) x below is = got_at ys n x (omega (arith, below)) is

-- clauses that stand in lines are no more than these
short : (old new : List Line) (ds : List Derived) (l : Line) → new ≡ old ++ (l ∷ clause_lines ds) → length new ≤ 2 ^ 64 → length ds ≤ 2 ^ 64
short old new ds l is few =
    let long : length new ≡ length (old ++ (l ∷ clause_lines ds)) = ap length is in
    let both = length-append old (l ∷ clause_lines ds) in
    let each = length-map ds clause_line in
    omega (arith, long, both, each, few)

-- choices that are picked are choices of their slots
below_at : (u ns : List ℕ) (k c : ℕ) → pointwise nat_lt u ns ≡ true → k < length u → slice_index_or u k 0 ≡ c → c < slice_index_or ns k 0
below_at [] ns k c h below is = absurd (omega (arith, below))
below_at (v ∷ vs) [] k c h below is = absurd (cc h)
below_at (v ∷ vs) (n ∷ ns) zero c h below is = let less : v < n = ltb-true v n (and_parts (nat_lt v n) (pointwise nat_lt vs ns) h).0 in omega (arith, less, is)
below_at (v ∷ vs) (n ∷ ns) (suc k) c h below is = below_at vs ns k c (and_parts (nat_lt v n) (pointwise nat_lt vs ns) h).1 (omega (arith, below)) is

inside_has : (u ns : List ℕ) (pairs : List Pair) → pointwise nat_lt u ns ≡ true → contains_all u pairs ≡ true → All (HasChoice ns) pairs
inside_has u ns [] set inside = All-nil (HasChoice ns)
inside_has u ns (p ∷ ps) set inside =
    let two = and_parts (picks u p) (contains_all u ps) inside in
    let here = and_parts (nat_lt p.slot (length u)) (nat_eq (slice_index_or u p.slot 0) p.choice) two.0 in
    All-cons (HasChoice ns) p ps
    (record { below = below_at u ns p.slot p.choice set (ltb-true p.slot (length u) here.0) (eqb-true (slice_index_or u p.slot 0) p.choice here.1) }) (inside_has u ns ps set two.1)

module _ (plant : Plant) (aim : Aim) where
  pub values_have : (pairs : List Pair) → AreValues plant pairs → All (HasChoice (control_sizes plant)) pairs
  values_have pairs values =
      subst (All (HasChoice (control_sizes plant))) values.all
      (inside_has (choices_of pairs) (control_sizes plant) (pairs_of (choices_of pairs)) values.set (own_pairs [] (choices_of pairs)))

  pub reason_has : (pairs : List Pair) → IsReason plant aim pairs → All (HasChoice (control_sizes plant)) pairs
  reason_has pairs is =
      subst (All (HasChoice (control_sizes plant))) (sym is.reason)
      (inside_has is.values (control_sizes plant) _ is.set (reason_is_inside plant aim is.values))

  module _ (h : is_well_formed plant ≡ true) (of : IsAsked plant aim) where
    pub few_bools : bool_count plant ≤ 10 ^ 30
    few_bools = let few = choices_fit plant h (first_choice plant) refl (move_counts plant) refl in omega (arith, few)

    few_sets : length (control_sizes plant) ≤ 4096
    few_sets =
        let few : length (controls plant) ≤ 4096 = few_controls plant plant refl (few_variables plant h) (controls plant) refl in
        let long = length-map (controls plant) (λ (c : VarId). slice_index_or (sizes plant) c.0 0) in
        omega (arith, few, long)

    pub state_fits : (n : ℕ) (s : TrackedState) → slice_get aim.tracked n ≡ Some s → modes_fit (plant_ranges plant) plant.parts s.state.modes ≡ true
    state_fits n s at = (All-at (StateFits plant) aim.tracked n s of.fits.tracked at).modes

    pub goal_fits : (g : ℕ) (goal : Tree) → slice_get aim.goals g ≡ Some goal → GoalFits plant goal
    goal_fits g goal at = All-at (GoalFits plant) aim.goals g goal of.fits.goals at

    -- where the goal is false, not all are true
    one_fails : (b : List ValId) (gs : List Tree) (g : ℕ) (goal : Tree) → slice_get gs g ≡ Some goal → truth_of b 0 goal ≡ false → meets_goals gs b ≡ false
    one_fails b [] g goal at fails = absurd (cc at)
    one_fails b (x ∷ xs) zero goal at fails = let same : x ≡ goal = cc at in ap (λ t. t && meets_goals xs b) (ap (truth_of b 0) same ∙ fails)
    one_fails b (x ∷ xs) (suc g) goal at fails = ap (λ t. truth_of b 0 x && t) (one_fails b xs g goal at fails) ∙ no_more (truth_of b 0 x)
      where
        no_more : (t : Bool) → (t && false) ≡ false
        no_more true = refl
        no_more false = refl

    pub goal_missing : (s : TrackedState) (pairs : List Pair) (g : ℕ) (goal : Tree) → slice_get aim.goals g ≡ Some goal → (p : StepPair) → IsMissingGoal plant aim s.state pairs goal p
        → IsMissing plant aim s.state pairs p.now p.next
    goal_missing s pairs g goal at p is = record { step = is.step; goals = one_fails p.next aim.goals g goal at is.fails }

    -- the recovery
    module _ (pairs : List Pair) (given : IsGiven plant aim pairs) where
      abbrev u : List ℕ
      u = choices_of pairs

      sure : (n : ℕ) (s : TrackedState) → slice_get aim.tracked n ≡ Some s → (reaches plant aim s.state (pairs_of u) ≡ true) × (not (can_miss plant aim s.state (pairs_of u)) ≡ true)
      sure n s at =
          and_parts (reaches plant aim s.state (pairs_of u)) (not (can_miss plant aim s.state (pairs_of u)))
          (all_among (is_sure_from plant aim u) aim.tracked s given.recovers (got_among aim.tracked n s at))

      pub reached_step : (n : ℕ) (s : TrackedState) → slice_get aim.tracked n ≡ Some s → (told : Told) → TellsReached plant aim s.state pairs told → is_step told ≡ true
      reached_step n s at (Step p) is = refl
      reached_step n s at (Lines ds) are =
          let clash : true ≡ false =
          sym (sure n s at).0
          ∙ ap (reaches plant aim s.state) given.values.all
          ∙ unreached_never plant aim s.state pairs h of.fits.present (all_fitting plant aim.goals of.fits.goals) (map derived_of ds) are in
          absurd (cc clash)

      pub unmissed_lines : (n : ℕ) (s : TrackedState) → slice_get aim.tracked n ≡ Some s → (g : ℕ) (goal : Tree) → slice_get aim.goals g ≡ Some goal → (told : Told)
          → TellsMissed plant aim s.state pairs goal told → are_lines told ≡ true
      unmissed_lines n s at g goal there (Lines ds) are = refl
      unmissed_lines n s at g goal there (Step p) is =
          let clash : true ≡ false =
          sym (missing_misses plant aim s.state pairs p.now p.next (goal_missing s pairs g goal there p is))
          ∙ sym (ap (can_miss plant aim s.state) given.values.all)
          ∙ denied (can_miss plant aim s.state (pairs_of u)) (sure n s at).1 in
          absurd (cc clash)

      pub recovery_on : (old new last : List Line) → new ≡ old ++ recovery_line u ∷ []
          → LeadsOn plant aim (standing (good 0) (answer_of plant pairs) []) (standing (good (length aim.tracked)) (answer_of plant pairs) []) new last
          → LeadsOn plant aim (standing asked [] []) (standing excluding (answer_of plant pairs) []) old last
      recovery_on old new last is states =
          leads_both plant aim (standing asked [] []) (standing (good 0) (answer_of plant pairs) []) (standing excluding (answer_of plant pairs) []) old new last
          (leads_by plant aim (standing asked [] []) (standing (good 0) (answer_of plant pairs) []) old new (recovery_line u ∷ []) is (recovery_leads plant h aim u given.values.set))
          (leads_both plant aim (standing (good 0) (answer_of plant pairs) []) (standing (good (length aim.tracked)) (answer_of plant pairs) []) (standing excluding (answer_of plant pairs) []) new last last
          states
          (leads_by plant aim (standing (good (length aim.tracked)) (answer_of plant pairs) []) (standing excluding (answer_of plant pairs) []) last last [] (sym (append-nil last))
          (states_done plant aim (answer_of plant pairs) [] (length aim.tracked) refl of.states.some)))

      pub good_on : (n : ℕ) (s : TrackedState) → slice_get aim.tracked n ≡ Some s → (p : StepPair) → IsReaching plant aim s.state pairs p.now p.next → (old new : List Line)
          → new ≡ old ++ good_lines n p.now p.next
          → LeadsOn plant aim (standing (good n) (answer_of plant pairs) []) (standing (proved n 0) (answer_of plant pairs) []) old new
      good_on n s at p is old new lines =
          leads_by plant aim (standing (good n) (answer_of plant pairs) []) (standing (proved n 0) (answer_of plant pairs) []) old new (good_lines n p.now p.next) lines
          (good_leads plant h aim u given.values.set of.states.few n p.now p.next
          (step_shown plant aim n s at u p.now p.next (subst (λ (ps : List Pair). IsStepFrom plant aim s.state ps p.now p.next) (sym given.values.all) is.step) true is.goals))

      pub proof_on : (n g : ℕ) (s : TrackedState) → slice_get aim.tracked n ≡ Some s → (goal : Tree) → slice_get aim.goals g ≡ Some goal → (ds : List Derivation)
          → AreUnmissed plant aim s.state pairs goal (map derived_of ds) → (old new : List Line) → new ≡ old ++ proof_lines n g (map derived_of ds) → length new ≤ 2 ^ 64
          → LeadsOn plant aim (standing (proved n g) (answer_of plant pairs) []) (standing (proved n (g + 1)) (answer_of plant pairs) []) old new
      proof_on n g s at goal there ds are old new lines few =
          leads_by plant aim (standing (proved n g) (answer_of plant pairs) []) (standing (proved n (g + 1)) (answer_of plant pairs) []) old new (proof_lines n g (map derived_of ds)) lines
          (proof_leads plant h aim u given.values.set of.states.few of.goals few_bools n g s at goal there (map derived_of ds)
          (subst (λ (ps : List Pair). AreRefuted plant (own_clauses plant aim s.state ps (goal_clauses plant false goal)) (map derived_of ds)) (sym given.values.all) are)
          (short old new (map derived_of ds) _ lines few))

      -- behind the proofs of all goals the next state is due
      pub state_on : (n : ℕ) (old mid new : List Line) → LeadsOn plant aim (standing (good n) (answer_of plant pairs) []) (standing (proved n 0) (answer_of plant pairs) []) old mid
          → LeadsOn plant aim (standing (proved n 0) (answer_of plant pairs) []) (standing (proved n (length aim.goals)) (answer_of plant pairs) []) mid new
          → LeadsOn plant aim (standing (good n) (answer_of plant pairs) []) (standing (good (n + 1)) (answer_of plant pairs) []) old new
      state_on n old mid new one other =
          leads_both plant aim (standing (good n) (answer_of plant pairs) []) (standing (proved n 0) (answer_of plant pairs) []) (standing (good (n + 1)) (answer_of plant pairs) []) old mid new one
          (leads_both plant aim (standing (proved n 0) (answer_of plant pairs) []) (standing (proved n (length aim.goals)) (answer_of plant pairs) []) (standing (good (n + 1)) (answer_of plant pairs) []) mid new new other
          (leads_by plant aim (standing (proved n (length aim.goals)) (answer_of plant pairs) []) (standing (good (n + 1)) (answer_of plant pairs) []) new new [] (sym (append-nil new))
          (goals_done plant aim (answer_of plant pairs) [] n (length aim.goals) refl of.some)))

    -- blocks that exclude
    pub conflict_on : (pairs : List Pair) → All (HasChoice (control_sizes plant)) pairs → slots_rise pairs ≡ true → (n : ℕ) (s : TrackedState) → slice_get aim.tracked n ≡ Some s → (ds : List Derivation)
        → AreUnreached plant aim s.state pairs (map derived_of ds) → (old new : List Line) → new ≡ old ++ conflict_lines n pairs (map derived_of ds) → length new ≤ 2 ^ 64
        → Excludes plant aim pairs old new
    conflict_on pairs have rising n s at ds are old new lines few =
        record {
          on =
              λ listed excluded.
              leads_by plant aim (standing excluding listed excluded) (standing excluding listed (excluded ++ pairs ∷ [])) old new (conflict_lines n pairs (map derived_of ds)) lines
              (conflict_leads plant h aim of.states.few few_sets listed excluded few_bools n s at pairs have rising (map derived_of ds) are (short old new (map derived_of ds) _ lines few));
        }

    pub counter_on : (pairs : List Pair) → AreValues plant pairs → (n : ℕ) (s : TrackedState) → slice_get aim.tracked n ≡ Some s → (p : StepPair) → IsMissing plant aim s.state pairs p.now p.next
        → (old new : List Line) → new ≡ old ++ counter_lines n (choices_of pairs) p.now p.next → Excludes plant aim pairs old new
    counter_on pairs values n s at p is old new lines =
        record {
          on =
              λ listed excluded.
              leads_by plant aim (standing excluding listed excluded) (standing excluding listed (excluded ++ pairs ∷ [])) old new (counter_lines n (choices_of pairs) p.now p.next) lines
              (subst (λ (ps : List Pair). Lead plant aim (standing excluding listed excluded) (standing excluding listed (excluded ++ ps ∷ [])) (counter_lines n (choices_of pairs) p.now p.next)) values.all
              (counter_leads plant h aim of.states.few few_sets listed excluded n (choices_of pairs) values.set p.now p.next
              (step_shown plant aim n s at (choices_of pairs) p.now p.next (subst (λ (ps : List Pair). IsStepFrom plant aim s.state ps p.now p.next) (sym values.all) is.step) false is.goals)));
        }
