-- What a session holds is what a certificate may state, and all lines together certify the answer.
use Rattle.std.proofs.Common.{◌≡◌, ℕ, suc, ◌^◌, ◌<◌, ◌≤◌, true, nat_eq, nat_lt, slice_get, slice_index_or, List, [], ◌∷◌, ◌++◌, length, map, Option, Some, None, Result, Ok, Err, All, if◌then◌else◌, inl, refl, sym, subst, ◌∙◌, ap, arith}
use Rattle.std.specs.Result.{IfOk}
use Rattle.std.specs.Cmp.Lexicographic.{pointwise}
use Rattle.std.proofs.lemmas.Bool.{and_parts, le-leb}
use Rattle.std.proofs.lemmas.List.{append_assoc, append-nil, length-map}
use Rattle.lv_base.specs.declared.ids.Cost.{Cost}
use Rattle.lv_base.specs.declared.ids.VarId.{VarId}
use Rattle.lv_base.specs.declared.rank.Rank.{Rank}
use Rattle.lv_base.specs.declared.search.Candidate.{Candidate}
use Rattle.lv_base.specs.declared.search.Pair.{Pair}
use Rattle.lv_base.specs.Choices.{pairs_of}
use Rattle.lv_search_zones.specs.lv_boxes.Members.{ZoneValue}
use Rattle.lv_model.specs.declared.plant.Plant.{Plant}
use Rattle.lv_model.specs.Lists.{sizes, controls}
use Rattle.lv_model.specs.WellFormed.{is_well_formed}
use Rattle.lv_model.specs.Ranges.{plant_ranges}
use Rattle.lv_model.proofs.Reading.{few_variables}
use Rattle.lv_meaning.specs.lv_boxes.declared.outcome.Outcome.TheVariants.{Settled}
use Rattle.lv_meaning.specs.lv_boxes.Walk.{walk}
use Rattle.lv_meaning.proofs.Among.{Among}
use Rattle.lv_meaning.specs.declared.aim.Aim.{Aim}
use Rattle.lv_meaning.specs.Recovers.{recovers}
use Rattle.lv_meaning.specs.Commands.{control_sizes, command_rank}
use Rattle.lv_meaning.specs.Recovery.{candidate_recovers, candidate_reason}
use Rattle.lv_meaning.proofs.CommandReasons.{reason_is_inside}
use Rattle.lv_search_zones.specs.Commands.{control_slots, command_zone}
use Rattle.lv_search_zones.proofs.CommandLemmas.{zone_has_sets}
use Rattle.lv_search_zones.proofs.ControlLemmas.{few_controls}
use Rattle.lv_cert_writing.specs.Closing.{Closes, SplitIsSmall, can_be_listed}
use Rattle.lv_cert_writing.specs.Explained.{AreExplained, last_if_full}
use Rattle.lv_cert_writing.specs.declared.closing.Split.{Split}
use Rattle.lv_cert_writing.proofs.SplitWalkLemmas.{search_explains}
use Rattle.lv_cert.specs.declared.line.Question.TheVariants.{Recovery}
use Rattle.lv_cert.specs.declared.line.Line.{Line}
use Rattle.lv_cert.specs.declared.line.Line.TheVariants as line
use Rattle.lv_cert_laws.specs.lv_cert_meaning.Space.{all_passed}
use Rattle.lv_cert_laws.specs.lv_cert_meaning.Judging.{last_of}
use Rattle.lv_cert_writing.specs.Lines.{split_lines}
use Rattle.lv_cert_writing.proofs.Numbers.{have_value}
use Rattle.lv_cert_writing.proofs.ClosedLemmas.{are_splits}
use Rattle.lv_cert_laws.specs.lv_cert_meaning.Certifying.{CertifiesRecovery, IsAsked, AreTexts, IsSettledRecovery, AreFormed}
use Rattle.lv_cert_recovery.specs.Closing.{AreClosing}
use Rattle.lv_cert_recovery.specs.Keeping.{IsRecovering, IsReason, IsGiven, AreValues, choices_of, answer_of}
use Rattle.lv_cert_recovery.specs.Leading.{asked, excluding, standing, LeadsOn, ExcludesAll}
use Rattle.lv_cert_recovery.specs.Showing.{head_lines}
use Rattle.lv_cert_recovery.proofs.HeadingLemmas.{IsAskedOf}
use Rattle.lv_cert_recovery.proofs.KeepingLemmas.{walk_keeps, walk_few, walk_recovers, values_of_all, values_same}
use Rattle.lv_cert_recovery.proofs.LeadingLemmas.{leads_both, leads_by, asked_done}
use Rattle.lv_cert_recovery.proofs.WholeLemmas.{whole_certifies, whole_formed}

module _ (plant : Plant) (aim : Aim) (listed : List Rank) (kept : List (List Pair)) (settled : IsSettledRecovery plant aim listed kept) where
  pub kept_are : All (IsReason plant aim) kept
  kept_are = walk_keeps plant aim settled.budget listed kept settled.settled

  few_listed : length listed ≤ 1
  few_listed = walk_few plant aim settled.budget listed kept settled.settled

  pub one_listed : can_be_listed Recovery (length listed) ≡ true
  one_listed = le-leb (length listed) 1 few_listed

  -- the first that is listed is the only one
  only : (rs : List Rank) (r : Rank) → slice_get rs 0 ≡ Some r → length rs ≤ 1 → rs ≡ r ∷ []
  only [] r at few = absurd (cc at)
  only (q ∷ []) r at few = let same : q ≡ r = cc at in ap (λ (x : Rank). x ∷ []) same
  only (q ∷ (p ∷ rest)) r at few = absurd (omega (arith, few))

  no_first : (rs : List Rank) → slice_get rs 0 ≡ None → rs ≡ []
  no_first [] at = refl
  no_first (q ∷ rest) at = absurd (cc at)

  -- the values of what is listed
  module _ (r : Rank) (at : slice_get listed 0 ≡ Some r) where
    first : listed ≡ r ∷ []
    first = only listed r at few_listed

    recovering : IsRecovering plant aim r
    recovering = walk_recovers plant aim settled.budget listed kept settled.settled r (subst (λ (rs : List Rank). Among r rs) (sym first) (inl refl))

    same_length : (us ns : List ℕ) → pointwise nat_lt us ns ≡ true → length us ≡ length ns
    same_length [] [] h = refl
    same_length [] (n ∷ ns) h = absurd (cc h)
    same_length (u ∷ us) [] h = absurd (cc h)
    same_length (u ∷ us) (n ∷ ns) h = ap suc (same_length us ns ((and_parts (nat_lt u n) (pointwise nat_lt us ns) h).1))

    pub few_choices : is_well_formed plant ≡ true → length r.choices < 2 ^ 32
    few_choices h =
        let long = same_length r.choices (control_sizes plant) recovering.set in
        let count = length-map (controls plant) (λ (c : VarId). slice_index_or (sizes plant) c.0 0) in
        let few : length (controls plant) ≤ 4096 = few_controls plant plant refl (few_variables plant h) (controls plant) refl in
        omega (arith, long, count, few)

    module _ (pairs : List Pair) (all : pairs ≡ pairs_of r.choices) where
      values : AreValues plant pairs
      values = values_of_all plant r.choices pairs recovering.set all

      same_choices : choices_of pairs ≡ r.choices
      same_choices = values_same plant r.choices pairs all

      pub given : IsGiven plant aim pairs
      given = record { values = values; recovers = ap (recovers plant aim) same_choices ∙ recovering.recovers }

      pub answered : answer_of plant pairs ≡ listed
      answered = ap (λ (us : List ℕ). command_rank plant us ∷ []) same_choices ∙ ap (λ (q : Rank). q ∷ []) recovering.rank ∙ sym first

  -- where nothing is listed the blocks come at once
  pub none_on : slice_get listed 0 ≡ None → (old : List Line) → LeadsOn plant aim (standing asked [] []) (standing excluding listed []) old old
  none_on none old =
      subst (λ (rs : List Rank). LeadsOn plant aim (standing asked [] []) (standing excluding rs []) old old) (sym (no_first listed none))
      (leads_by plant aim (standing asked [] []) (standing excluding [] []) old old [] (sym (append-nil old)) (asked_done plant aim [] []))

  pub answer_on : (old mid new : List Line) → LeadsOn plant aim (standing asked [] []) (standing excluding listed []) old mid → ExcludesAll plant aim kept mid new
      → LeadsOn plant aim (standing asked [] []) (standing excluding listed kept) old new
  answer_on old mid new one blocks = leads_both plant aim (standing asked [] []) (standing excluding listed []) (standing excluding listed kept) old mid new one (blocks.on listed)

  -- each command set is explained
  explained : is_well_formed plant ≡ true → AreExplained None (control_slots plant) (command_zone plant ∷ []) (last_if_full 1 listed) listed kept
  explained h =
      search_explains None (λ (c : Candidate). true) (candidate_recovers plant aim) (candidate_reason plant aim) (record { inside = λ c suits unfit. reason_is_inside plant aim c.choices }) 1 settled.budget
      (omega arith) (control_slots plant) (command_zone plant ∷ []) (λ c member. refl) (record { outcome = Settled; listed = listed; kept = kept })
      (ap (walk (candidate_recovers plant aim) (candidate_reason plant aim) 1 settled.budget) (zone_has_sets plant h) ∙ settled.settled) refl

  pub explained_so : is_well_formed plant ≡ true → (slots : List (List Cost)) → slots ≡ control_slots plant → (zones : List ZoneValue) → zones ≡ command_zone plant ∷ [] → (last : Option Rank)
      → last ≡ last_if_full 1 listed → AreExplained None slots zones last listed kept
  explained_so h slots one zones two last three =
      subst (λ (l : Option Rank). AreExplained None slots zones l listed kept) (sym three)
      (subst (λ (zs : List ZoneValue). AreExplained None slots zs (last_if_full 1 listed) listed kept) (sym two)
      (subst (λ (ss : List (List Cost)). AreExplained None ss (command_zone plant ∷ []) (last_if_full 1 listed) listed kept) (sym one) (explained h)))

  pub closing : (slots : List (List Cost)) → slots ≡ control_slots plant → (zones : List ZoneValue) → zones ≡ command_zone plant ∷ [] → (last : Option Rank) → last ≡ last_if_full 1 listed
      → (made : List Split) → Closes None Recovery slots zones last listed kept made → All SplitIsSmall made → AreClosing plant listed kept (split_lines made)
  closing slots one zones two last three made closes small =
      record {
        space = closes.space;
        split =
            λ j space_is listed_is excluded_is.
            are_splits Recovery plant made j (record j { space = closes.space })
            (closes.judged plant j tt (space_is ∙ (λ i. record { slots = sym one i; zones = map Some (sym two i) })) listed_is excluded_is) closes.fitting small;
        passed =
            λ j k_is listed_is.
            ap (all_passed closes.space) ((λ i. if nat_eq (length (listed_is i)) (k_is i) then last_of (listed_is i) else None) ∙ sym three) ∙ closes.passed;
      }

  -- all lines together
  module _ (h : is_well_formed plant ≡ true) (of : IsAsked plant aim) (texts : List (List ℕ)) (are : AreTexts plant texts aim.goals) where
    asked_of : IsAskedOf plant aim texts
    asked_of =
        record {
          well_formed = h;
          variables = few_variables plant h;
          some_states = of.states.some;
          few_states = of.states.few;
          stand = λ n d inside. record { fits = (of.states.stand n d inside).fits; cost = (of.states.stand n d inside).cost };
          present =
              λ n d inside.
              record {
                value = have_value (plant_ranges plant) _ _ (of.fits.present n d inside).value;
                observable = (of.seen n d inside).observable;
              };
          observed = of.few;
          some_goals = of.some;
          few_goals = of.goals;
          texts_are = record { words = are.words; goals_are = are.read };
        }

    lines_are : (head old new more splits lines : List Line) → old ≡ head → new ≡ old ++ more → lines ≡ (new ++ splits) ++ line.End ∷ [] → head ++ (more ++ (splits ++ line.End ∷ [])) ≡ lines
    lines_are head old new more splits lines first grown last =
        sym
        (last
        ∙ ap (λ (ls : List Line). (ls ++ splits) ++ line.End ∷ []) (grown ∙ ap (λ (ls : List Line). ls ++ more) first)
        ∙ append_assoc (head ++ more) splits (line.End ∷ [])
        ∙ append_assoc head more (splits ++ line.End ∷ []))

    module _ (old new : List Line) (head : old ≡ head_lines plant aim texts) (on : LeadsOn plant aim (standing asked [] []) (standing excluding listed kept) old new) (splits : List Line)
        (closes : AreClosing plant listed kept splits) (lines : List Line) (are_lines : lines ≡ (new ++ splits) ++ line.End ∷ []) where
      pub done : CertifiesRecovery plant aim listed lines
      done =
          subst (CertifiesRecovery plant aim listed) (lines_are (head_lines plant aim texts) old new on.more splits lines head on.added are_lines)
          (whole_certifies plant aim texts asked_of listed kept on.more splits on.lead closes)

      pub formed : AreFormed plant lines
      formed =
          subst (AreFormed plant) (lines_are (head_lines plant aim texts) old new on.more splits lines head on.added are_lines)
          (whole_formed plant aim texts asked_of listed kept on.more splits on.lead closes)

-- what two facts about a result's value say together
pub of_both : {X Y : Type 0} (r : Result X Y) (P Q R : X → Type 0) → ((x : X) → P x → Q x → R x) → IfOk r P → IfOk r Q → IfOk r R
of_both (Ok x) P Q R f p q = f x p q
of_both (Err e) P Q R f p q = p
