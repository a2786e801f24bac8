-- The lines of a valid recovery from the first to the last.
use Rattle.std.proofs.Common.{◌≡◌, ℕ, ◌+◌, true, nat_eq, nat_lt, List, [], ◌∷◌, ◌++◌, length, Some, ⊎_elim, refl, subst, ◌∙◌, ap, arith}
use Rattle.std.specs.Cmp.Lexicographic.{pointwise}
use Rattle.std.proofs.lemmas.Option.{cond_some}
use Rattle.std.proofs.lemmas.List.{length-append}
use Rattle.lv_cert_meaning.specs.lv_base.declared.limits.TheConstants.{TRACKED}
use Rattle.lv_cert_meaning.specs.lv_base.Tree.{Tree}
use Rattle.lv_cert_meaning.specs.lv_base.Fits.{fits}
use Rattle.lv_cert_meaning.specs.lv_model.declared.plant.Plant.{Plant}
use Rattle.lv_cert_meaning.specs.lv_model.declared.state.TrackedState.{TrackedState}
use Rattle.lv_cert_meaning.specs.lv_model.Ranges.{plant_ranges}
use Rattle.lv_cert_meaning.specs.lv_model.WellFormed.{is_well_formed}
use Rattle.lv_cert_meaning.specs.lv_meaning.declared.facts.Observation.{Observation}
use Rattle.lv_cert_meaning.proofs.lv_meaning.Among.{among_either}
use Rattle.lv_cert_meaning.specs.lv_meaning.Commands.{control_sizes, command_rank}
use Rattle.lv_cert_meaning.specs.lv_cert.declared.line.Question.TheVariants.{Diagnosis, Recovery}
use Rattle.lv_cert_meaning.specs.lv_cert.declared.line.Moment.TheVariants.{Now}
use Rattle.lv_cert_meaning.specs.lv_cert.declared.line.Head.TheVariants as head
use Rattle.lv_cert_meaning.specs.lv_cert.declared.line.Line.{Line}
use Rattle.lv_cert_meaning.specs.lv_cert.declared.line.Line.TheVariants as line
use Rattle.lv_cert_meaning.specs.lv_cert.declared.order.Task.{Task}
use Rattle.lv_cert_meaning.specs.lv_cert.declared.order.Place.{Place}
use Rattle.lv_cert_meaning.specs.lv_cert.declared.order.Place.TheVariants as place
use Rattle.lv_cert_meaning.specs.lv_cert.Order.{after_named, after_known, after_known_facts, after_goals, place_after, place_behind}
use Rattle.lv_cert_meaning.specs.Counting.{are_of, places_of}
use Rattle.lv_cert_meaning.specs.Stated.{state_of, with_state, observation_of, with_observation, goal_of, with_goal}
use Rattle.lv_cert_meaning.specs.Judging.{Judged, unjudged, judge_line, judge_lines, comes_to, question_of}
use Rattle.lv_cert_meaning.specs.Laws.{IsValid}
use Rattle.lv_cert_laws.proofs.Options.{ComesFrom, mapped, when_true}
use Rattle.lv_cert_laws.proofs.Refuting.{IsJudged, first_judged}
use Rattle.lv_cert_laws.proofs.Saying.{says_nothing, observed_there, says_observation}
use Rattle.lv_cert_laws.proofs.Shown.{places_below}
use Rattle.lv_cert_laws.proofs.Ahead.{IsOrdered, first_ordered}
use Rattle.lv_cert_laws.proofs.Blocked.{goal_fits}
use Rattle.lv_cert_laws.proofs.Stages.{none_reached, none_unmissed}
use Rattle.lv_cert_laws.proofs.RecoveryStages.{IsStaged}
use Rattle.lv_cert_laws.proofs.RecoveryLines.{Answers, none_late}
use Rattle.lv_cert_laws.proofs.RecoveryPlaces.{IsOpening, Holds, splits_step, blocks_step, first_clause_step, clauses_step, good_step, proof_step, refuted_step, refuting_step, now_step, next_step}

module _ (plant : Plant) where
  -- a state, a fact or a goal more
  state_opening : (j : Judged) (x : TrackedState) (states goals : ℕ) → IsOpening plant states goals j → IsOpening plant (states + 1) goals (record j { stated = with_state j.stated x })
  state_opening j x states goals opening =
      let count = opening.states_are in
      let long = length-append j.stated.tracked (x ∷ []) in
      record {
        known = record {
          one = opening.known.one;
          says = record { holds = opening.known.says.holds };
          uncommanded = opening.known.uncommanded;
          unseen = opening.known.unseen;
          fit = opening.known.fit;
        };
        listed = opening.listed;
        excluded = opening.excluded;
        space = opening.space;
        states_are = omega (arith, count, long);
        goals_are = opening.goals_are;
      }

  fact_opening : (j : Judged) (x v : ℕ) (o : Observation) (states goals : ℕ) → observation_of plant x v ≡ Some o → IsOpening plant states goals j
      → IsOpening plant states goals (record j { stated = with_observation plant Now j.stated o })
  fact_opening j x v o states goals is opening =
      record {
        known = record {
          one = opening.known.one;
          says = says_observation plant Now j.stated o (observed_there plant x v o is) opening.known.says;
          uncommanded = opening.known.uncommanded;
          unseen = opening.known.unseen;
          fit = opening.known.fit;
        };
        listed = opening.listed;
        excluded = opening.excluded;
        space = opening.space;
        states_are = opening.states_are;
        goals_are = opening.goals_are;
      }

  goal_opening : (j : Judged) (text : List ℕ) (goal : Tree) (states goals : ℕ) → goal_of plant text ≡ Some goal → IsOpening plant states goals j
      → IsOpening plant states (goals + 1) (record j { stated = with_goal j.stated goal })
  goal_opening j text goal states goals is opening =
      let count = opening.goals_are in
      let long = length-append j.stated.goals (goal ∷ []) in
      record {
        known = record {
          one = opening.known.one;
          says = record { holds = opening.known.says.holds };
          uncommanded = opening.known.uncommanded;
          unseen = opening.known.unseen;
          fit = λ g a.
              ⊎_elim (opening.known.fit g) (λ b. ⊎_elim (λ e. ap (fits (plant_ranges plant)) e ∙ goal_fits plant goal text is) (λ never. absurd never) b)
              (among_either j.stated.goals (goal ∷ []) g a);
        };
        listed = opening.listed;
        excluded = opening.excluded;
        space = opening.space;
        states_are = opening.states_are;
        goals_are = omega (arith, count, long);
      }

  goal_read : (j k : Judged) (text : List ℕ) (rest : List Line) (states goals : ℕ) → judge_line Recovery plant j rest (line.Goal text) ≡ Some k → IsOpening plant states goals j
      → IsOpening plant states (goals + 1) k
  goal_read j k text rest states goals judged opening =
      let made : ComesFrom (λ (goal : Tree). record j { stated = with_goal j.stated goal }) (goal_of plant text) k =
      mapped (λ (goal : Tree). record j { stated = with_goal j.stated goal }) (goal_of plant text) k judged in
      subst (IsOpening plant states (goals + 1)) made.made (goal_opening j text made.source states goals made.at opening)

  named_step : (rest : List Line) (l : Line) (q : Place) (j k : Judged) → after_named Recovery l ≡ Some q → judge_line Recovery plant j rest l ≡ Some k → IsOpening plant 0 0 j → Holds plant q k
  named_step rest (line.Model name) q j k order judged opening =
      let same : place.Known 0 ≡ q = cc order in
      subst (λ (p : Place). Holds plant p k) same (subst (IsOpening plant 0 0) (cond_some (pointwise nat_eq name plant.name) j k judged).1 opening)
  named_step rest l q j k order judged opening = absurd (cc order)

  known_facts_step : (rest : List Line) (l : Line) (states facts : ℕ) (q : Place) (j k : Judged) → after_known_facts states facts l ≡ Some q → judge_line Recovery plant j rest l ≡ Some k
      → IsOpening plant states 0 j → Holds plant q k
  known_facts_step rest (line.Fact Now x v) states facts q j k order judged opening =
      let made : ComesFrom (λ (o : Observation). record j { stated = with_observation plant Now j.stated o }) (observation_of plant x v) k =
      mapped (λ (o : Observation). record j { stated = with_observation plant Now j.stated o }) (observation_of plant x v) k judged in
      subst (λ (p : Place). Holds plant p k) (cond_some (nat_lt facts 1024) (place.KnownFacts states (facts + 1)) q order).1
      (subst (IsOpening plant states 0) made.made (fact_opening j x v made.source states 0 made.at opening))
  known_facts_step rest (line.Goal text) states facts q j k order judged opening =
      let t : Task = record { states = states; goals = 1 } in
      let same : place.Goals t ≡ q = cc order in
      subst (λ (p : Place). Holds plant p k) same (goal_read j k text rest states 0 judged opening)
  known_facts_step rest l states facts q j k order judged opening = absurd (cc order)

  known_step : (rest : List Line) (l : Line) (states : ℕ) (q : Place) (j k : Judged) → after_known states l ≡ Some q → judge_line Recovery plant j rest l ≡ Some k → IsOpening plant states 0 j → Holds plant q k
  known_step rest (line.Numbers head.State ns) states q j k order judged opening =
      let made : ComesFrom (λ (s : TrackedState). record j { stated = with_state j.stated s }) (state_of plant ns) k =
      mapped (λ (s : TrackedState). record j { stated = with_state j.stated s }) (state_of plant ns) k (when_true (nat_lt (length j.stated.tracked) TRACKED) _ k judged) in
      subst (λ (p : Place). Holds plant p k) (cond_some (nat_lt states 64) (place.Known (states + 1)) q order).1
      (subst (IsOpening plant (states + 1) 0) made.made (state_opening j made.source states 0 opening))
  known_step rest l states q j k order judged opening = known_facts_step rest l states 0 q j k (when_true (nat_lt 0 states) (after_known_facts states 0 l) q order) judged opening

module _ (plant : Plant) (h : is_well_formed plant ≡ true) (n : ℕ) (final : Judged) (rest : List Line) where
  goals_step : (l : Line) (t : Task) (q : Place) (j k : Judged) → after_goals t l ≡ Some q → place_behind q rest ≡ Some place.Done → judge_line Recovery plant j rest l ≡ Some k
      → judge_lines Recovery plant n k rest ≡ comes_to final → IsOpening plant t.states t.goals j → Holds plant q k
  goals_step (line.Goal text) t q j k order behind judged later opening =
      subst (λ (p : Place). Holds plant p k) (cond_some (nat_lt t.goals 64) (place.Goals (record { states = t.states; goals = t.goals + 1 })) q order).1
      (goal_read plant j k text rest t.states t.goals judged opening)
  goals_step (line.Numbers head.Recovery ns) t q j k order behind judged later opening =
      let given : Judged = record j { listed = j.listed ++ command_rank plant (places_of ns) ∷ [] } in
      let both = cond_some (are_of (control_sizes plant) ns) given k judged in
      let same : place.Good (record { task = t; state = 1; goal = 1 }) ≡ q = cc order in
      subst (λ (p : Place). Holds plant p k) same
      (record {
        goal = refl;
        staged = subst (IsStaged plant t 1 0 0) both.1
            (record {
              values = places_of ns;
              pending = record {
                known = opening.known;
                listed = ap (λ rs. rs ++ command_rank plant (places_of ns) ∷ []) opening.listed;
                excluded = opening.excluded;
                space = opening.space;
                set = places_below (control_sizes plant) ns both.0;
              };
              states = opening.states_are;
              goals = opening.goals_are;
              done = 0;
              state_is = refl;
              ready = 0;
              ready_is = refl;
              reached = none_reached plant j.stated (places_of ns);
              unmissed = none_unmissed plant j.stated (places_of ns);
            });
      })
  goals_step l t q j k order behind judged later opening =
      blocks_step plant h n final rest l q j k order behind judged later (none_late plant h j opening.known opening.excluded opening.space opening.listed)

  step : (p : Place) (l : Line) (q : Place) (j k : Judged) → place_after p l ≡ Some q → place_behind q rest ≡ Some place.Done → judge_line Recovery plant j rest l ≡ Some k
      → judge_lines Recovery plant n k rest ≡ comes_to final → Holds plant p j → Holds plant q k
  step (place.Named Recovery) l q j k order behind judged later holds = named_step plant rest l q j k order judged holds
  step (place.Known m) l q j k order behind judged later holds = known_step plant rest l m q j k order judged holds
  step (place.KnownFacts m i) l q j k order behind judged later holds = known_facts_step plant rest l m i q j k order judged holds
  step (place.Goals t) l q j k order behind judged later holds = goals_step l t q j k order behind judged later holds
  step (place.Good s) l q j k order behind judged later holds = good_step plant h n final rest s holds.goal l q j k order behind judged later holds.staged
  step (place.Proof s) l q j k order behind judged later holds = proof_step plant h n final rest s 0 holds.goal l q j k order judged later holds.staged
  step (place.Refuted s) l q j k order behind judged later holds = refuted_step plant h n final rest s l q j k order judged holds
  step (place.Refuting s) l q j k order behind judged later holds = refuting_step plant h n final rest s l q j k order behind judged later holds
  step (place.Now w) l q j k order behind judged later holds = now_step plant h n final rest w l q j k order judged holds
  step (place.Next w) l q j k order behind judged later holds = next_step plant h n final rest w l q j k order judged holds
  step (place.Clauses Recovery) l q j k order behind judged later holds = first_clause_step plant h n final rest l q j k order judged holds
  step (place.MoreClauses Recovery) l q j k order behind judged later holds = clauses_step plant h n final rest l q j k order behind judged later holds
  step (place.Blocks Recovery) l q j k order behind judged later holds = blocks_step plant h n final rest l q j k order behind judged later holds
  step (place.Splits Recovery) l q j k order behind judged later holds = splits_step plant h n final rest l q j k order judged holds
  step place.Done l q j k order behind judged later holds = absurd (cc order)
  step p l q j k order behind judged later holds = absurd holds

module _ (plant : Plant) (h : is_well_formed plant ≡ true) (final : Judged) where
  lines_answer : (lines : List Line) (n : ℕ) (p : Place) (j : Judged) → Holds plant p j → place_behind p lines ≡ Some place.Done → judge_lines Recovery plant n j lines ≡ comes_to final
      → Answers plant final
  lines_answer [] n p j holds order good =
      let there : p ≡ place.Done = cc order in
      let same : j ≡ final = cc good in
      subst (Answers plant) same (subst (λ (r : Place). Holds plant r j) there holds)
  lines_answer (l ∷ rest) n p j holds order good =
      let ordered : IsOrdered p place.Done l rest = first_ordered p place.Done l rest order in
      let judged : IsJudged Recovery plant n j final l rest = first_judged Recovery plant n j final l rest good in
      lines_answer rest (n + 1) ordered.next judged.behind
      (step plant h (n + 1) final rest p l ordered.next j judged.behind ordered.after ordered.later judged.judged judged.later holds)
      ordered.later judged.later

pub recovery_answers : (plant : Plant) → is_well_formed plant ≡ true → (lines : List Line) (j : Judged) → IsValid plant lines j → question_of lines ≡ Recovery → Answers plant j
recovery_answers plant h (line.Certificate Recovery ∷ rest) j valid is =
    lines_answer plant h j rest 2 (place.Named Recovery) (unjudged plant Recovery)
    (record {
      known = record { one = refl; says = says_nothing plant (unjudged plant Recovery).stated refl; uncommanded = refl; unseen = refl; fit = λ goal a. absurd a };
      listed = refl;
      excluded = refl;
      space = refl;
      states_are = refl;
      goals_are = refl;
    })
    valid.order valid.good
recovery_answers plant h (line.Certificate Diagnosis ∷ rest) j valid is = absurd (cc is)
recovery_answers plant h lines j valid is = absurd (cc (valid.order))
