-- The lines of a valid diagnosis from the first to the last.
use Rattle.std.proofs.Common.{◌≡◌, ℕ, ◌+◌, true, false, nat_eq, nat_lt, List, [], ◌∷◌, length, Some, refl, sym, subst, ap}
use Rattle.std.specs.Prelude.{map}
use Rattle.std.specs.Cmp.Lexicographic.{pointwise}
use Rattle.std.proofs.lemmas.Option.{cond_some}
use Rattle.lv_cert_meaning.specs.lv_base.declared.limits.TheConstants.{TRACKED}
use Rattle.lv_cert_meaning.specs.lv_model.declared.plant.Plant.{Plant}
use Rattle.lv_cert_meaning.specs.lv_model.declared.state.TrackedState.{TrackedState}
use Rattle.lv_cert_meaning.specs.lv_model.WellFormed.{is_well_formed}
use Rattle.lv_cert_meaning.specs.lv_meaning.declared.facts.Observation.{Observation}
use Rattle.lv_cert_meaning.specs.lv_search_zones.Moves.{zones_from}
use Rattle.lv_cert_meaning.specs.lv_meaning.Commands.{control_sizes}
use Rattle.lv_cert_meaning.specs.lv_cert.declared.line.Question.TheVariants.{Diagnosis, Recovery}
use Rattle.lv_cert_meaning.specs.lv_cert.declared.line.Moment.{Moment}
use Rattle.lv_cert_meaning.specs.lv_cert.declared.line.Moment.TheVariants.{Now, Next}
use Rattle.lv_cert_meaning.specs.lv_cert.declared.line.Head.TheVariants as head
use Rattle.lv_cert_meaning.specs.lv_cert.declared.line.Line.{Line}
use Rattle.lv_cert_meaning.specs.lv_cert.declared.line.Line.TheVariants as line
use Rattle.lv_cert_meaning.specs.lv_cert.declared.order.Witness.TheVariants as witness
use Rattle.lv_cert_meaning.specs.lv_cert.declared.order.Place.{Place}
use Rattle.lv_cert_meaning.specs.lv_cert.declared.order.Place.TheVariants as place
use Rattle.lv_cert_meaning.specs.lv_cert.Order.{after_named, after_asked, after_states, after_facts, place_after, place_behind}
use Rattle.lv_cert_meaning.specs.Counting.{is_one_of, are_of}
use Rattle.lv_cert_meaning.specs.Stated.{Limit, with_limit, state_of, with_state, with_controls, observation_of, with_observation}
use Rattle.lv_cert_meaning.specs.Judging.{Judged, unjudged, limited, judge_line, judge_lines, comes_to, question_of}
use Rattle.lv_cert_meaning.specs.Laws.{IsValid}
use Rattle.lv_cert_laws.proofs.Options.{ComesFrom, mapped, when_true}
use Rattle.lv_cert_laws.proofs.Refuting.{IsJudged, first_judged}
use Rattle.lv_cert_laws.proofs.Saying.{says_controls, observed_there, says_observation}
use Rattle.lv_cert_laws.proofs.Ahead.{IsOrdered, first_ordered}
use Rattle.lv_cert_laws.proofs.DiagnosisLines.{Answers}
use Rattle.lv_cert_laws.proofs.DiagnosisPlaces.{IsBlank, IsStarted, IsFaced, IsCounted, Holds, faced_late, splits_step, blocks_step, first_clause_step, clauses_step, listing_step, now_step, next_step}

module _ (plant : Plant) where
  named_step : (rest : List Line) (l : Line) (q : Place) (j k : Judged) → after_named Diagnosis l ≡ Some q → judge_line Diagnosis plant j rest l ≡ Some k → IsBlank plant j → Holds plant q k
  named_step rest (line.Model name) q j k order judged blank =
      let same : place.Asked ≡ q = cc order in
      subst (λ (p : Place). Holds plant p k) same (subst (IsBlank plant) (cond_some (pointwise nat_eq name plant.name) j k judged).1 blank)
  named_step rest l q j k order judged blank = absurd (cc order)

  limited_started : (limit : Limit) (j k : Judged) → limited j limit ≡ Some k → IsBlank plant j → IsStarted plant limit.most k
  limited_started limit j k judged blank =
      subst (IsStarted plant limit.most) (cond_some (is_one_of 64 limit.most) (record j { stated = with_limit j.stated limit }) k judged).1
      (record { blank = record { listed = blank.listed; excluded = blank.excluded; literals = blank.literals; slots = blank.slots }; limit = refl })

  asked_step : (rest : List Line) (l : Line) (q : Place) (j k : Judged) → after_asked l ≡ Some q → judge_line Diagnosis plant j rest l ≡ Some k → IsBlank plant j → Holds plant q k
  asked_step rest (line.Numbers head.Limit (m ∷ [])) q j k order judged blank =
      let same : place.States m 0 ≡ q = cc order in
      subst (λ (p : Place). Holds plant p k) same (limited_started (record { most = m; distinct = false }) j k judged blank)
  asked_step rest (line.Distinct m) q j k order judged blank =
      let same : place.States m 0 ≡ q = cc order in
      subst (λ (p : Place). Holds plant p k) same (limited_started (record { most = m; distinct = true }) j k judged blank)
  asked_step rest l q j k order judged blank = absurd (cc order)

  states_step : is_well_formed plant ≡ true → (rest : List Line) (l : Line) (m n : ℕ) (q : Place) (j k : Judged) → after_states m n l ≡ Some q → judge_line Diagnosis plant j rest l ≡ Some k → IsStarted plant m j → Holds plant q k
  states_step h rest (line.Numbers head.State ns) m n q j k order judged started =
      let made : ComesFrom (λ (s : TrackedState). record j { stated = with_state j.stated s }) (state_of plant ns) k =
      mapped (λ (s : TrackedState). record j { stated = with_state j.stated s }) (state_of plant ns) k (when_true (nat_lt (length j.stated.tracked) TRACKED) _ k judged) in
      subst (λ (p : Place). Holds plant p k) (cond_some (nat_lt n 64) (place.States m (n + 1)) q order).1
      (subst (IsStarted plant m) made.made
      (record { blank = record { listed = started.blank.listed; excluded = started.blank.excluded; literals = started.blank.literals; slots = started.blank.slots }; limit = started.limit }))
  states_step h rest (line.Numbers head.Control ns) m n q j k order judged started =
      let controlled : Judged = record j { stated = with_controls plant j.stated ns; space = record j.space { zones = map Some (zones_from plant 0 j.stated.tracked) } } in
      subst (λ (p : Place). Holds plant p k) (cond_some (nat_lt 0 n) (place.Facts m 0) q order).1
      (subst (IsFaced plant m) (cond_some (are_of (control_sizes plant) ns) controlled k judged).1
      (record {
        limit = started.limit;
        listed = started.blank.listed;
        excluded = started.blank.excluded;
        space = ap (λ slots. record { slots = slots; zones = map Some (zones_from plant 0 j.stated.tracked) }) started.blank.slots;
        says = says_controls plant h j.stated ns started.blank.literals;
      }))
  states_step h rest l m n q j k order judged started = absurd (cc order)

  -- a fact more
  fact_faced : (moment : Moment) (x v : ℕ) (o : Observation) (m : ℕ) (j : Judged) → observation_of plant x v ≡ Some o → IsFaced plant m j
      → IsFaced plant m (record j { stated = with_observation plant moment j.stated o })
  fact_faced Now x v o m j is faced =
      record { limit = faced.limit; listed = faced.listed; excluded = faced.excluded; space = faced.space; says = says_observation plant Now j.stated o (observed_there plant x v o is) faced.says }
  fact_faced Next x v o m j is faced =
      record { limit = faced.limit; listed = faced.listed; excluded = faced.excluded; space = faced.space; says = says_observation plant Next j.stated o (observed_there plant x v o is) faced.says }

  faced_counted : (m : ℕ) (j : Judged) → IsFaced plant m j → IsCounted plant (record { most = m; listed = 0 }) j
  faced_counted m j faced = record { late = faced_late plant m j faced; most = sym faced.limit; listed = sym (ap length faced.listed) }

module _ (plant : Plant) (h : is_well_formed plant ≡ true) (n : ℕ) (final : Judged) (rest : List Line) where
  facts_step : (l : Line) (m facts : ℕ) (q : Place) (j k : Judged) → after_facts m facts l ≡ Some q → place_behind q rest ≡ Some place.Done → judge_line Diagnosis plant j rest l ≡ Some k
      → judge_lines Diagnosis plant n k rest ≡ comes_to final → IsFaced plant m j → Holds plant q k
  facts_step (line.Fact moment x v) m facts q j k order behind judged later faced =
      let made : ComesFrom (λ (o : Observation). record j { stated = with_observation plant moment j.stated o }) (observation_of plant x v) k =
      mapped (λ (o : Observation). record j { stated = with_observation plant moment j.stated o }) (observation_of plant x v) k judged in
      subst (λ (p : Place). Holds plant p k) (cond_some (nat_lt facts 1024) (place.Facts m (facts + 1)) q order).1
      (subst (IsFaced plant m) made.made (fact_faced plant moment x v made.source m j made.at faced))
  facts_step (line.Split zone by) m facts q j k order behind judged later faced =
      listing_step plant h n final rest (line.Split zone by) (record { most = m; listed = 0 }) q j k order behind judged later (faced_counted plant m j faced)
  facts_step (line.Numbers head ns) m facts q j k order behind judged later faced =
      listing_step plant h n final rest (line.Numbers head ns) (record { most = m; listed = 0 }) q j k order behind judged later (faced_counted plant m j faced)
  facts_step line.End m facts q j k order behind judged later faced =
      listing_step plant h n final rest line.End (record { most = m; listed = 0 }) q j k order behind judged later (faced_counted plant m j faced)
  facts_step l m facts q j k order behind judged later faced = absurd (cc order)

  step : (p : Place) (l : Line) (q : Place) (j k : Judged) → place_after p l ≡ Some q → place_behind q rest ≡ Some place.Done → judge_line Diagnosis plant j rest l ≡ Some k
      → judge_lines Diagnosis plant n k rest ≡ comes_to final → Holds plant p j → Holds plant q k
  step (place.Named Diagnosis) l q j k order behind judged later holds = named_step plant rest l q j k order judged holds
  step place.Asked l q j k order behind judged later holds = asked_step plant rest l q j k order judged holds
  step (place.States m i) l q j k order behind judged later holds = states_step plant h rest l m i q j k order judged holds
  step (place.Facts m i) l q j k order behind judged later holds = facts_step l m i q j k order behind judged later holds
  step (place.Listings listing) l q j k order behind judged later holds = listing_step plant h n final rest l listing q j k order behind judged later holds
  step (place.Now (witness.OfListed listing)) l q j k order behind judged later holds = now_step plant h n final rest l listing q j k order judged holds
  step (place.Next (witness.OfListed listing)) l q j k order behind judged later holds = next_step plant h n final rest l listing q j k order judged holds
  step (place.Clauses Diagnosis) l q j k order behind judged later holds = first_clause_step plant h n final rest l q j k order judged holds
  step (place.MoreClauses Diagnosis) l q j k order behind judged later holds = clauses_step plant h n final rest l q j k order judged later holds
  step (place.Blocks Diagnosis) l q j k order behind judged later holds = blocks_step plant h n final rest l q j k order judged later holds
  step (place.Splits Diagnosis) l q j k order behind judged later holds = splits_step plant h n final rest l q j k order judged holds
  step place.Done l q j k order behind judged later holds = absurd (cc order)
  step p l q j k order behind judged later holds = absurd holds

module _ (plant : Plant) (h : is_well_formed plant ≡ true) (final : Judged) where
  lines_answer : (lines : List Line) (n : ℕ) (p : Place) (j : Judged) → Holds plant p j → place_behind p lines ≡ Some place.Done → judge_lines Diagnosis plant n j lines ≡ comes_to final
      → Answers plant final
  lines_answer [] n p j holds order good =
      let there : p ≡ place.Done = cc order in
      let same : j ≡ final = cc good in
      subst (Answers plant) same (subst (λ (r : Place). Holds plant r j) there holds)
  lines_answer (l ∷ rest) n p j holds order good =
      let ordered : IsOrdered p place.Done l rest = first_ordered p place.Done l rest order in
      let judged : IsJudged Diagnosis plant n j final l rest = first_judged Diagnosis plant n j final l rest good in
      lines_answer rest (n + 1) ordered.next judged.behind
      (step plant h (n + 1) final rest p l ordered.next j judged.behind ordered.after ordered.later judged.judged judged.later holds)
      ordered.later judged.later

pub diagnosis_answers : (plant : Plant) → is_well_formed plant ≡ true → (lines : List Line) (j : Judged) → IsValid plant lines j → question_of lines ≡ Diagnosis → Answers plant j
diagnosis_answers plant h (line.Certificate Diagnosis ∷ rest) j valid is =
    lines_answer plant h j rest 2 (place.Named Diagnosis) (unjudged plant Diagnosis) (record { listed = refl; excluded = refl; literals = refl; slots = refl }) valid.order valid.good
diagnosis_answers plant h (line.Certificate Recovery ∷ rest) j valid is = absurd (cc is)
diagnosis_answers plant h lines j valid is = absurd (cc (valid.order))
