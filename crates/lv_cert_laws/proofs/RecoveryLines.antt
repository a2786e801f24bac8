-- What the lines of a recovery come to once its values are shown, or none are given: conflicts, counterexamples, splits and the end.
use Rattle.std.proofs.Common.{◌≡◌, ℕ, ◌-◌, ◌≤◌, true, false, not, ◌&&◌, List, [], ◌∷◌, ◌++◌, length, Option, Some, None, cond, inl, inr, ⊎_elim, refl, sym, subst, ◌∙◌, ap, arith}
use Rattle.std.specs.Prelude.{map, take, filter}
use Rattle.std.proofs.lemmas.Bool.{and_parts}
use Rattle.std.proofs.lemmas.Option.{cond_some}
use Rattle.lv_cert_meaning.specs.lv_base.declared.rank.Rank.{Rank}
use Rattle.lv_cert_meaning.specs.lv_base.declared.search.Pair.{Pair}
use Rattle.lv_cert_meaning.specs.lv_base.Choices.{contains_all, pairs_of}
use Rattle.lv_cert_meaning.specs.lv_model.declared.plant.Plant.{Plant}
use Rattle.lv_cert_meaning.specs.lv_model.declared.state.TrackedState.{TrackedState}
use Rattle.lv_cert_meaning.specs.lv_model.Lists.{sizes}
use Rattle.lv_cert_meaning.specs.lv_model.WellFormed.{is_well_formed}
use Rattle.lv_cert_meaning.specs.lv_boxes.Ranked.{rises}
use Rattle.lv_cert_meaning.specs.lv_boxes.Walk.{none_alike}
use Rattle.lv_cert_meaning.proofs.lv_meaning.Among.{Among}
use Rattle.lv_cert_meaning.specs.lv_compile.Booleans.{bool_count}
use Rattle.lv_cert_meaning.specs.lv_compile.ModelClauses.{model_clauses}
use Rattle.lv_cert_meaning.specs.lv_meaning.Recovers.{meets_goals, reaches, can_miss, recovers}
use Rattle.lv_cert_meaning.specs.lv_meaning.Commands.{control_sizes, is_command_set, command_rank, command_sets}
use Rattle.lv_cert_meaning.specs.lv_meaning.Recovery.{rank_recovers}
use Rattle.lv_cert_meaning.proofs.lv_meaning.NominalSteps.{found_step}
use Rattle.lv_cert_meaning.specs.lv_search_zones.Commands.{control_slots, command_zone}
use Rattle.lv_cert_meaning.specs.Following.{literal_of, follows}
use Rattle.lv_cert_meaning.specs.lv_cert.declared.line.Question.TheVariants.{Recovery}
use Rattle.lv_cert_meaning.specs.lv_cert.declared.line.Literal.{Literal}
use Rattle.lv_cert_meaning.specs.lv_cert.declared.line.Evidence.{Evidence}
use Rattle.lv_cert_meaning.specs.lv_cert.declared.line.Line.{Line}
use Rattle.lv_cert_meaning.specs.lv_cert.declared.order.Witness.TheVariants as witness
use Rattle.lv_cert_meaning.specs.lv_cert.declared.order.Place.TheVariants as place
use Rattle.lv_cert_meaning.specs.lv_cert.Order.{splits, place_behind}
use Rattle.lv_cert_meaning.specs.Counting.{is_one_of, are_of, places_of, values_of, at_number, pairs_of_numbers}
use Rattle.lv_cert_meaning.specs.Stated.{Stated}
use Rattle.lv_cert_meaning.specs.Space.{Space, all_passed}
use Rattle.lv_cert_meaning.specs.Judging.{Aimed, Judged, full_to, judge_now, with_conflict, clauses_of_goals, values_refuted, goals_refuted, with_counter, judge_counter, judge_clause, judge_split, judge_lines, comes_to, ends_empty}
use Rattle.lv_cert_meaning.specs.Laws.{aim_of}
use Rattle.lv_cert_laws.proofs.Options.{anded, got_among, number_among}
use Rattle.lv_cert_laws.proofs.Refuting.{block_refutes}
use Rattle.lv_cert_laws.proofs.Exclusion.{IsCovered, first_covers}
use Rattle.lv_cert_laws.proofs.Shown.{places_below}
use Rattle.lv_cert_laws.proofs.Sound.{IsTold, IsSound, IsFinal, split_sound, excluded_sound, own_sound, before_sound, is_final}
use Rattle.lv_cert_laws.proofs.Ahead.{IsShown, pair_shown}
use Rattle.lv_cert_laws.proofs.Blocked.{IsKnown, never_reached}
use Rattle.lv_cert_laws.proofs.Aiming.{IsAimed, shown_aims}
use Rattle.lv_cert_laws.proofs.Recovering.{IsRecovering, recovering_apart, recovering_in_zone, unreached_in_none, missing_in_none, first_recovers}
use Rattle.lv_cert_laws.proofs.RecoveryStages.{first_space, IsPending}

abbrev pub IsSoundFor : Plant → Stated → Judged → Type 0
IsSoundFor plant s j = IsSound (IsRecovering plant s) none_alike (control_slots plant) s j

-- sound, for what a recovery states
pub record IsLate (plant : Plant) (j : Judged) : Type 0 where
  pub stated : Stated
  pub known : IsKnown plant stated
  pub sound : IsSoundFor plant stated j

-- what is listed is the answer for what is stated
abbrev pub Answers : Plant → Judged → Type 0
Answers plant j = j.listed ≡ take 1 (filter (rank_recovers plant (aim_of j.stated)) (command_sets plant))

-- where none is alike another, what is told is listed
plainly_told : (listed : List Rank) (r : Rank) → IsTold none_alike listed r → Among r listed
plainly_told listed r (inl a) = a
plainly_told listed r (inr second) = absurd (cc (second.like))

module _ (plant : Plant) (h : is_well_formed plant ≡ true) where
  -- nothing is excluded, and what is listed, if something is, recovers
  pub first_late : (j : Judged) → IsKnown plant j.stated → j.excluded ≡ [] → j.space ≡ first_space plant → length j.listed ≤ 1 → rises j.listed ≡ true
      → ((r : Rank) → Among r j.listed → IsRecovering plant j.stated r) → IsLate plant j
  first_late j known excluded space few rising shown =
      record {
        stated = j.stated;
        known = known;
        sound = record {
          stated_is = refl;
          slots_are = ap (λ (s : Space). s.slots) space;
          few = let one = known.one in omega (arith, few, one);
          rising = rising;
          firsts = record { apart = λ q r a b before. refl };
          shown = shown;
          barred = λ pairs a. absurd (subst (λ cs. Among pairs cs) excluded a);
          covered = subst (IsCovered (IsRecovering plant j.stated) (IsTold none_alike j.listed)) (sym space)
              (first_covers (IsRecovering plant j.stated) (IsTold none_alike j.listed) (control_slots plant) (command_zone plant ∷ []) (recovering_in_zone plant j.stated h));
        };
      }

  pub none_late : (j : Judged) → IsKnown plant j.stated → j.excluded ≡ [] → j.space ≡ first_space plant → j.listed ≡ [] → IsLate plant j
  none_late j known excluded space listed =
      first_late j known excluded space (let long = ap length listed in omega (arith, long)) (ap rises listed) (λ r a. absurd (subst (λ rs. Among r rs) listed a))

  pub shown_late : (j : Judged) (u : List ℕ) → IsPending plant u j → recovers plant (aim_of j.stated) u ≡ true → IsLate plant j
  shown_late j u pending sure =
      first_late j pending.known pending.excluded pending.space (let long = ap length pending.listed in omega (arith, long)) (ap rises pending.listed)
      (λ r a. only r (subst (λ rs. Among r rs) pending.listed a))
    where
      only : (r : Rank) → Among r (command_rank plant u ∷ []) → IsRecovering plant j.stated r
      only r (inl e) = subst (IsRecovering plant j.stated) (sym e) (record { set = record { values = pending.set; cost = refl; source = refl }; recovers = sure })
      only r (inr never) = absurd never

  pub split_late : (j k : Judged) (n : ℕ) (by : Evidence) → splits Recovery by ≡ true → judge_split plant j n by ≡ Some k → IsLate plant j → IsLate plant k
  split_late j k n by fits judged late =
      record {
        stated = late.stated;
        known = late.known;
        sound = split_sound (IsRecovering plant late.stated) none_alike (control_slots plant) late.stated plant (recovering_apart plant late.stated) j k n by
            (λ m is. absurd (cc (sym (ap (splits Recovery) is) ∙ fits))) late.sound judged;
      }

  pub clause_late : (j k : Judged) (ls : List Literal) (hs : List ℕ) → judge_clause plant j ls hs ≡ Some k → IsLate plant j → IsLate plant k
  clause_late j k ls hs judged late =
      let both = cond_some (follows (bool_count plant) (model_clauses plant ++ j.own) ls hs) (record j { own = j.own ++ map literal_of ls ∷ [] }) k judged in
      subst (IsLate plant) both.1
      (record { stated = late.stated; known = late.known; sound = own_sound (IsRecovering plant late.stated) none_alike (control_slots plant) late.stated j (j.own ++ map literal_of ls ∷ []) late.sound })

  pub now_late : (j k : Judged) (ns : List ℕ) → judge_now plant j ns ≡ Some k → IsLate plant j → IsLate plant k
  now_late j k ns judged late =
      let both = cond_some (are_of (sizes plant) ns) (record j { before = Some (values_of ns) }) k judged in
      subst (IsLate plant) both.1
      (record { stated = late.stated; known = late.known; sound = before_sound (IsRecovering plant late.stated) none_alike (control_slots plant) late.stated j (Some (values_of ns)) late.sound })

  pub end_answers : (j k : Judged) → cond (all_passed j.space (full_to j)) (Some j) None ≡ Some k → IsLate plant j → Answers plant k
  end_answers j k judged late =
      let both = cond_some (all_passed j.space (full_to j)) j k judged in
      let final : IsFinal (IsRecovering plant late.stated) none_alike (control_slots plant) late.stated j = is_final (IsRecovering plant late.stated) none_alike (control_slots plant) late.stated j late.sound both.0 in
      let few = late.sound.few in
      let one = late.known.one in
      let answer : j.listed ≡ take 1 (filter (rank_recovers plant (aim_of late.stated)) (command_sets plant)) =
      first_recovers plant late.stated j.listed (omega (arith, few, one)) late.sound.shown
      (λ r other a is left. ⊎_elim (λ told. absurd (left (plainly_told j.listed other told))) (λ behind. behind.after r a) (final.each other is))
      (λ fewer r is. plainly_told j.listed r (final.none_left_out (omega (arith, fewer, one)) r is)) in
      subst (Answers plant) both.1 (subst (λ (s : Stated). j.listed ≡ take 1 (filter (rank_recovers plant (aim_of s)) (command_sets plant))) (sym late.sound.stated_is) answer)

  -- values of controls don't reach the goals from a state, which the clauses that follow show
  pub conflict_late : (n : ℕ) (j k final : Judged) (ns : List ℕ) (rest : List Line) → goals_refuted plant j ns rest ≡ Some k → judge_lines Recovery plant n k rest ≡ comes_to final
      → IsLate plant j → IsLate plant k
  conflict_late n j k final [] rest judged later late = absurd (cc judged)
  conflict_late n j k final (m ∷ ns) rest judged later late =
      let from = anded (values_refuted plant j ns rest) (at_number j.stated.tracked m) k judged in
      let x : TrackedState = from.0 in
      let found = anded (λ (pairs : List Pair). with_conflict j pairs (clauses_of_goals plant j pairs x) rest) (pairs_of_numbers (control_sizes plant) ns) k from.2 in
      let pairs : List Pair = found.0 in
      let opened : Judged = record j { excluded = j.excluded ++ pairs ∷ []; own = clauses_of_goals plant j pairs x } in
      let both = cond_some (ends_empty rest) opened k found.2 in
      let known : IsKnown plant j.stated = subst (IsKnown plant) (sym late.sound.stated_is) late.known in
      let never : reaches plant (aim_of j.stated) x.state pairs ≡ false =
      never_reached plant h j.stated known x.state pairs
      (λ values whole hold. block_refutes Recovery plant values whole n opened final rest (subst (λ (y : Judged). judge_lines Recovery plant n y rest ≡ comes_to final) (sym both.1) later) both.0 hold) in
      let none : (r : Rank) → IsRecovering plant late.stated r → contains_all r.choices pairs ≡ false =
      λ r is.
      unreached_in_none plant j.stated x (number_among j.stated.tracked m x from.1) pairs never r (subst (λ (s : Stated). IsRecovering plant s r) (sym late.sound.stated_is) is) in
      subst (IsLate plant) both.1
      (record {
        stated = late.stated;
        known = late.known;
        sound = excluded_sound (IsRecovering plant late.stated) none_alike (control_slots plant) late.stated j pairs (clauses_of_goals plant j pairs x) late.sound none;
      })

  -- another aim changes nothing of this
  aimed_sound : (s : Stated) (j : Judged) (aimed : Option Aimed) → IsSoundFor plant s j → IsSoundFor plant s (record j { aimed = aimed })
  aimed_sound s j aimed sound =
      record { stated_is = sound.stated_is; slots_are = sound.slots_are; few = sound.few; rising = sound.rising; firsts = sound.firsts; shown = sound.shown; barred = sound.barred; covered = sound.covered }

  -- values of all controls miss a goal from a state, which the next two lines show
  pub counter_late : (n : ℕ) (j k final : Judged) (ns : List ℕ) (rest : List Line) → judge_counter plant j ns ≡ Some k → place_behind (place.Now witness.OfCounter) rest ≡ Some place.Done
      → judge_lines Recovery plant n k rest ≡ comes_to final → IsLate plant j → IsLate plant k
  counter_late n j k final [] rest judged order later late = absurd (cc judged)
  counter_late n j k final (m ∷ ns) rest judged order later late =
      let values : List ℕ = places_of ns in
      let aimed : Aimed = record { place = m - 1; values = values; reaches = false } in
      let countered : Judged = with_counter j (m - 1) values in
      let both = cond_some (is_one_of (length j.stated.tracked) m && are_of (control_sizes plant) ns) countered k judged in
      let tests = and_parts (is_one_of (length j.stated.tracked) m) (are_of (control_sizes plant) ns) both.0 in
      let set : is_command_set plant values ≡ true = places_below (control_sizes plant) ns tests.1 in
      let shown : IsShown Recovery plant countered =
      pair_shown Recovery plant witness.OfCounter n countered final rest order (subst (λ (y : Judged). judge_lines Recovery plant n y rest ≡ comes_to final) (sym both.1) later) in
      let aims : IsAimed plant countered aimed = shown_aims plant countered aimed shown in
      let x : TrackedState = aims.state in
      let can : can_miss plant (aim_of j.stated) x.state (pairs_of values) ≡ true =
      found_step plant j.stated.facts.present x.state (pairs_of values) (λ b. not (meets_goals j.stated.goals b)) aims.step (ap not aims.ends) in
      let none : (r : Rank) → IsRecovering plant late.stated r → contains_all r.choices (pairs_of values) ≡ false =
      λ r is.
      missing_in_none plant j.stated x (got_among j.stated.tracked (m - 1) x aims.at) values set can r (subst (λ (s : Stated). IsRecovering plant s r) (sym late.sound.stated_is) is) in
      subst (IsLate plant) both.1
      (record {
        stated = late.stated;
        known = late.known;
        sound = excluded_sound (IsRecovering plant late.stated) none_alike (control_slots plant) late.stated (record j { aimed = Some aimed }) (pairs_of values) j.own
            (aimed_sound late.stated j (Some aimed) late.sound) none;
      })
