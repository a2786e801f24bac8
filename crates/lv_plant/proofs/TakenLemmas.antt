-- A step that is taken: what the session comes to, and what is told.
use Rattle.std.proofs.Common.{◌≡◌, ℕ, zero, suc, ◌+◌, ◌<◌, ◌≤◌, ◌%◌, Bool, true, false, cond, nat_eq, nat_le, List, [], ◌∷◌, ◌++◌, length, map, take, filter, slice_get, Some, None, Contains, inl, inr, refl, sym, subst, ◌∙◌, ap, arith}
use Rattle.std.proofs.lemmas.Bool.{and_parts, and_from, leb-true, le-leb, eqb-true}
use Rattle.lv_base.specs.declared.ids.ValId.{ValId}
use Rattle.lv_base.specs.declared.rank.Rank.{Rank}
use Rattle.lv_base.specs.declared.limits.TheConstants.{COMMITS}
use Rattle.lv_model.specs.declared.plant.Plant.{Plant}
use Rattle.lv_model.specs.declared.state.TrackedState.{TrackedState}
use Rattle.lv_model.specs.Lists.{controls}
use Rattle.lv_model.specs.Meaning.{is_feasible, parts_step}
use Rattle.lv_boxes.specs.declared.outcome.Outcome.{Outcome}
use Rattle.lv_boxes.specs.declared.outcome.Outcome.TheVariants.{Settled, Unsettled}
use Rattle.lv_boxes.specs.Walk.{Walked, first_of_each}
use Rattle.lv_meaning.specs.Facts.{meets, commanded, now_facts, meets_facts}
use Rattle.lv_meaning.specs.Candidates.{candidates, is_possible_rank, first_possible}
use Rattle.lv_meaning.specs.CandidateLaws.{moves_cost, IsCandidate}
use Rattle.lv_meaning.specs.Recovers.{has_modes as has_modes_before}
use Rattle.lv_meaning.specs.Targets.{target_modes, have_one_target, answer}
use Rattle.lv_meaning.proofs.Among.{Among, among, contained}
use Rattle.lv_meaning.proofs.Answering.{answer_law}
use Rattle.lv_meaning.proofs.DiagnosisWalks.{answers}
use Rattle.lv_session.specs.lv_tracker.Targets.{target_state}
use Rattle.lv_session.specs.lv_tracker.Tracked.{advanced}
use Rattle.lv_session.proofs.lv_tracker.FirstLemmas.{first_of_each_law}
use Rattle.lv_reply.specs.declared.reply.Refusal.TheVariants.{NothingListed, TooManyCommits}
use Rattle.lv_reply.specs.declared.reply.Reply.TheVariants.{Refused as RefusedReply, Settled as SettledReply, Committed as CommittedReply}
use Rattle.lv_session.specs.lv_session_request.declared.request.Sighting.{Sighting}
use Rattle.lv_session.specs.lv_session_request.Held.{observation_of}
use Rattle.lv_session.specs.lv_session_state.declared.query.Query.{Query}
use Rattle.lv_session.specs.lv_session_state.declared.query.Query.TheVariants.{Absent, Diagnosis, Recovery, Test, Window}
use Rattle.lv_session.specs.lv_session_state.State.{SessionState, unchanged as session_unchanged, facts_of, walked, reply_by, diagnosis_reply, taken_over, advanced_to, tracing, last_step, commit_by, commit}
use Rattle.lv_plant_step.specs.declared.asked.PlantStep.{PlantStep}
use Rattle.lv_plant_step.specs.Laws.{IsPlantStep}
use Rattle.lv_plant_step.proofs.SolutionLemmas.{mv_number}
use Rattle.lv_plant.specs.declared.plant.TheConstants.{STEPS}
use Rattle.lv_plant.specs.Findings.{is_held}
use Rattle.lv_plant.specs.Seeing.{letter, observables, seen, modes_in}
use Rattle.lv_plant.specs.declared.seeing.TheConstants.{SEEN}
use Rattle.lv_plant.specs.Standing.{Standing, Committed, with_session, asked_of, moved, told, told_by, lists_some, commit_at, committed_by, after_commit, taken}
use Rattle.lv_plant.specs.Laws.{IsRunning, IsOwn}
use Rattle.lv_plant.proofs.OwnLemmas.{numbers_back, StandsIn, held_place, targets_are, own_moves, own_possible}
use Rattle.lv_plant.proofs.KeptLemmas.{IsTold, seen_told}

-- items of lists

among_map : {X Y : Type 0} (f : X → Y) (xs : List X) (x : X) → Among x xs → Among (f x) (map f xs)
among_map f [] x h = absurd h
among_map f (y ∷ ys) x (inl e) = inl (ap f e)
among_map f (y ∷ ys) x (inr h) = inr (among_map f ys x h)

contains_map : {X Y : Type 0} (f : X → Y) (xs : List X) (x : X) → Contains xs x → Contains (map f xs) (f x)
contains_map f xs x h = contained (map f xs) (f x) (among_map f xs x (among xs x h))

among_some : {X : Type 0} (xs : List X) (x : X) → Among x xs → 1 ≤ length xs
among_some [] x h = absurd h
among_some (y ∷ ys) x h = omega arith

-- a walk that is told of

pub came_to : (o : Outcome) (w : Walked) (listed : List Rank) → reply_by o w ≡ SettledReply listed → (o ≡ Settled) × (w.listed ≡ listed)
came_to Settled w listed h = (refl, cc h)
came_to Unsettled w listed h = absurd (cc h)

lists_listed : (o : Outcome) (w : Walked) → lists_some (reply_by o w) ≡ true → (o ≡ Settled) × (1 ≤ length w.listed)
lists_listed Settled w h = (refl, leb-true 1 (length w.listed) h)
lists_listed Unsettled w h = absurd (cc h)

-- a commit

commit_settled : (plant : Plant) (state : SessionState) (listed : List Rank) → 1 ≤ length listed → state.time < COMMITS → (taken_over plant state listed).state ≡ advanced_to plant state listed
commit_settled plant state listed some few = by (nat_eq (length listed) 0) (nat_le COMMITS state.time) refl refl
  where
    by : (a b : Bool) → nat_eq (length listed) 0 ≡ a → nat_le COMMITS state.time ≡ b
        → (cond a (session_unchanged state (RefusedReply NothingListed)) (cond b (session_unchanged state (RefusedReply TooManyCommits))
        (record { state = advanced_to plant state listed; reply = CommittedReply (state.time + 1) (length (advanced plant listed)) }))).state ≡ advanced_to plant state listed
    by true b e f = let none = eqb-true (length listed) 0 e in absurd (omega (arith, some, none))
    by false true e f = let late = leb-true COMMITS state.time f in absurd (omega (arith, late, few))
    by false false e f = refl

-- it keeps the goals
taking_keeps : (plant : Plant) (state : SessionState) (listed : List Rank) → (taken_over plant state listed).state.goals ≡ state.goals
taking_keeps plant state listed = by (nat_eq (length listed) 0) (nat_le COMMITS state.time)
  where
    by : (a b : Bool)
        → (cond a (session_unchanged state (RefusedReply NothingListed)) (cond b (session_unchanged state (RefusedReply TooManyCommits))
        (record { state = advanced_to plant state listed; reply = CommittedReply (state.time + 1) (length (advanced plant listed)) }))).state.goals ≡ state.goals
    by true b = refl
    by false true = refl
    by false false = refl

commit_keeps : (q : Query) (plant : Plant) (state : SessionState) → (commit q plant state).state.goals ≡ state.goals
commit_keeps Absent plant state = refl
commit_keeps (Diagnosis sum) plant state = by (walked plant state sum).outcome
  where
    by : (o : Outcome) → (commit_by o plant state (walked plant state sum).listed).state.goals ≡ state.goals
    by Settled = taking_keeps plant state (walked plant state sum).listed
    by Unsettled = refl
commit_keeps (Recovery sum) plant state = refl
commit_keeps (Test x sum) plant state = refl
commit_keeps (Window steps sum) plant state = by (tracing plant state steps sum).outcome
  where
    by : (o : Outcome) → (commit_by o plant state (map (last_step plant) (tracing plant state steps sum).listed)).state.goals ≡ state.goals
    by Settled = taking_keeps plant state (map (last_step plant) (tracing plant state steps sum).listed)
    by Unsettled = refl

-- nor does it end the session
taking_ended : (plant : Plant) (state : SessionState) (listed : List Rank) → (taken_over plant state listed).state.is_ended ≡ state.is_ended
taking_ended plant state listed = by (nat_eq (length listed) 0) (nat_le COMMITS state.time)
  where
    by : (a b : Bool)
        → (cond a (session_unchanged state (RefusedReply NothingListed)) (cond b (session_unchanged state (RefusedReply TooManyCommits))
        (record { state = advanced_to plant state listed; reply = CommittedReply (state.time + 1) (length (advanced plant listed)) }))).state.is_ended ≡ state.is_ended
    by true b = refl
    by false true = refl
    by false false = refl

pub commit_ended : (q : Query) (plant : Plant) (state : SessionState) → (commit q plant state).state.is_ended ≡ state.is_ended
commit_ended Absent plant state = refl
commit_ended (Diagnosis sum) plant state = by (walked plant state sum).outcome
  where
    by : (o : Outcome) → (commit_by o plant state (walked plant state sum).listed).state.is_ended ≡ state.is_ended
    by Settled = taking_ended plant state (walked plant state sum).listed
    by Unsettled = refl
commit_ended (Recovery sum) plant state = refl
commit_ended (Test x sum) plant state = refl
commit_ended (Window steps sum) plant state = by (tracing plant state steps sum).outcome
  where
    by : (o : Outcome) → (commit_by o plant state (map (last_step plant) (tracing plant state steps sum).listed)).state.is_ended ≡ state.is_ended
    by Settled = taking_ended plant state (map (last_step plant) (tracing plant state steps sum).listed)
    by Unsettled = refl

same_walk : (plant : Plant) (state : SessionState) (q : Query) (sum : ℕ) → walked plant (record state { query = q }) sum ≡ walked plant state sum
unfolding walked
same_walk plant state q sum = refl

some_or_few : (rs : List Rank) (k : ℕ) → 1 ≤ k → (length rs < k → 1 ≤ length rs) → 1 ≤ length rs
some_or_few [] k lists f = f (omega (arith, lists))
some_or_few (r ∷ rs) k lists f = omega arith

-- the first of some stays where each stands once
some_once : (alike : Rank → Rank → Bool) (k : ℕ) (rs : List Rank) → 1 ≤ k → 1 ≤ length (take 1 rs) → 1 ≤ length (take k (first_of_each alike rs))
some_once alike zero rs lists some = absurd (omega (arith, lists))
some_once alike (suc k) [] lists some = absurd (omega (arith, some))
some_once alike (suc k) (r ∷ rs) lists some = omega arith

module _ (s : Standing) (taking : PlantStep) where
  abbrev plant_of : Plant
  plant_of = s.session.plant

  -- the plant behind the step, and its session as it is told, and as it has diagnosed
  abbrev pub behind : Standing
  behind = moved plant_of s taking

  abbrev pub told_state : SessionState
  told_state = told plant_of s.session.state (seen plant_of (nat_eq ((s.time + 1) % 2) 1) taking.after)

  abbrev pub came : Walked
  came = walked plant_of told_state told_state.budget

  abbrev pub at_diagnosis : Standing
  at_diagnosis = with_session behind (record told_state { query = Diagnosis told_state.budget })

  abbrev pub comes : Committed
  comes = committed_by at_diagnosis (diagnosis_reply came)

  pub taken_is : taken plant_of s taking ≡ after_commit taking (diagnosis_reply came) comes
  unfolding taken told_by
  taken_is = refl

  pub is_told : IsTold taking.after s.session.state told_state
  is_told = seen_told plant_of taking.after (letter (nat_eq ((s.time + 1) % 2) 1)) 1 (take SEEN (observables plant_of)) s.session.state

  -- it commits what it lists
  abbrev halted : Committed
  halted = record { next = record at_diagnosis { is_halted = true }; commit = None }

  abbrev committing : Committed
  committing = record { next = with_session at_diagnosis (commit_at at_diagnosis).state; commit = Some (commit_at at_diagnosis).reply }

  pub comes_listing : lists_some (diagnosis_reply came) ≡ true → comes ≡ committing
  unfolding committed_by
  comes_listing h = ap (λ (b : Bool). cond b committing halted) h

  pub comes_halted : lists_some (diagnosis_reply came) ≡ false → comes ≡ halted
  unfolding committed_by
  comes_halted h = ap (λ (b : Bool). cond b committing halted) h

  pub committed_state : lists_some (diagnosis_reply came) ≡ true → s.session.state.time < COMMITS → (commit_at at_diagnosis).state ≡ advanced_to plant_of at_diagnosis.session.state came.listed
  committed_state h few =
      let two = lists_listed came.outcome came h in
      let time : told_state.time ≡ s.session.state.time = is_told.time in
      ap (λ (w : Walked). (commit_by w.outcome plant_of at_diagnosis.session.state w.listed).state) (same_walk plant_of told_state (Diagnosis told_state.budget) told_state.budget)
      ∙ ap (λ (o : Outcome). (commit_by o plant_of at_diagnosis.session.state came.listed).state) two.0
      ∙ commit_settled plant_of at_diagnosis.session.state came.listed two.1 (omega (arith, time, few))

  -- the goals are those that were
  pub goals_kept : comes.next.session.state.goals ≡ s.session.state.goals
  goals_kept = by (lists_some (diagnosis_reply came)) refl
    where
      by : (b : Bool) → lists_some (diagnosis_reply came) ≡ b → comes.next.session.state.goals ≡ s.session.state.goals
      by true e = ap (λ (c : Committed). c.next.session.state.goals) (comes_listing e) ∙ commit_keeps (Diagnosis told_state.budget) plant_of at_diagnosis.session.state ∙ is_told.goals
      by false e = ap (λ (c : Committed). c.next.session.state.goals) (comes_halted e) ∙ is_told.goals

  -- it goes on
  pub runs_on : IsRunning s → s.time < STEPS → IsRunning comes.next
  runs_on is few = by (lists_some (diagnosis_reply came)) refl
    where
      goes_on : told_state.is_ended ≡ false
      goes_on = is_told.ended ∙ is.goes_on

      lists : 1 ≤ told_state.k
      lists = subst (λ (k : ℕ). 1 ≤ k) (sym is_told.k) is.lists

      on_time : told_state.time ≤ s.time
      on_time = subst (λ (n : ℕ). n ≤ s.time) (sym is_told.time) is.commits

      by : (b : Bool) → lists_some (diagnosis_reply came) ≡ b → IsRunning comes.next
      by true e =
          let commits = is.commits in
          let most : STEPS ≡ COMMITS = refl in
          let next : comes.next ≡ with_session at_diagnosis (advanced_to plant_of at_diagnosis.session.state came.listed) =
          ap (λ (c : Committed). c.next) (comes_listing e) ∙ ap (λ (state : SessionState). with_session at_diagnosis state) (committed_state e (omega (arith, commits, few, most))) in
          subst IsRunning (sym next)
          (record {
            goes_on = goes_on;
            lists = lists;
            commits = let before = on_time in omega (arith, before);
            clear = λ _. refl;
            aims = λ sum q. absurd (cc q);
          })
      by false e =
          subst (λ (c : Committed). IsRunning c.next) (sym (comes_halted e))
          (record {
            goes_on = goes_on;
            lists = lists;
            commits = let before = on_time in omega (arith, before);
            clear = λ never. absurd (cc never);
            aims = λ sum q. absurd (cc q);
          })

  module _ (is : IsRunning s) (few : s.time < STEPS) (made : IsPlantStep plant_of (asked_of s) taking) where
    each_steps : parts_step plant_of.types taking.before taking.after plant_of.parts made.moves ≡ true
    each_steps = (and_parts (is_feasible plant_of taking.after) _ (and_parts (is_feasible plant_of taking.before) _ made.step.step).1).1

    -- where its own moves are listed its modes are tracked
    pub held_behind : (listed : List Rank) → diagnosis_reply came ≡ SettledReply listed → IsOwn s made.moves listed → is_held comes.next.modes comes.next.session.state.tracked ≡ true
    held_behind listed tells own =
        let two = came_to came.outcome came listed tells in
        let commits = is.commits in
        let most : STEPS ≡ COMMITS = refl in
        let some : 1 ≤ length listed = among_some listed own.rank (among listed own.rank own.listed) in
        let lists : lists_some (diagnosis_reply came) ≡ true = ap lists_some tells ∙ le-leb 1 (length listed) some in
        let next : comes.next ≡ with_session at_diagnosis (advanced_to plant_of at_diagnosis.session.state came.listed) =
        ap (λ (c : Committed). c.next) (comes_listing lists) ∙ ap (λ (state : SessionState). with_session at_diagnosis state) (committed_state lists (omega (arith, commits, few, most))) in
        let choices : own.rank.choices ≡ map mv_number made.moves = sym (numbers_back own.rank.choices) ∙ ap (map mv_number) own.choices in
        let modes : target_modes plant_of.types plant_of.parts own.rank.choices ≡ modes_in plant_of.parts taking.after =
        ap (target_modes plant_of.types plant_of.parts) choices ∙ targets_are plant_of.types taking.before taking.after plant_of.parts made.moves each_steps in
        subst (λ (t : Standing). is_held t.modes t.session.state.tracked ≡ true) (sym next)
        (subst (λ (rs : List Rank). is_held (modes_in plant_of.parts taking.after) (advanced plant_of rs) ≡ true) (sym two.1)
        (subst (λ (vs : List ValId). is_held vs (advanced plant_of listed) ≡ true) modes
        ((first_of_each_law (map (target_state plant_of) listed)).covered (target_state plant_of own.rank) (contains_map (target_state plant_of) listed own.rank own.listed))))

    -- its own moves from a tracked state with its modes
    abbrev own_rank : StandsIn s.modes s.session.state.tracked → Rank
    own_rank at = record {
      cost = record { 0 = at.state.cost.0 + moves_cost plant_of.types plant_of.parts (map mv_number made.moves) };
      source = at.place;
      choices = map mv_number made.moves;
    }

    own_candidate : (at : StandsIn s.modes s.session.state.tracked) → IsCandidate plant_of told_state.tracked (own_rank at)
    own_candidate at = record {
      state = at.state;
      source = ap (λ (ss : List TrackedState). slice_get ss at.place) is_told.tracked ∙ at.at;
      moves =
          own_moves plant_of.types taking.before taking.after plant_of.parts at.state.state.modes made.moves
          (ap (λ (vs : List ValId). has_modes_before plant_of.parts vs taking.before) at.modes_are ∙ made.modes) each_steps;
      cost = refl;
    }

    -- are possible, for what the session is told is true
    facts_met : s.is_halted ≡ false → meets_facts plant_of (facts_of told_state) taking.before taking.after ≡ true
    facts_met runs =
        let now : now_facts plant_of (facts_of told_state) ≡ now_facts plant_of (facts_of s.session.state) =
        λ i. commanded (controls plant_of) (is_told.controls i) ++ map observation_of (is_told.present i) in
        let none : meets taking.after (map observation_of s.session.state.next) ≡ true = ap (λ (xs : List Sighting). meets taking.after (map observation_of xs)) (is.clear runs) in
        and_from (meets taking.before (now_facts plant_of (facts_of told_state))) (meets taking.after (map observation_of told_state.next))
        (ap (meets taking.before) now ∙ made.facts) (is_told.met none)

    own_is_possible : s.is_halted ≡ false → (at : StandsIn s.modes s.session.state.tracked) → is_possible_rank plant_of (facts_of told_state) (own_rank at) ≡ true
    own_is_possible runs at = own_possible plant_of (facts_of told_state) taking.before taking.after made.moves made.step (facts_met runs)

    -- so that a settled diagnosis lists something
    pub listed_first : came.outcome ≡ Settled → came.listed ≡ answer told_state.distinct told_state.k plant_of (facts_of told_state) told_state.tracked
    unfolding walked
    listed_first settled = answers told_state.distinct plant_of (facts_of told_state) told_state.k told_state.budget told_state.tracked settled

    some_first : s.is_halted ≡ false → StandsIn s.modes s.session.state.tracked → (k : ℕ) → 1 ≤ k → 1 ≤ length (first_possible k plant_of (facts_of told_state) told_state.tracked)
    some_first runs at k lists =
        let law = answer_law k plant_of (facts_of told_state) told_state.tracked in
        let first : List Rank = first_possible k plant_of (facts_of told_state) told_state.tracked in
        some_or_few first k lists
        (λ fewer. among_some first (own_rank at) (among first (own_rank at) (law.none_left_out fewer (own_rank at) (own_candidate at) (own_is_possible runs at))))

    some_answer : (distinct : Bool) → s.is_halted ≡ false → StandsIn s.modes s.session.state.tracked → 1 ≤ told_state.k
        → 1 ≤ length (answer distinct told_state.k plant_of (facts_of told_state) told_state.tracked)
    some_answer false runs at lists = some_first runs at told_state.k lists
    some_answer true runs at lists =
        some_once (have_one_target plant_of) told_state.k (filter (is_possible_rank plant_of (facts_of told_state)) (candidates plant_of told_state.tracked)) lists
        (some_first runs at 1 (omega arith))

    pub lists_then : s.is_halted ≡ false → is_held s.modes s.session.state.tracked ≡ true → came.outcome ≡ Settled → 1 ≤ length came.listed
    lists_then runs held settled =
        subst (λ (rs : List Rank). 1 ≤ length rs) (sym (listed_first settled))
        (some_answer told_state.distinct runs (held_place s.modes s.session.state.tracked held) (subst (λ (k : ℕ). 1 ≤ k) (sym is_told.k) is.lists))
