-- What was judged of good lines can be read off them.
use Rattle.std.proofs.Common.{◌≡◌, ℕ, zero, suc, ◌+◌, ◌-◌, true, false, not, ◌&&◌, nat_eq, nat_lt, nat_le, List, [], ◌∷◌, ◌++◌, length, Option, Some, slice_get, slice_index_or, refl, sym, subst, ◌∙◌, ap}
use Rattle.std.specs.Prelude.{map}
use Rattle.std.specs.List.{list_all, flat_map}
use Rattle.std.specs.Option.{option_map, option_map_or, option_and_then}
use Rattle.std.specs.Cmp.Lexicographic.{pointwise}
use Rattle.std.proofs.lemmas.List.{append_assoc, append-nil}
use Rattle.std.proofs.lemmas.Option.{cond_some}
use Rattle.lv_cert_meaning.specs.lv_base.declared.ids.ValId.{ValId}
use Rattle.lv_cert_meaning.specs.lv_base.declared.limits.TheConstants.{TRACKED, TRACKED_COST}
use Rattle.lv_cert_meaning.specs.lv_base.declared.rank.Rank.{Rank}
use Rattle.lv_cert_meaning.specs.lv_base.declared.search.Pair.{Pair}
use Rattle.lv_cert_meaning.specs.lv_base.Tree.{Tree}
use Rattle.lv_cert_meaning.specs.lv_model.declared.plant.Plant.{Plant}
use Rattle.lv_cert_meaning.specs.lv_model.declared.state.TrackedState.{TrackedState}
use Rattle.lv_cert_meaning.specs.lv_model.Lists.{sizes, move_counts}
use Rattle.lv_cert_meaning.specs.lv_model_names.Names.{classes, is_observable}
use Rattle.lv_cert_meaning.specs.lv_meaning.declared.facts.Observation.{Observation}
use Rattle.lv_cert_meaning.specs.lv_meaning.declared.facts.Facts.{Facts}
use Rattle.lv_cert_meaning.specs.lv_meaning.declared.aim.Aim.{Aim}
use Rattle.lv_cert_meaning.specs.lv_meaning.CandidateLaws.{are_moves, moves_cost}
use Rattle.lv_cert_meaning.specs.lv_meaning.Commands.{control_sizes, command_rank}
use Rattle.lv_cert_meaning.specs.lv_compile.Booleans.{bool_count}
use Rattle.lv_cert_meaning.specs.lv_compile.FormulaClauses.{Clauses}
use Rattle.lv_cert_meaning.specs.lv_compile.ModelClauses.{model_clauses}
use Rattle.lv_cert_meaning.specs.lv_search_zones.Moves.{zones_from}
use Rattle.lv_cert_meaning.specs.Following.{literal_of, follows}
use Rattle.lv_cert_meaning.specs.lv_cert.declared.line.Question.{Question}
use Rattle.lv_cert_meaning.specs.lv_cert.declared.line.Question.TheVariants.{Diagnosis, Recovery}
use Rattle.lv_cert_meaning.specs.lv_cert.declared.line.Moment.{Moment}
use Rattle.lv_cert_meaning.specs.lv_cert.declared.line.Moment.TheVariants.{Now, Next}
use Rattle.lv_cert_meaning.specs.lv_cert.declared.line.Head.{Head}
use Rattle.lv_cert_meaning.specs.lv_cert.declared.line.Head.TheVariants as head
use Rattle.lv_cert_meaning.specs.lv_cert.declared.line.Line.{Line}
use Rattle.lv_cert_meaning.specs.lv_cert.declared.line.Line.TheVariants as line
use Rattle.lv_cert_meaning.specs.Counting.{is_one_of, are_of, places_of, values_of, at_number, mode_counts, pairs_of_numbers}
use Rattle.lv_cert_meaning.specs.Stated.{Limit, Stated, stated_limit, with_limit, state_of, with_state, with_controls, observation_of, with_observation, goal_of, with_goal, rank_from, candidate_of_numbers}
use Rattle.lv_cert_meaning.specs.Space.{open_zone, with_parts, all_passed}
use Rattle.lv_cert_meaning.specs.Judging.{Judged, unjudged, limited, judge_limit, judge_state, judge_control, judge_listed, judge_recovery, judge_good, judge_proof, judge_counter, full_to, is_next, has_old_target, with_listed, shows, ends_empty, with_conflict, clauses_of_choices, values_refuted, clauses_of_goals, answer_values, with_proof, clauses_of_miss, with_counter, split_parts, judge_numbers, judge_conflict, judge_line, judge_lines, comes_to, question_of}
use Rattle.lv_cert_meaning.specs.Contents.{last_from, limits_in, states_in, states_of, controls_in, seen, present_in, next_in, facts_of, one_or_none, goals_in, aim_in, cost_at, candidate_in, answers_in}
use Rattle.lv_cert_meaning.specs.Laws.{aim_of, IsReadOff, JudgedIsReadOff}
use Rattle.lv_cert_laws.proofs.Options.{ComesFrom, mapped, anded, when_true, numbered_at}
use Rattle.lv_cert_laws.proofs.Refuting.{IsJudged, first_judged}

-- what was judged goes on with these: the limit, states, controls, observations before and after, goals, and answers
pub record Adds (j k : Judged) (ks : List Limit) (ts : List TrackedState) (cs : List (List ValId)) (ps ns : List Observation) (gs : List Tree) (rs : List Rank) : Type 0 where
  pub limit : stated_limit k.stated ≡ last_from (stated_limit j.stated) ks
  pub tracked : k.stated.tracked ≡ j.stated.tracked ++ ts
  pub controls : k.stated.facts.controls ≡ last_from j.stated.facts.controls cs
  pub present : k.stated.facts.present ≡ j.stated.facts.present ++ ps
  pub next : k.stated.facts.next ≡ j.stated.facts.next ++ ns
  pub goals : k.stated.goals ≡ j.stated.goals ++ gs
  pub listed : k.listed ≡ j.listed ++ rs

abbrev AddsLine : Plant → List TrackedState → Line → Judged → Judged → Type 0
AddsLine plant tracked l j k = Adds j k (limits_in l) (states_in l) (controls_in l) (present_in l) (next_in l) (goals_in plant l) (answers_in plant tracked l)

abbrev AddsLines : Plant → List TrackedState → List Line → Judged → Judged → Type 0
AddsLines plant tracked ls j k =
    Adds j k (flat_map limits_in ls) (flat_map states_in ls) (flat_map controls_in ls) (flat_map present_in ls) (flat_map next_in ls) (flat_map (goals_in plant) ls) (flat_map (answers_in plant tracked) ls)

-- what was stated and listed stays
record Keeps (j k : Judged) : Type 0 where
  pub stated : k.stated ≡ j.stated
  pub listed : k.listed ≡ j.listed

kept : (j x k : Judged) → x ≡ k → Keeps j x → Adds j k [] [] [] [] [] [] []
kept j x k is same =
    subst (λ (y : Judged). Adds j y [] [] [] [] [] [] []) is
    (record {
      limit = ap stated_limit same.stated;
      tracked = ap (λ (s : Stated). s.tracked) same.stated ∙ sym (append-nil j.stated.tracked);
      controls = ap (λ (s : Stated). s.facts.controls) same.stated;
      present = ap (λ (s : Stated). s.facts.present) same.stated ∙ sym (append-nil j.stated.facts.present);
      next = ap (λ (s : Stated). s.facts.next) same.stated ∙ sym (append-nil j.stated.facts.next);
      goals = ap (λ (s : Stated). s.goals) same.stated ∙ sym (append-nil j.stated.goals);
      listed = same.listed ∙ sym (append-nil j.listed);
    })

module _ (plant : Plant) (j : Judged) where
  limit_one : (m : Limit) → Adds j (record j { stated = with_limit j.stated m }) (m ∷ []) [] [] [] [] [] []
  limit_one m = record {
    limit = refl;
    tracked = sym (append-nil j.stated.tracked);
    controls = refl;
    present = sym (append-nil j.stated.facts.present);
    next = sym (append-nil j.stated.facts.next);
    goals = sym (append-nil j.stated.goals);
    listed = sym (append-nil j.listed);
  }

  state_one : (s : TrackedState) → Adds j (record j { stated = with_state j.stated s }) [] (s ∷ []) [] [] [] [] []
  state_one s = record {
    limit = refl;
    tracked = refl;
    controls = refl;
    present = sym (append-nil j.stated.facts.present);
    next = sym (append-nil j.stated.facts.next);
    goals = sym (append-nil j.stated.goals);
    listed = sym (append-nil j.listed);
  }

  controls_one : (vs : List ℕ) → Adds j (record j { stated = with_controls plant j.stated vs; space = record j.space { zones = map Some (zones_from plant 0 j.stated.tracked) } })
      [] [] (values_of vs ∷ []) [] [] [] []
  controls_one vs = record {
    limit = refl;
    tracked = sym (append-nil j.stated.tracked);
    controls = refl;
    present = sym (append-nil j.stated.facts.present);
    next = sym (append-nil j.stated.facts.next);
    goals = sym (append-nil j.stated.goals);
    listed = sym (append-nil j.listed);
  }

  present_one : (o : Observation) → Adds j (record j { stated = with_observation plant Now j.stated o }) [] [] [] (o ∷ []) [] [] []
  present_one o = record {
    limit = refl;
    tracked = sym (append-nil j.stated.tracked);
    controls = refl;
    present = refl;
    next = sym (append-nil j.stated.facts.next);
    goals = sym (append-nil j.stated.goals);
    listed = sym (append-nil j.listed);
  }

  next_one : (o : Observation) → Adds j (record j { stated = with_observation plant Next j.stated o }) [] [] [] [] (o ∷ []) [] []
  next_one o = record {
    limit = refl;
    tracked = sym (append-nil j.stated.tracked);
    controls = refl;
    present = sym (append-nil j.stated.facts.present);
    next = refl;
    goals = sym (append-nil j.stated.goals);
    listed = sym (append-nil j.listed);
  }

  goal_one : (g : Tree) → Adds j (record j { stated = with_goal j.stated g }) [] [] [] [] [] (g ∷ []) []
  goal_one g = record {
    limit = refl;
    tracked = sym (append-nil j.stated.tracked);
    controls = refl;
    present = sym (append-nil j.stated.facts.present);
    next = sym (append-nil j.stated.facts.next);
    goals = refl;
    listed = sym (append-nil j.listed);
  }

  listed_one : (r : Rank) → Adds j (record j { listed = j.listed ++ r ∷ [] }) [] [] [] [] [] [] (r ∷ [])
  listed_one r = record {
    limit = refl;
    tracked = sym (append-nil j.stated.tracked);
    controls = refl;
    present = sym (append-nil j.stated.facts.present);
    next = sym (append-nil j.stated.facts.next);
    goals = sym (append-nil j.stated.goals);
    listed = refl;
  }

-- one after the other
last_more : {X : Type 0} (x : X) (ys zs : List X) → last_from (last_from x ys) zs ≡ last_from x (ys ++ zs)
last_more x [] zs = refl
last_more x (y ∷ ys) zs = last_more y ys zs

after : {X : Type 0} (f k j xs ys : List X) → f ≡ k ++ ys → k ≡ j ++ xs → f ≡ j ++ (xs ++ ys)
after f k j xs ys e h = e ∙ ap (λ zs. zs ++ ys) h ∙ append_assoc j xs ys

last_after : {X : Type 0} (f k j : X) (xs ys : List X) → f ≡ last_from k ys → k ≡ last_from j xs → f ≡ last_from j (xs ++ ys)
last_after f k j xs ys e h = e ∙ ap (λ z. last_from z ys) h ∙ last_more j xs ys

module _ (plant : Plant) (tracked : List TrackedState) where
  adds_on : (l : Line) (ls : List Line) (j k f : Judged) → AddsLine plant tracked l j k → AddsLines plant tracked ls k f → AddsLines plant tracked (l ∷ ls) j f
  adds_on l ls j k f a b = record {
    limit = last_after (stated_limit f.stated) (stated_limit k.stated) (stated_limit j.stated) (limits_in l) (flat_map limits_in ls) b.limit a.limit;
    tracked = after f.stated.tracked k.stated.tracked j.stated.tracked (states_in l) (flat_map states_in ls) b.tracked a.tracked;
    controls = last_after f.stated.facts.controls k.stated.facts.controls j.stated.facts.controls (controls_in l) (flat_map controls_in ls) b.controls a.controls;
    present = after f.stated.facts.present k.stated.facts.present j.stated.facts.present (present_in l) (flat_map present_in ls) b.present a.present;
    next = after f.stated.facts.next k.stated.facts.next j.stated.facts.next (next_in l) (flat_map next_in ls) b.next a.next;
    goals = after f.stated.goals k.stated.goals j.stated.goals (goals_in plant l) (flat_map (goals_in plant) ls) b.goals a.goals;
    listed = after f.listed k.listed j.listed (answers_in plant tracked l) (flat_map (answers_in plant tracked) ls) b.listed a.listed;
  }

-- a candidate of the states so far is one of all
got_before : {X : Type 0} (xs ys : List X) (i : ℕ) (x : X) → slice_get xs i ≡ Some x → slice_get (xs ++ ys) i ≡ Some x
got_before [] ys i x h = absurd (cc h)
got_before (y ∷ xs) ys zero x h = h
got_before (y ∷ xs) ys (suc i) x h = got_before xs ys i x h

candidate_is : (plant : Plant) (all so_far more : List TrackedState) (n : ℕ) (moves : List ℕ) (r : Rank) → all ≡ so_far ++ more → candidate_of_numbers plant so_far (n ∷ moves) ≡ Some r
    → candidate_in plant all n moves ≡ r
candidate_is plant all so_far more n moves r is h =
    let found = anded (rank_from plant (n - 1) moves) (at_number so_far n) r h in
    let both = cond_some (list_all (nat_lt 0) moves && are_moves plant.types plant.parts found.0.state.modes (places_of moves))
    (record { cost = record { 0 = found.0.cost.0 + moves_cost plant.types plant.parts (places_of moves) }; source = n - 1; choices = places_of moves }) r found.2 in
    let there : slice_get all (n - 1) ≡ Some found.0 = ap (λ (ss : List TrackedState). slice_get ss (n - 1)) is ∙ got_before so_far more (n - 1) found.0 (numbered_at so_far n found.0 found.1) in
    let cost : cost_at all (n - 1) ≡ found.0.cost.0 = ap (λ (o : Option TrackedState). option_map_or (λ (s : TrackedState). s.cost.0) o 0) there in
    let same : candidate_in plant all n moves
    ≡ record { cost = record { 0 = found.0.cost.0 + moves_cost plant.types plant.parts (places_of moves) }; source = n - 1; choices = places_of moves } =
    ap (λ (c : ℕ). record { cost = record { 0 = c + moves_cost plant.types plant.parts (places_of moves) }; source = n - 1; choices = places_of moves }) cost in
    same ∙ both.1

module _ (plant : Plant) (tracked : List TrackedState) (rest : List Line) (j k : Judged) where
  limited_adds : (limit : Limit) → limited j limit ≡ Some k → Adds j k (limit ∷ []) [] [] [] [] [] []
  limited_adds limit h =
      subst (λ (y : Judged). Adds j y (limit ∷ []) [] [] [] [] [] []) (cond_some (is_one_of 64 limit.most) (record j { stated = with_limit j.stated limit }) k h).1 (limit_one plant j limit)

  limit_adds : (ns : List ℕ) → judge_limit j ns ≡ Some k → AddsLine plant tracked (line.Numbers head.Limit ns) j k
  limit_adds [] h = absurd (cc h)
  limit_adds (m ∷ []) h = limited_adds (record { most = m; distinct = false }) h
  limit_adds (m ∷ n ∷ ns) h = absurd (cc h)

  state_adds : (ns : List ℕ) → judge_state plant j ns ≡ Some k → AddsLine plant tracked (line.Numbers head.State ns) j k
  state_adds ns h = by ns (mapped (λ (s : TrackedState). record j { stated = with_state j.stated s }) (state_of plant ns) k (when_true (nat_lt (length j.stated.tracked) TRACKED) _ k h))
    where
      by : (ms : List ℕ) → ComesFrom (λ (s : TrackedState). record j { stated = with_state j.stated s }) (state_of plant ms) k → AddsLine plant tracked (line.Numbers head.State ms) j k
      by [] from = absurd (cc (from.at))
      by (cost ∷ modes) from =
          let s : TrackedState = record { state = record { modes = values_of modes }; cost = record { 0 = cost } } in
          let same : s ≡ from.source = (cond_some (nat_le cost TRACKED_COST && are_of (mode_counts plant) modes) s from.source from.at).1 in
          subst (λ (y : Judged). Adds j y [] (s ∷ []) [] [] [] [] []) (ap (λ (t : TrackedState). record j { stated = with_state j.stated t }) same ∙ from.made) (state_one plant j s)

  control_adds : (ns : List ℕ) → judge_control plant j ns ≡ Some k → AddsLine plant tracked (line.Numbers head.Control ns) j k
  control_adds ns h =
      subst (λ (y : Judged). Adds j y [] [] (values_of ns ∷ []) [] [] [] [])
      (cond_some (are_of (control_sizes plant) ns) (record j { stated = with_controls plant j.stated ns; space = record j.space { zones = map Some (zones_from plant 0 j.stated.tracked) } }) k h).1
      (controls_one plant j ns)

  listed_adds : (more : List TrackedState) → tracked ≡ j.stated.tracked ++ more → (ns : List ℕ) → judge_listed plant j ns ≡ Some k → AddsLine plant tracked (line.Numbers head.Listed ns) j k
  listed_adds more is ns h = by ns (anded (with_listed plant j) (candidate_of_numbers plant j.stated.tracked ns) k h)
    where
      by : (ms : List ℕ) → (r : Rank) × (candidate_of_numbers plant j.stated.tracked ms ≡ Some r) × (with_listed plant j r ≡ Some k) → AddsLine plant tracked (line.Numbers head.Listed ms) j k
      by [] found = absurd (cc (found.1))
      by (n ∷ moves) found =
          let r : Rank = candidate_in plant tracked n moves in
          let same : r ≡ found.0 = candidate_is plant tracked j.stated.tracked more n moves found.0 is found.1 in
          let made = (cond_some (is_next j.listed found.0 && not (has_old_target plant j found.0)) (record j { listed = j.listed ++ found.0 ∷ [] }) k found.2).1 in
          subst (λ (y : Judged). Adds j y [] [] [] [] [] [] (r ∷ [])) (ap (λ (q : Rank). record j { listed = j.listed ++ q ∷ [] }) same ∙ made) (listed_one plant j r)

  recovery_adds : (ns : List ℕ) → judge_recovery plant j ns ≡ Some k → AddsLine plant tracked (line.Numbers head.Recovery ns) j k
  recovery_adds ns h =
      subst (λ (y : Judged). Adds j y [] [] [] [] [] [] (command_rank plant (places_of ns) ∷ []))
      (cond_some (are_of (control_sizes plant) ns) (record j { listed = j.listed ++ command_rank plant (places_of ns) ∷ [] }) k h).1 (listed_one plant j (command_rank plant (places_of ns)))

  conflict_keeps : (pairs : List Pair) (own : Clauses) → with_conflict j pairs own rest ≡ Some k → Adds j k [] [] [] [] [] [] []
  conflict_keeps pairs own h =
      let x : Judged = record j { excluded = j.excluded ++ pairs ∷ []; own = own } in
      kept j x k (cond_some (ends_empty rest) x k h).1 (record { stated = refl; listed = refl })

  conflict_adds : (question : Question) (ns : List ℕ) → judge_conflict question plant j ns rest ≡ Some k → Adds j k [] [] [] [] [] [] []
  conflict_adds Diagnosis ns h =
      let found = anded (λ pairs. with_conflict j pairs (clauses_of_choices plant j pairs) rest) (pairs_of_numbers (move_counts plant) ns) k h in
      conflict_keeps found.0 (clauses_of_choices plant j found.0) found.2
  conflict_adds Recovery [] h = absurd (cc h)
  conflict_adds Recovery (s ∷ ns) h =
      let from = anded (values_refuted plant j ns rest) (at_number j.stated.tracked s) k h in
      let found = anded (λ pairs. with_conflict j pairs (clauses_of_goals plant j pairs from.0) rest) (pairs_of_numbers (control_sizes plant) ns) k from.2 in
      conflict_keeps found.0 (clauses_of_goals plant j found.0 from.0) found.2

  good_adds : (ns : List ℕ) → judge_good j ns ≡ Some k → Adds j k [] [] [] [] [] [] []
  good_adds [] h = absurd (cc h)
  good_adds (s ∷ []) h =
      let x : Judged = record j { aimed = Some (record { place = s - 1; values = answer_values j; reaches = true }) } in
      kept j x k (cond_some (is_one_of (length j.stated.tracked) s) x k h).1 (record { stated = refl; listed = refl })
  good_adds (s ∷ t ∷ ts) h = absurd (cc h)

  proof_adds : (ns : List ℕ) → judge_proof plant j ns rest ≡ Some k → Adds j k [] [] [] [] [] [] []
  proof_adds [] h = absurd (cc h)
  proof_adds (s ∷ []) h = absurd (cc h)
  proof_adds (s ∷ g ∷ []) h =
      let goal = anded (λ goal. option_and_then (with_proof plant j goal rest) (at_number j.stated.tracked s)) (at_number j.stated.goals g) k h in
      let from = anded (with_proof plant j goal.0 rest) (at_number j.stated.tracked s) k goal.2 in
      let x : Judged = record j { own = clauses_of_miss plant j goal.0 from.0 } in
      kept j x k (cond_some _ x k from.2).1 (record { stated = refl; listed = refl })
  proof_adds (s ∷ g ∷ t ∷ ts) h = absurd (cc h)

  counter_adds : (ns : List ℕ) → judge_counter plant j ns ≡ Some k → Adds j k [] [] [] [] [] [] []
  counter_adds [] h = absurd (cc h)
  counter_adds (s ∷ ns) h =
      kept j (with_counter j (s - 1) (places_of ns)) k (cond_some (is_one_of (length j.stated.tracked) s && are_of (control_sizes plant) ns) (with_counter j (s - 1) (places_of ns)) k h).1
      (record { stated = refl; listed = refl })

  numbers_add : (question : Question) (more : List TrackedState) → tracked ≡ j.stated.tracked ++ more → (ns : List ℕ) (h : Head) → judge_numbers question plant j rest ns h ≡ Some k
      → AddsLine plant tracked (line.Numbers h ns) j k
  numbers_add question more is ns head.Limit h = limit_adds ns h
  numbers_add question more is ns head.State h = state_adds ns h
  numbers_add question more is ns head.Control h = control_adds ns h
  numbers_add question more is ns head.Listed h = listed_adds more is ns h
  numbers_add question more is ns head.Now h =
      let x : Judged = record j { before = Some (values_of ns) } in
      kept j x k (cond_some (are_of (sizes plant) ns) x k h).1 (record { stated = refl; listed = refl })
  numbers_add question more is ns head.Next h =
      kept j j k (cond_some (are_of (sizes plant) ns && option_map_or (shows question plant j (values_of ns)) j.before false) j k h).1 (record { stated = refl; listed = refl })
  numbers_add question more is ns head.Conflict h = conflict_adds question ns h
  numbers_add question more is ns head.Recovery h = recovery_adds ns h
  numbers_add question more is ns head.Good h = good_adds ns h
  numbers_add question more is ns head.Proof h = proof_adds ns h
  numbers_add question more is ns head.Counter h = counter_adds ns h

  goal_adds : (text : List ℕ) → option_map (λ goal. record j { stated = with_goal j.stated goal }) (goal_of plant text) ≡ Some k → AddsLine plant tracked (line.Goal text) j k
  goal_adds text h =
      let from = mapped (λ goal. record j { stated = with_goal j.stated goal }) (goal_of plant text) k h in
      subst (λ (gs : List Tree). Adds j k [] [] [] [] [] gs []) (sym (ap one_or_none from.at)) (subst (λ (y : Judged). Adds j y [] [] [] [] [] (from.source ∷ []) []) from.made (goal_one plant j from.source))

  fact_adds : (moment : Moment) (x v : ℕ) → option_map (λ o. record j { stated = with_observation plant moment j.stated o }) (observation_of plant x v) ≡ Some k → AddsLine plant tracked (line.Fact moment x v) j k
  fact_adds moment x v h = by moment (mapped (λ o. record j { stated = with_observation plant moment j.stated o }) (observation_of plant x v) k h)
    where
      same : (o : Observation) → observation_of plant x v ≡ Some o → seen x v ≡ o
      same o at = (cond_some ((is_one_of (length (sizes plant)) x && is_observable (classes plant) (x - 1)) && is_one_of (slice_index_or (sizes plant) (x - 1) 0) v) (seen x v) o at).1

      by : (m : Moment) → ComesFrom (λ o. record j { stated = with_observation plant m j.stated o }) (observation_of plant x v) k → AddsLine plant tracked (line.Fact m x v) j k
      by Now from =
          subst (λ (y : Judged). Adds j y [] [] [] (seen x v ∷ []) [] [] []) (ap (λ (o : Observation). record j { stated = with_observation plant Now j.stated o }) (same from.source from.at) ∙ from.made)
          (present_one plant j (seen x v))
      by Next from =
          subst (λ (y : Judged). Adds j y [] [] [] [] (seen x v ∷ []) [] []) (ap (λ (o : Observation). record j { stated = with_observation plant Next j.stated o }) (same from.source from.at) ∙ from.made)
          (next_one plant j (seen x v))

  line_adds : (question : Question) (more : List TrackedState) → tracked ≡ j.stated.tracked ++ more → (l : Line) → judge_line question plant j rest l ≡ Some k → AddsLine plant tracked l j k
  line_adds question more is (line.Certificate of) h = kept j j k (cc h) (record { stated = refl; listed = refl })
  line_adds question more is (line.Model name) h = kept j j k (cond_some (pointwise nat_eq name plant.name) j k h).1 (record { stated = refl; listed = refl })
  line_adds question more is (line.Goal text) h = goal_adds text h
  line_adds question more is (line.Distinct m) h = limited_adds (record { most = m; distinct = true }) h
  line_adds question more is (line.Fact moment x v) h = fact_adds moment x v h
  line_adds question more is (line.Clause ls hs) h =
      let x : Judged = record j { own = j.own ++ map literal_of ls ∷ [] } in
      kept j x k (cond_some (follows (bool_count plant) (model_clauses plant ++ j.own) ls hs) x k h).1 (record { stated = refl; listed = refl })
  line_adds question more is (line.Split n by) h =
      let found = anded (λ zone. option_map (λ parts. record j { space = with_parts j.space n parts }) (split_parts plant j zone by)) (open_zone j.space n) k h in
      let from = mapped (λ parts. record j { space = with_parts j.space n parts }) (split_parts plant j found.0 by) k found.2 in
      kept j (record j { space = with_parts j.space n from.source }) k from.made (record { stated = refl; listed = refl })
  line_adds question more is (line.Numbers h ns) judged = numbers_add question more is ns h judged
  line_adds question more is line.End h = kept j j k (cond_some (all_passed j.space (full_to j)) j k h).1 (record { stated = refl; listed = refl })

-- all of them
lines_add : (plant : Plant) (question : Question) (tracked : List TrackedState) (lines : List Line) (n : ℕ) (j final : Judged) → tracked ≡ j.stated.tracked ++ flat_map states_in lines
    → judge_lines question plant n j lines ≡ comes_to final → AddsLines plant tracked lines j final
lines_add plant question tracked [] n j final is good = kept j j final (cc good) (record { stated = refl; listed = refl })
lines_add plant question tracked (l ∷ rest) n j final is good =
    let judged : IsJudged question plant n j final l rest = first_judged question plant n j final l rest good in
    let one : AddsLine plant tracked l j judged.behind = line_adds plant tracked rest j judged.behind question (states_in l ++ flat_map states_in rest) is l judged.judged in
    adds_on plant tracked l rest j judged.behind final one
    (lines_add plant question tracked rest (n + 1) judged.behind final
    (is ∙ sym (append_assoc j.stated.tracked (states_in l) (flat_map states_in rest)) ∙ ap (λ (ss : List TrackedState). ss ++ flat_map states_in rest) (sym one.tracked)) judged.later)

abbrev made_facts : List ValId → List Observation → List Observation → Facts
made_facts vs ps ns = record { controls = vs; present = ps; next = ns }

same_facts : (f g : Facts) → f.controls ≡ g.controls → f.present ≡ g.present → f.next ≡ g.next → f ≡ g
same_facts f g a b c =
    let one : f ≡ made_facts g.controls f.present f.next = ap (λ (vs : List ValId). made_facts vs f.present f.next) a in
    let two : made_facts g.controls f.present f.next ≡ made_facts g.controls g.present f.next = ap (λ (os : List Observation). made_facts g.controls os f.next) b in
    let three : made_facts g.controls g.present f.next ≡ g = ap (λ (os : List Observation). made_facts g.controls g.present os) c in
    one ∙ two ∙ three

abbrev made_aim : List TrackedState → List Observation → List Tree → Aim
made_aim ts ps gs = record { tracked = ts; present = ps; goals = gs }

same_aim : (a b : Aim) → a.tracked ≡ b.tracked → a.present ≡ b.present → a.goals ≡ b.goals → a ≡ b
same_aim a b t p g =
    let one : a ≡ made_aim b.tracked a.present a.goals = ap (λ (ss : List TrackedState). made_aim ss a.present a.goals) t in
    let two : made_aim b.tracked a.present a.goals ≡ made_aim b.tracked b.present a.goals = ap (λ (os : List Observation). made_aim b.tracked os a.goals) p in
    let three : made_aim b.tracked b.present a.goals ≡ b = ap (λ (gs : List Tree). made_aim b.tracked b.present gs) g in
    one ∙ two ∙ three

-- from the start
started : (plant : Plant) (question : Question) (lines : List Line) (j : Judged) → question_of lines ≡ question → judge_lines question plant 1 (unjudged plant question) lines ≡ comes_to j → IsReadOff plant lines j
started plant Diagnosis lines j asks good =
    let all : AddsLines plant (states_of lines) lines (unjudged plant Diagnosis) j = lines_add plant Diagnosis (states_of lines) lines 1 (unjudged plant Diagnosis) j refl good in
    record {
      limit = λ is. all.limit;
      facts = same_facts j.stated.facts (facts_of lines) all.controls all.present all.next;
      aim = same_aim (aim_of j.stated) (aim_in plant lines) all.tracked all.present all.goals;
      answer = all.listed;
    }
started plant Recovery lines j asks good =
    let all : AddsLines plant (states_of lines) lines (unjudged plant Recovery) j = lines_add plant Recovery (states_of lines) lines 1 (unjudged plant Recovery) j refl good in
    record {
      limit = λ is. not_both (sym is ∙ asks);
      facts = same_facts j.stated.facts (facts_of lines) all.controls all.present all.next;
      aim = same_aim (aim_of j.stated) (aim_in plant lines) all.tracked all.present all.goals;
      answer = all.listed;
    }
  where
    not_both : {A : Type 0} → Diagnosis ≡ Recovery → A
    not_both e = absurd (cc e)

pub read_off : JudgedIsReadOff
read_off plant lines j good = started plant (question_of lines) lines j refl good
