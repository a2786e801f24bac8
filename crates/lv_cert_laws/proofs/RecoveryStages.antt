-- What the lines of a recovery come to while its values are shown from state to state and from goal to goal.
use Rattle.std.proofs.Common.{◌≡◌, ℕ, ◌+◌, ◌-◌, ◌≤◌, true, nat_eq, List, [], ◌∷◌, ◌++◌, length, Option, Some, slice_get, refl, sym, subst, ap, ap₂, arith, ◌&&◌}
use Rattle.std.specs.Prelude.{map}
use Rattle.std.specs.Option.{option_map_or, option_and_then}
use Rattle.std.specs.Cmp.Lexicographic.{pointwise}
use Rattle.std.proofs.lemmas.Bool.{and_parts, eqb-true}
use Rattle.std.proofs.lemmas.Option.{cond_some}
use Rattle.lv_cert_meaning.specs.lv_base.declared.ids.ValId.{ValId}
use Rattle.lv_cert_meaning.specs.lv_base.declared.rank.Rank.{Rank}
use Rattle.lv_cert_meaning.specs.lv_base.Choices.{pairs_of}
use Rattle.lv_cert_meaning.specs.lv_base.Tree.{Tree}
use Rattle.lv_cert_meaning.specs.lv_model.declared.plant.Plant.{Plant}
use Rattle.lv_cert_meaning.specs.lv_model.declared.state.TrackedState.{TrackedState}
use Rattle.lv_cert_meaning.specs.lv_model.Lists.{sizes}
use Rattle.lv_cert_meaning.specs.lv_model.WellFormed.{is_well_formed}
use Rattle.lv_cert_meaning.specs.lv_meaning.Recovers.{meets_goals, reaches}
use Rattle.lv_cert_meaning.specs.lv_meaning.Commands.{is_command_set, command_rank}
use Rattle.lv_cert_meaning.proofs.lv_meaning.NominalSteps.{found_step}
use Rattle.lv_cert_meaning.specs.lv_search_zones.Commands.{control_slots, command_zone}
use Rattle.lv_cert_meaning.specs.lv_compile.Booleans.{bool_count}
use Rattle.lv_cert_meaning.specs.lv_compile.FormulaClauses.{Clauses}
use Rattle.lv_cert_meaning.specs.lv_compile.ModelClauses.{model_clauses}
use Rattle.lv_cert_meaning.specs.Following.{literal_of, follows}
use Rattle.lv_cert_meaning.specs.lv_cert.declared.line.Question.TheVariants.{Recovery}
use Rattle.lv_cert_meaning.specs.lv_cert.declared.line.Literal.{Literal}
use Rattle.lv_cert_meaning.specs.lv_cert.declared.line.Line.{Line}
use Rattle.lv_cert_meaning.specs.lv_cert.declared.order.Stage.{Stage}
use Rattle.lv_cert_meaning.specs.lv_cert.declared.order.Task.{Task}
use Rattle.lv_cert_meaning.specs.lv_cert.declared.order.Witness.TheVariants as witness
use Rattle.lv_cert_meaning.specs.lv_cert.declared.order.Place.TheVariants as place
use Rattle.lv_cert_meaning.specs.lv_cert.Order.{place_behind}
use Rattle.lv_cert_meaning.specs.Counting.{is_one_of, are_of, values_of, at_number}
use Rattle.lv_cert_meaning.specs.Space.{Space}
use Rattle.lv_cert_meaning.specs.Judging.{Aimed, Judged, answer_values, judge_now, judge_good, judge_proof, with_proof, clauses_of_miss, judge_clause, judge_lines, comes_to, ends_empty}
use Rattle.lv_cert_meaning.specs.Laws.{aim_of}
use Rattle.lv_cert_laws.proofs.Options.{anded, numbered_at, number_among}
use Rattle.lv_cert_laws.proofs.Refuting.{block_refutes}
use Rattle.lv_cert_laws.proofs.Ahead.{IsShown, pair_shown}
use Rattle.lv_cert_laws.proofs.Blocked.{IsKnown, never_missed}
use Rattle.lv_cert_laws.proofs.Aiming.{IsAimed, shown_aims}
use Rattle.lv_cert_laws.proofs.Stages.{NeverMisses, AreReached, AreUnmissed, one_reached, one_goal_more, one_state_more}

-- the zone of all command sets
abbrev pub first_space : Plant → Space
first_space plant = record { slots = control_slots plant; zones = Some (command_zone plant) ∷ [] }

-- these values are given as the recovery, and nothing is excluded yet
pub record IsPending (plant : Plant) (u : List ℕ) (j : Judged) : Type 0 where
  pub known : IsKnown plant j.stated
  pub listed : j.listed ≡ command_rank plant u ∷ []
  pub excluded : j.excluded ≡ []
  pub space : j.space ≡ first_space plant
  pub set : is_command_set plant u ≡ true

-- the states before the one of this number are done with; of these and so many more the goals are reached, and from the one of this
-- number so many goals aren't missed
pub record IsStaged (plant : Plant) (task : Task) (state more passed : ℕ) (j : Judged) : Type 0 where
  pub values : List ℕ
  pub pending : IsPending plant values j
  pub states : length j.stated.tracked ≡ task.states
  pub goals : length j.stated.goals ≡ task.goals
  pub done : ℕ
  pub state_is : state ≡ done + 1
  pub ready : ℕ
  pub ready_is : ready ≡ done + more
  pub reached : AreReached plant j.stated values ready
  pub unmissed : AreUnmissed plant j.stated values done passed

pub same_numbers : (ns ms : List ℕ) → pointwise nat_eq ns ms ≡ true → ns ≡ ms
same_numbers [] [] h = refl
same_numbers [] (m ∷ ms) h = absurd (cc h)
same_numbers (n ∷ ns) [] h = absurd (cc h)
same_numbers (n ∷ ns) (m ∷ ms) h =
    let two = and_parts (nat_eq n m) (pointwise nat_eq ns ms) h in
    ap₂ (λ (x : ℕ) (xs : List ℕ). x ∷ xs) (eqb-true n m two.0) (same_numbers ns ms two.1)

answer_is : (plant : Plant) (u : List ℕ) (j : Judged) → j.listed ≡ command_rank plant u ∷ [] → answer_values j ≡ u
answer_is plant u j listed = ap (λ rs. option_map_or (λ (r : Rank). r.choices) (slice_get rs 0) []) listed

module _ (plant : Plant) where
  -- another block of clauses, or other values before a step, change nothing of this
  own_staged : (task : Task) (state more passed : ℕ) (j : Judged) (own : Clauses) → IsStaged plant task state more passed j → IsStaged plant task state more passed (record j { own = own })
  own_staged task state more passed j own staged =
      record {
        values = staged.values;
        pending = record { known = staged.pending.known; listed = staged.pending.listed; excluded = staged.pending.excluded; space = staged.pending.space; set = staged.pending.set };
        states = staged.states;
        goals = staged.goals;
        done = staged.done;
        state_is = staged.state_is;
        ready = staged.ready;
        ready_is = staged.ready_is;
        reached = staged.reached;
        unmissed = staged.unmissed;
      }

  before_staged : (task : Task) (state more passed : ℕ) (j : Judged) (before : Option (List ValId)) → IsStaged plant task state more passed j
      → IsStaged plant task state more passed (record j { before = before })
  before_staged task state more passed j before staged =
      record {
        values = staged.values;
        pending = record { known = staged.pending.known; listed = staged.pending.listed; excluded = staged.pending.excluded; space = staged.pending.space; set = staged.pending.set };
        states = staged.states;
        goals = staged.goals;
        done = staged.done;
        state_is = staged.state_is;
        ready = staged.ready;
        ready_is = staged.ready_is;
        reached = staged.reached;
        unmissed = staged.unmissed;
      }

  pub clause_staged : (task : Task) (state more passed : ℕ) (j k : Judged) (ls : List Literal) (hs : List ℕ) → judge_clause plant j ls hs ≡ Some k → IsStaged plant task state more passed j
      → IsStaged plant task state more passed k
  clause_staged task state more passed j k ls hs judged staged =
      subst (IsStaged plant task state more passed)
      (cond_some (follows (bool_count plant) (model_clauses plant ++ j.own) ls hs) (record j { own = j.own ++ map literal_of ls ∷ [] }) k judged).1
      (own_staged task state more passed j (j.own ++ map literal_of ls ∷ []) staged)

  pub now_staged : (task : Task) (state more passed : ℕ) (j k : Judged) (ns : List ℕ) → judge_now plant j ns ≡ Some k → IsStaged plant task state more passed j
      → IsStaged plant task state more passed k
  now_staged task state more passed j k ns judged staged =
      subst (IsStaged plant task state more passed) (cond_some (are_of (sizes plant) ns) (record j { before = Some (values_of ns) }) k judged).1
      (before_staged task state more passed j (Some (values_of ns)) staged)

  -- the goals of the state are done with
  pub state_staged : (task : Task) (state passed : ℕ) (j : Judged) → task.goals ≤ passed → IsStaged plant task state 1 passed j → IsStaged plant task (state + 1) 0 0 j
  state_staged task state passed j all staged =
      let count = staged.goals in
      let state_is = staged.state_is in
      let ready_is = staged.ready_is in
      record {
        values = staged.values;
        pending = staged.pending;
        states = staged.states;
        goals = staged.goals;
        done = staged.done + 1;
        state_is = omega (arith, state_is);
        ready = staged.ready;
        ready_is = omega (arith, ready_is);
        reached = staged.reached;
        unmissed = one_state_more plant j.stated staged.values staged.done passed (omega (arith, count, all)) staged.unmissed;
      }

  -- a state is good, which the next two lines show
  pub good_staged : (s : Stage) (n : ℕ) (j k final : Judged) (ns : List ℕ) (rest : List Line) → pointwise nat_eq ns (s.state ∷ []) ≡ true → judge_good j ns ≡ Some k
      → place_behind (place.Now (witness.OfGood s)) rest ≡ Some place.Done → judge_lines Recovery plant n k rest ≡ comes_to final → IsStaged plant s.task s.state 0 0 j
      → IsStaged plant s.task s.state 1 0 k
  good_staged s n j k final ns rest numbers judged order later staged =
      let u : List ℕ = staged.values in
      let aimed : Aimed = record { place = s.state - 1; values = answer_values j; reaches = true } in
      let judged_so : judge_good j (s.state ∷ []) ≡ Some k = subst (λ ms. judge_good j ms ≡ Some k) (same_numbers ns (s.state ∷ []) numbers) judged in
      let both = cond_some (is_one_of (length j.stated.tracked) s.state) (record j { aimed = Some aimed }) k judged_so in
      let shown : IsShown Recovery plant (record j { aimed = Some aimed }) =
      pair_shown Recovery plant (witness.OfGood s) n (record j { aimed = Some aimed }) final rest order (subst (λ (x : Judged). judge_lines Recovery plant n x rest ≡ comes_to final) (sym both.1) later) in
      let aims : IsAimed plant j aimed = shown_aims plant j aimed shown in
      let state_is = staged.state_is in
      let ready_is = staged.ready_is in
      let here : s.state - 1 ≡ staged.ready = omega (arith, state_is, ready_is) in
      let can : reaches plant (aim_of j.stated) aims.state.state (pairs_of (answer_values j)) ≡ true =
      found_step plant j.stated.facts.present aims.state.state (pairs_of (answer_values j)) (meets_goals j.stated.goals) aims.step aims.ends in
      let can_so : reaches plant (aim_of j.stated) aims.state.state (pairs_of u) ≡ true =
      subst (λ vs. reaches plant (aim_of j.stated) aims.state.state (pairs_of vs) ≡ true) (answer_is plant u j staged.pending.listed) can in
      subst (IsStaged plant s.task s.state 1 0) both.1
      (record {
        values = u;
        pending = record { known = staged.pending.known; listed = staged.pending.listed; excluded = staged.pending.excluded; space = staged.pending.space; set = staged.pending.set };
        states = staged.states;
        goals = staged.goals;
        done = staged.done;
        state_is = staged.state_is;
        ready = staged.ready + 1;
        ready_is = omega (arith, ready_is);
        reached = one_reached plant j.stated u staged.ready aims.state staged.reached (subst (λ i. slice_get j.stated.tracked i ≡ Some aims.state) here aims.at) can_so;
        unmissed = staged.unmissed;
      })

  -- a goal isn't missed, which the clauses that follow show
  pub proof_staged : is_well_formed plant ≡ true → (s : Stage) (passed n : ℕ) (j k final : Judged) (ns : List ℕ) (rest : List Line) → s.goal ≡ passed + 1
      → pointwise nat_eq ns (s.state ∷ (s.goal ∷ [])) ≡ true → judge_proof plant j ns rest ≡ Some k → judge_lines Recovery plant n k rest ≡ comes_to final → IsStaged plant s.task s.state 1 passed j
      → IsStaged plant s.task s.state 1 s.goal k
  proof_staged h s passed n j k final ns rest goal_is numbers judged later staged =
      let u : List ℕ = staged.values in
      let judged_so : judge_proof plant j (s.state ∷ (s.goal ∷ [])) rest ≡ Some k = subst (λ ms. judge_proof plant j ms rest ≡ Some k) (same_numbers ns (s.state ∷ (s.goal ∷ [])) numbers) judged in
      let aimed = anded (λ (goal : Tree). option_and_then (with_proof plant j goal rest) (at_number j.stated.tracked s.state)) (at_number j.stated.goals s.goal) k judged_so in
      let goal : Tree = aimed.0 in
      let from = anded (with_proof plant j goal rest) (at_number j.stated.tracked s.state) k aimed.2 in
      let x : TrackedState = from.0 in
      let opened : Judged = record j { own = clauses_of_miss plant j goal x } in
      let both = cond_some (is_command_set plant (answer_values j) && ends_empty rest) opened k from.2 in
      let empty : ends_empty rest ≡ true = (and_parts (is_command_set plant (answer_values j)) (ends_empty rest) both.0).1 in
      let never : NeverMisses plant j.stated (answer_values j) x goal =
      never_missed plant h j.stated staged.pending.known x.state (pairs_of (answer_values j)) goal (number_among j.stated.goals s.goal goal aimed.1)
      (λ values whole hold. block_refutes Recovery plant values whole n opened final rest (subst (λ (y : Judged). judge_lines Recovery plant n y rest ≡ comes_to final) (sym both.1) later) empty hold) in
      let never_so : NeverMisses plant j.stated u x goal = subst (λ vs. NeverMisses plant j.stated vs x goal) (answer_is plant u j staged.pending.listed) never in
      let state_is = staged.state_is in
      let state_here : s.state - 1 ≡ staged.done = omega (arith, state_is) in
      let goal_here : s.goal - 1 ≡ passed = omega (arith, goal_is) in
      subst (IsStaged plant s.task s.state 1 s.goal) both.1
      (record {
        values = u;
        pending = record { known = staged.pending.known; listed = staged.pending.listed; excluded = staged.pending.excluded; space = staged.pending.space; set = staged.pending.set };
        states = staged.states;
        goals = staged.goals;
        done = staged.done;
        state_is = staged.state_is;
        ready = staged.ready;
        ready_is = staged.ready_is;
        reached = staged.reached;
        unmissed = subst (λ g. AreUnmissed plant j.stated u staged.done g) (sym goal_is)
            (one_goal_more plant j.stated u staged.done passed x goal staged.unmissed
            (subst (λ i. slice_get j.stated.tracked i ≡ Some x) state_here (numbered_at j.stated.tracked s.state x from.1))
            (subst (λ i. slice_get j.stated.goals i ≡ Some goal) goal_here (numbered_at j.stated.goals s.goal goal aimed.1)) never_so);
      })
