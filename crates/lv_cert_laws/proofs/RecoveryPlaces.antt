-- What holds at each place of a recovery, and that lines keep it from the recovery's values on, or from the first conflict.
use Rattle.std.proofs.Common.{◌≡◌, ℕ, ◌+◌, ◌≤◌, Bool, true, false, nat_eq, nat_lt, ◌&&◌, List, [], ◌∷◌, length, Some, cond, refl, sym, subst, arith}
use Rattle.std.specs.Option.{option_map_or}
use Rattle.std.specs.Cmp.Lexicographic.{pointwise}
use Rattle.std.proofs.lemmas.Option.{cond_some}
use Rattle.lv_cert_meaning.specs.lv_model.declared.plant.Plant.{Plant}
use Rattle.lv_cert_meaning.specs.lv_model.Lists.{sizes}
use Rattle.lv_cert_meaning.specs.lv_model.WellFormed.{is_well_formed}
use Rattle.lv_cert_meaning.specs.lv_cert.declared.line.Question.TheVariants.{Recovery}
use Rattle.lv_cert_meaning.specs.lv_cert.declared.line.Head.TheVariants as head
use Rattle.lv_cert_meaning.specs.lv_cert.declared.line.Line.{Line}
use Rattle.lv_cert_meaning.specs.lv_cert.declared.line.Line.TheVariants as line
use Rattle.lv_cert_meaning.specs.lv_cert.declared.order.Stage.{Stage}
use Rattle.lv_cert_meaning.specs.lv_cert.declared.order.Witness.{Witness}
use Rattle.lv_cert_meaning.specs.lv_cert.declared.order.Witness.TheVariants as witness
use Rattle.lv_cert_meaning.specs.lv_cert.declared.order.Place.{Place}
use Rattle.lv_cert_meaning.specs.lv_cert.declared.order.Place.TheVariants as place
use Rattle.lv_cert_meaning.specs.lv_cert.Order.{has_pairs, splits, after_splits, after_blocks, after_first_clause, after_clauses, after_good, after_proof, after_refuted, after_stage, after_refuting, after_now, after_next, place_behind}
use Rattle.lv_cert_meaning.specs.Counting.{are_of}
use Rattle.lv_cert_meaning.specs.Judging.{Judged, judge_line, judge_next, judge_lines, comes_to}
use Rattle.lv_cert_laws.proofs.Blocked.{IsKnown}
use Rattle.lv_cert_laws.proofs.Stages.{all_sure}
use Rattle.lv_cert_laws.proofs.RecoveryStages.{first_space, IsStaged, clause_staged, now_staged, state_staged, good_staged, proof_staged}
use Rattle.lv_cert_laws.proofs.RecoveryLines.{IsLate, Answers, shown_late, split_late, clause_late, now_late, end_answers, conflict_late, counter_late}

-- before the recovery's values: so many states and goals are stated, and nothing is listed or excluded
pub record IsOpening (plant : Plant) (states goals : ℕ) (j : Judged) : Type 0 where
  pub known : IsKnown plant j.stated
  pub listed : j.listed ≡ []
  pub excluded : j.excluded ≡ []
  pub space : j.space ≡ first_space plant
  pub states_are : length j.stated.tracked ≡ states
  pub goals_are : length j.stated.goals ≡ goals

-- the first goal of the stage's state is due
pub record IsFirstGoal (plant : Plant) (s : Stage) (more : ℕ) (j : Judged) : Type 0 where
  pub goal : s.goal ≡ 1
  pub staged : IsStaged plant s.task s.state more 0 j

abbrev pub Holds : Plant → Place → Judged → Type 0
Holds plant (place.Named Recovery) j = IsOpening plant 0 0 j
Holds plant (place.Known n) j = IsOpening plant n 0 j
Holds plant (place.KnownFacts states n) j = IsOpening plant states 0 j
Holds plant (place.Goals t) j = IsOpening plant t.states t.goals j
Holds plant (place.Good s) j = IsFirstGoal plant s 0 j
Holds plant (place.Proof s) j = IsFirstGoal plant s 1 j
Holds plant (place.Refuted s) j = IsStaged plant s.task s.state 1 s.goal j
Holds plant (place.Refuting s) j = IsStaged plant s.task s.state 1 s.goal j
Holds plant (place.Now (witness.OfGood s)) j = IsFirstGoal plant s 1 j
Holds plant (place.Next (witness.OfGood s)) j = IsFirstGoal plant s 1 j
Holds plant (place.Now witness.OfCounter) j = IsLate plant j
Holds plant (place.Next witness.OfCounter) j = IsLate plant j
Holds plant (place.Clauses Recovery) j = IsLate plant j
Holds plant (place.MoreClauses Recovery) j = IsLate plant j
Holds plant (place.Blocks Recovery) j = IsLate plant j
Holds plant (place.Splits Recovery) j = IsLate plant j
Holds plant place.Done j = Answers plant j
Holds plant p j = ⊥

not_below : (a b : ℕ) → nat_lt a b ≡ false → b ≤ a
not_below a b e = grind (arith, e)

module _ (plant : Plant) (h : is_well_formed plant ≡ true) (n : ℕ) (final : Judged) (rest : List Line) where
  -- from the blocks on
  pub splits_step : (l : Line) (q : Place) (j k : Judged) → after_splits Recovery l ≡ Some q → judge_line Recovery plant j rest l ≡ Some k → IsLate plant j → Holds plant q k
  splits_step (line.Split zone by) q j k order judged late =
      let both = cond_some (splits Recovery by) (place.Splits Recovery) q order in
      subst (λ (p : Place). Holds plant p k) both.1 (split_late plant h j k zone by both.0 judged late)
  splits_step line.End q j k order judged late = let same : place.Done ≡ q = cc order in subst (λ (p : Place). Holds plant p k) same (end_answers plant h j k judged late)
  splits_step l q j k order judged late = absurd (cc order)

  pub blocks_step : (l : Line) (q : Place) (j k : Judged) → after_blocks Recovery l ≡ Some q → place_behind q rest ≡ Some place.Done → judge_line Recovery plant j rest l ≡ Some k
      → judge_lines Recovery plant n k rest ≡ comes_to final → IsLate plant j → Holds plant q k
  blocks_step (line.Split zone by) q j k order behind judged later late = splits_step (line.Split zone by) q j k order judged late
  blocks_step line.End q j k order behind judged later late = splits_step line.End q j k order judged late
  blocks_step (line.Numbers head.Conflict ns) q j k order behind judged later late =
      subst (λ (p : Place). Holds plant p k) (cond_some (has_pairs Recovery (length ns)) (place.Clauses Recovery) q order).1 (conflict_late plant h n j k final ns rest judged later late)
  blocks_step (line.Numbers head.Counter ns) q j k order behind judged later late =
      let same : place.Now witness.OfCounter ≡ q = cc order in
      subst (λ (p : Place). Holds plant p k) same
      (counter_late plant h n j k final ns rest judged (subst (λ (p : Place). place_behind p rest ≡ Some place.Done) (sym same) behind) later late)
  blocks_step l q j k order behind judged later late = absurd (cc order)

  pub first_clause_step : (l : Line) (q : Place) (j k : Judged) → after_first_clause Recovery l ≡ Some q → judge_line Recovery plant j rest l ≡ Some k → IsLate plant j → Holds plant q k
  first_clause_step (line.Clause ls hs) q j k order judged late = let same : place.MoreClauses Recovery ≡ q = cc order in subst (λ (p : Place). Holds plant p k) same (clause_late plant h j k ls hs judged late)
  first_clause_step l q j k order judged late = absurd (cc order)

  pub clauses_step : (l : Line) (q : Place) (j k : Judged) → after_clauses Recovery l ≡ Some q → place_behind q rest ≡ Some place.Done → judge_line Recovery plant j rest l ≡ Some k
      → judge_lines Recovery plant n k rest ≡ comes_to final → IsLate plant j → Holds plant q k
  clauses_step (line.Clause ls hs) q j k order behind judged later late = first_clause_step (line.Clause ls hs) q j k order judged late
  clauses_step l q j k order behind judged later late = blocks_step l q j k order behind judged later late

  -- a good state
  pub good_step : (s : Stage) → s.goal ≡ 1 → (l : Line) (q : Place) (j k : Judged) → after_good s l ≡ Some q → place_behind q rest ≡ Some place.Done → judge_line Recovery plant j rest l ≡ Some k
      → judge_lines Recovery plant n k rest ≡ comes_to final → IsStaged plant s.task s.state 0 0 j → Holds plant q k
  good_step s first (line.Numbers head.Good ns) q j k order behind judged later staged =
      let both = cond_some (pointwise nat_eq ns (s.state ∷ [])) (place.Now (witness.OfGood s)) q order in
      subst (λ (p : Place). Holds plant p k) both.1
      (record {
        goal = first;
        staged = good_staged plant s n j k final ns rest both.0 judged (subst (λ (p : Place). place_behind p rest ≡ Some place.Done) (sym both.1) behind) later staged;
      })
  good_step s first l q j k order behind judged later staged = absurd (cc order)

  -- the proof of a goal
  pub proof_step : (s : Stage) (passed : ℕ) → s.goal ≡ passed + 1 → (l : Line) (q : Place) (j k : Judged) → after_proof s l ≡ Some q → judge_line Recovery plant j rest l ≡ Some k
      → judge_lines Recovery plant n k rest ≡ comes_to final → IsStaged plant s.task s.state 1 passed j → Holds plant q k
  proof_step s passed goal_is (line.Numbers head.Proof ns) q j k order judged later staged =
      let both = cond_some (pointwise nat_eq ns (s.state ∷ s.goal ∷ [])) (place.Refuted s) q order in
      subst (λ (p : Place). Holds plant p k) both.1 (proof_staged plant h s passed n j k final ns rest goal_is both.0 judged later staged)
  proof_step s passed goal_is l q j k order judged later staged = absurd (cc order)

  -- all goals from all states
  staged_late : (s : Stage) (j : Judged) → s.task.goals ≤ s.goal → s.task.states ≤ s.state → IsStaged plant s.task s.state 1 s.goal j → IsLate plant j
  staged_late s j goals states staged =
      let next : IsStaged plant s.task (s.state + 1) 0 0 j = state_staged plant s.task s.state s.goal j goals staged in
      let count = next.states in
      let state_is = next.state_is in
      let ready_is = next.ready_is in
      shown_late plant h j next.values next.pending
      (all_sure plant j.stated next.values next.ready next.done (omega (arith, count, states, state_is, ready_is)) next.reached (omega (arith, count, states, state_is)) next.unmissed)

  pub stage_step : (s : Stage) (l : Line) (q : Place) (j k : Judged) → after_stage s l ≡ Some q → place_behind q rest ≡ Some place.Done → judge_line Recovery plant j rest l ≡ Some k
      → judge_lines Recovery plant n k rest ≡ comes_to final → IsStaged plant s.task s.state 1 s.goal j → Holds plant q k
  stage_step s l q j k order behind judged later staged = by (nat_lt s.goal s.task.goals) refl (nat_lt s.state s.task.states) refl order
    where
      next_goal : Stage
      next_goal = record { task = s.task; state = s.state; goal = s.goal + 1 }

      next_state : Stage
      next_state = record { task = s.task; state = s.state + 1; goal = 1 }

      by : (a : Bool) → nat_lt s.goal s.task.goals ≡ a → (b : Bool) → nat_lt s.state s.task.states ≡ b
          → cond a (after_proof next_goal l) (cond b (after_good next_state l) (after_blocks Recovery l)) ≡ Some q → Holds plant q k
      by true e b f comes = proof_step next_goal s.goal refl l q j k comes judged later staged
      by false e true f comes = good_step next_state refl l q j k comes behind judged later (state_staged plant s.task s.state s.goal j (not_below s.goal s.task.goals e) staged)
      by false e false f comes =
          blocks_step l q j k comes behind judged later (staged_late s j (not_below s.goal s.task.goals e) (not_below s.state s.task.states f) staged)

  pub refuted_step : (s : Stage) (l : Line) (q : Place) (j k : Judged) → after_refuted s l ≡ Some q → judge_line Recovery plant j rest l ≡ Some k → IsStaged plant s.task s.state 1 s.goal j → Holds plant q k
  refuted_step s (line.Clause ls hs) q j k order judged staged =
      let same : place.Refuting s ≡ q = cc order in
      subst (λ (p : Place). Holds plant p k) same (clause_staged plant s.task s.state 1 s.goal j k ls hs judged staged)
  refuted_step s l q j k order judged staged = absurd (cc order)

  pub refuting_step : (s : Stage) (l : Line) (q : Place) (j k : Judged) → after_refuting s l ≡ Some q → place_behind q rest ≡ Some place.Done → judge_line Recovery plant j rest l ≡ Some k
      → judge_lines Recovery plant n k rest ≡ comes_to final → IsStaged plant s.task s.state 1 s.goal j → Holds plant q k
  refuting_step s (line.Clause ls hs) q j k order behind judged later staged = refuted_step s (line.Clause ls hs) q j k order judged staged
  refuting_step s l q j k order behind judged later staged = stage_step s l q j k order behind judged later staged

  next_same : (j k : Judged) (ns : List ℕ) → judge_next Recovery plant j ns ≡ Some k → j ≡ k
  next_same j k ns judged = (cond_some (are_of (sizes plant) ns && option_map_or _ j.before false) j k judged).1

  -- a pair of lines
  pub now_step : (w : Witness) (l : Line) (q : Place) (j k : Judged) → after_now w l ≡ Some q → judge_line Recovery plant j rest l ≡ Some k → Holds plant (place.Now w) j → Holds plant q k
  now_step (witness.OfGood s) (line.Numbers head.Now ns) q j k order judged first =
      let same : place.Next (witness.OfGood s) ≡ q = cc order in
      subst (λ (p : Place). Holds plant p k) same (record { goal = first.goal; staged = now_staged plant s.task s.state 1 0 j k ns judged first.staged })
  now_step witness.OfCounter (line.Numbers head.Now ns) q j k order judged late =
      let same : place.Next witness.OfCounter ≡ q = cc order in
      subst (λ (p : Place). Holds plant p k) same (now_late plant h j k ns judged late)
  now_step (witness.OfListed listing) l q j k order judged holds = absurd holds
  now_step w l q j k order judged holds = absurd (cc order)

  pub next_step : (w : Witness) (l : Line) (q : Place) (j k : Judged) → after_next w l ≡ Some q → judge_line Recovery plant j rest l ≡ Some k → Holds plant (place.Next w) j → Holds plant q k
  next_step (witness.OfGood s) (line.Numbers head.Next ns) q j k order judged first =
      let same : place.Proof s ≡ q = cc order in
      subst (λ (p : Place). Holds plant p k) same (subst (IsFirstGoal plant s 1) (next_same j k ns judged) first)
  next_step witness.OfCounter (line.Numbers head.Next ns) q j k order judged late =
      let same : place.Blocks Recovery ≡ q = cc order in
      subst (λ (p : Place). Holds plant p k) same (subst (IsLate plant) (next_same j k ns judged) late)
  next_step (witness.OfListed listing) l q j k order judged holds = absurd holds
  next_step w l q j k order judged holds = absurd (cc order)
