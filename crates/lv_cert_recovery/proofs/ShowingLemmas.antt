-- The lines of the recovery that is given: each state is good, and no goal is missed from it.
use Rattle.std.proofs.Common.{◌≡◌, ℕ, suc, ◌+◌, ◌-◌, ◌^◌, ◌<◌, ◌≤◌, Bool, true, false, ◌&&◌, nat_eq, nat_lt, List, [], ◌∷◌, ◌++◌, length, map, slice_get, Option, Some, None, cond, refl, sym, subst, ◌∙◌, ap, arith}
use Rattle.std.specs.List.{list_all}
use Rattle.std.specs.Option.{option_map_or, option_and_then}
use Rattle.std.specs.Cmp.Lexicographic.{pointwise}
use Rattle.std.proofs.lemmas.Bool.{and_parts, and_from, lt-ltb, ltb-true}
use Rattle.std.proofs.lemmas.Option.{slice_get_within}
use Rattle.lv_base.specs.declared.ids.ValId.{ValId}
use Rattle.lv_base.specs.declared.ids.VarId.{VarId}
use Rattle.lv_base.specs.declared.rank.Rank.{Rank}
use Rattle.lv_base.specs.Choices.{pairs_of}
use Rattle.lv_system.specs.lv_clauses.Literals.{same_truth}
use Rattle.lv_base.specs.Tree.{Tree}
use Rattle.lv_model.specs.declared.plant.Plant.{Plant}
use Rattle.lv_model.specs.declared.state.TrackedState.{TrackedState}
use Rattle.lv_model.specs.Lists.{sizes, controls}
use Rattle.lv_model.specs.WellFormed.{is_well_formed}
use Rattle.lv_model.proofs.Sizes.{few-sizes}
use Rattle.lv_meaning.specs.declared.aim.Aim.{Aim}
use Rattle.lv_meaning.specs.Recovers.{meets_goals}
use Rattle.lv_meaning.specs.Commands.{control_sizes, is_command_set, command_rank}
use Rattle.lv_search_zones.specs.lv_compile.Booleans.{bool_count}
use Rattle.lv_search_zones.specs.lv_compile.FormulaClauses.{Clauses}
use Rattle.lv_search_zones.specs.lv_compile.ModelClauses.{model_clauses}
use Rattle.lv_cert_laws.specs.lv_cert_meaning.Deriving.{Derived, clause_of_line, derives, ends_empty as lines_end_empty}
use Rattle.lv_cert.specs.declared.line.Question.TheVariants.{Recovery}
use Rattle.lv_cert.specs.declared.line.Head.TheVariants as head
use Rattle.lv_cert.specs.declared.line.Line.{Line}
use Rattle.lv_cert.specs.declared.line.Line.TheVariants as line
use Rattle.lv_cert.specs.declared.order.Witness.{Witness}
use Rattle.lv_cert.specs.declared.order.Witness.TheVariants as witness
use Rattle.lv_cert.specs.declared.order.Place.{Place}
use Rattle.lv_cert.specs.declared.order.Place.TheVariants as place
use Rattle.lv_cert.specs.Order.{after_witness}
use Rattle.lv_cert.specs.Form.{is_within_limit}
use Rattle.lv_cert_laws.specs.lv_cert_meaning.Counting.{is_one_of, are_of, places_of, values_of, at_number}
use Rattle.lv_cert_laws.specs.lv_cert_meaning.Units.{goal_clauses}
use Rattle.lv_cert_laws.specs.lv_cert_meaning.Judging.{Aimed, Judged, is_aimed_step, is_as_aimed, shows_aimed, with_proof}
use Rattle.lv_cert_writing.specs.Lines.{numbers_of, value_numbers, values_line, clause_lines}
use Rattle.lv_cert_writing.specs.Ending.{Ends, BeginApart}
use Rattle.lv_cert_writing.proofs.Ending.{line_first}
use Rattle.lv_cert_writing.proofs.Clauses.{ends_before, block_first}
use Rattle.lv_cert_writing.proofs.Numbers.{back_again, places_back, values_back, one_of_place, within, formed_of, few_found}
use Rattle.lv_cert_recovery.specs.Showing.{stated_by, recovery_line, step_lines, good_lines, proof_lines, own_clauses, AreRefuted}
use Rattle.lv_cert_recovery.specs.Leading.{task_of, stage_of, good_place, proved_place, asked, good, proved, StandsAt, Standing, judged_at, Answers, AnswerFrom, Lead}
use Rattle.lv_cert_recovery.proofs.LeadingLemmas.{good_after, proof_after}

-- values below these counts have numbers of them
pub numbers_are : (counts ns : List ℕ) → pointwise nat_lt ns counts ≡ true → are_of counts (numbers_of ns) ≡ true
numbers_are [] [] h = refl
numbers_are [] (n ∷ ns) h = absurd (cc h)
numbers_are (count ∷ counts) [] h = absurd (cc h)
numbers_are (count ∷ counts) (n ∷ ns) h =
    let two = and_parts (nat_lt n count) (pointwise nat_lt ns counts) h in
    and_from (is_one_of count (n + 1)) (are_of counts (numbers_of ns)) (one_of_place count n (ltb-true n count two.0)) (numbers_are counts ns two.1)

pub at_place : {X : Type 0} (xs : List X) (n : ℕ) (x : X) → slice_get xs n ≡ Some x → at_number xs (n + 1) ≡ Some x
at_place xs n x at = ap (λ b. cond b (slice_get xs (n + 1 - 1)) None) (lt-ltb 0 (n + 1) (omega arith)) ∙ ap (slice_get xs) (back_again n) ∙ at

-- values before and after a step that are aimed at, as the lines have them
pub record IsShownTo (plant : Plant) (aim : Aim) (place : ℕ) (values : List ℕ) (reaches : Bool) (a b : List ValId) : Type 0 where
  pub state : TrackedState
  pub at : slice_get aim.tracked place ≡ Some state
  pub before : are_of (sizes plant) (value_numbers a) ≡ true
  pub after : are_of (sizes plant) (value_numbers b) ≡ true
  pub steps : (j : Judged) → j.stated ≡ stated_by plant aim → is_aimed_step plant j values a b state ≡ true
  pub ends : meets_goals aim.goals b ≡ reaches

same_as_itself : (b : Bool) → same_truth b b ≡ true
same_as_itself true = refl
same_as_itself false = refl

module _ (plant : Plant) (h : is_well_formed plant ≡ true) where
  -- a pair of lines that shows what is aimed at
  pub step_first : (w : Witness) (j : Judged) (a b : List ValId) → are_of (sizes plant) (value_numbers a) ≡ true → are_of (sizes plant) (value_numbers b) ≡ true
      → shows_aimed plant j a b ≡ true → (rest : List Line) (final : Judged) → Ends Recovery plant (after_witness w) (record j { before = Some a }) rest final
      → Ends Recovery plant (place.Now w) j (step_lines a b ++ rest) final
  step_first w j a b before_of after_of shown rest final ends =
      let before : Judged = record j { before = Some (values_of (value_numbers a)) } in
      line_first Recovery plant final (place.Now w) (place.Next w) j before (values_line head.Now a) (values_line head.Next b ∷ rest) (ap (λ c. cond c (Some before) None) before_of) refl
      (λ word. formed_of (sizes plant) (value_numbers a) (few-sizes plant h) before_of)
      (line_first Recovery plant final (place.Next w) (after_witness w) before before (values_line head.Next b) rest
      (ap (λ c. cond c (Some before) None)
      (and_from (are_of (sizes plant) (value_numbers b)) (shows_aimed plant before (values_of (value_numbers a)) (values_of (value_numbers b))) after_of
      ((λ i. shows_aimed plant j (values_back a i) (values_back b i)) ∙ shown)))
      refl (λ word. formed_of (sizes plant) (value_numbers b) (few-sizes plant h) after_of)
      (subst (λ (vs : List ValId). Ends Recovery plant (after_witness w) (record j { before = Some vs }) rest final) (sym (values_back a)) ends))

  module _ (aim : Aim) where
    -- what a step shows where it is aimed at
    pub shown_so : (n : ℕ) (values : List ℕ) (reaches : Bool) (a b : List ValId) → IsShownTo plant aim n values reaches a b → (j : Judged) → j.stated ≡ stated_by plant aim
        → (aimed : Aimed) → aimed ≡ record { place = n; values = values; reaches = reaches } → is_as_aimed plant j a b aimed ≡ true
    shown_so n values reaches a b is j stated_is aimed aimed_is =
        subst (λ (x : Aimed). is_as_aimed plant j a b x ≡ true) (sym aimed_is)
        (and_from (option_map_or (is_aimed_step plant j values a b) (slice_get j.stated.tracked n) false) (same_truth (meets_goals j.stated.goals b) reaches)
        (ap (λ s. option_map_or (is_aimed_step plant j values a b) (slice_get s.tracked n) false) stated_is ∙ ap (λ o. option_map_or (is_aimed_step plant j values a b) o false) is.at ∙ is.steps j stated_is)
        (ap (λ s. same_truth (meets_goals s.goals b) reaches) stated_is ∙ ap (λ c. same_truth c reaches) is.ends ∙ same_as_itself reaches))

    module _ (u : List ℕ) (set : is_command_set plant u ≡ true) where
      abbrev pub answered : List Rank
      answered = command_rank plant u ∷ []

      -- the recovery itself
      pub recovery_leads : Lead plant aim (record { phase = asked; listed = []; excluded = [] }) (record { phase = good 0; listed = answered; excluded = [] }) (recovery_line u ∷ [])
      recovery_leads = record { before = λ answer rest apart ends. record { from = λ p at own aimed before. leads answer rest ends p at own aimed before }; apart = λ rest apart. record { same = λ is_empty. refl } }
        where
          leads : (answer : List Rank) (rest : List Line) → AnswerFrom plant aim answer (record { phase = good 0; listed = answered; excluded = [] }) rest → (p : Place) → StandsAt aim asked p
              → (own : Clauses) (aimed : Option Aimed) (before : Option (List ValId))
              → Answers plant aim answer p (judged_at plant aim (record { phase = asked; listed = []; excluded = [] }) own aimed before) (recovery_line u ∷ rest)
          leads answer rest ends p at own aimed before =
              let e : Answers plant aim answer (good_place aim 0) (judged_at plant aim (record { phase = good 0; listed = answered; excluded = [] }) own aimed before) rest =
              ends.from (good_place aim 0) refl own aimed before in
              let j : Judged = judged_at plant aim (record { phase = asked; listed = []; excluded = [] }) own aimed before in
              let next : Judged = judged_at plant aim (record { phase = good 0; listed = command_rank plant (places_of (numbers_of u)) ∷ []; excluded = [] }) own aimed before in
              record {
                final = e.final;
                ends =
                    subst (λ q. Ends Recovery plant q j (recovery_line u ∷ rest) e.final) (sym at)
                    (line_first Recovery plant e.final (place.Goals (task_of aim)) (good_place aim 0) j next (recovery_line u) rest
                    (ap (λ b. cond b (Some next) None) (numbers_are (control_sizes plant) u set)) refl
                    (λ w. formed_of (control_sizes plant) (numbers_of u) (few_found (sizes plant) (λ (c : VarId). c.0) (controls plant) (few-sizes plant h)) (numbers_are (control_sizes plant) u set))
                    (subst (λ (vs : List ℕ). Ends Recovery plant (good_place aim 0) (judged_at plant aim (record { phase = good 0; listed = command_rank plant vs ∷ []; excluded = [] }) own aimed before) rest e.final)
                    (sym (places_back u)) e.ends));
                stated = e.stated;
                listed = e.listed;
              }

      -- a state from which there is a step
      module _ (few_states : length aim.tracked ≤ 64) (n : ℕ) (a b : List ValId) (is : IsShownTo plant aim n u true a b) where
        abbrev good_standing : Standing
        good_standing = record { phase = good n; listed = answered; excluded = [] }

        abbrev shown_standing : Standing
        shown_standing = record { phase = proved n 0; listed = answered; excluded = [] }

        inside : n < length aim.tracked
        inside = slice_get_within aim.tracked n is.state is.at

        good_formed : (nat_eq 1 1 && list_all is_within_limit ((n + 1) ∷ [])) ≡ true
        good_formed = let less = inside in and_from (is_within_limit (n + 1)) true (within (n + 1) 64 (omega (arith, less, few_states)) (omega arith)) refl

        pub good_leads : Lead plant aim good_standing shown_standing (good_lines n a b)
        good_leads = record { before = λ answer rest apart ends. record { from = λ p at own aimed before. leads answer rest ends p at own aimed before }; apart = λ rest apart. record { same = λ is_empty. refl } }
          where
            leads : (answer : List Rank) (rest : List Line) → AnswerFrom plant aim answer shown_standing rest → (p : Place) → StandsAt aim (good n) p → (own : Clauses) (aimed : Option Aimed)
                (before : Option (List ValId)) → Answers plant aim answer p (judged_at plant aim good_standing own aimed before) (good_lines n a b ++ rest)
            leads answer rest ends p at own aimed before =
                let aim_is : Aimed = record { place = n + 1 - 1; values = u; reaches = true } in
                let e : Answers plant aim answer (proved_place aim n 0) (judged_at plant aim shown_standing own (Some aim_is) (Some a)) rest = ends.from (proved_place aim n 0) refl own (Some aim_is) (Some a) in
                let j : Judged = judged_at plant aim good_standing own aimed before in
                let k : Judged = judged_at plant aim good_standing own (Some aim_is) before in
                record {
                  final = e.final;
                  ends =
                      subst (λ q. Ends Recovery plant q j (good_lines n a b ++ rest) e.final) (sym at)
                      (line_first Recovery plant e.final (good_place aim n) (place.Now (witness.OfGood (stage_of aim n 1))) j k (line.Numbers head.Good ((n + 1) ∷ [])) (step_lines a b ++ rest)
                      (ap (λ c. cond c (Some k) None) (one_of_place (length aim.tracked) n inside)) (good_after aim n inside) (λ w. good_formed)
                      (step_first (witness.OfGood (stage_of aim n 1)) k a b is.before is.after
                      (shown_so n u true a b is k refl aim_is (ap (λ m. record { place = m; values = u; reaches = true }) (back_again n))) rest e.final e.ends));
                  stated = e.stated;
                  listed = e.listed;
                }

      -- a goal that isn't missed
      module _ (asked_of : length aim.tracked ≤ 64) (few_goals : length aim.goals ≤ 64) (few_bools : bool_count plant ≤ 10 ^ 30) (n g : ℕ) (s : TrackedState) (at_n : slice_get aim.tracked n ≡ Some s)
          (goal : Tree) (at_g : slice_get aim.goals g ≡ Some goal) (ds : List Derived) (are : AreRefuted plant (own_clauses plant aim s.state (pairs_of u) (goal_clauses plant false goal)) ds) (short : length ds ≤ 2 ^ 64) where
        abbrev from_standing : Standing
        from_standing = record { phase = proved n g; listed = answered; excluded = [] }

        abbrev to_standing : Standing
        to_standing = record { phase = proved n (g + 1); listed = answered; excluded = [] }

        abbrev opened : Clauses
        opened = own_clauses plant aim s.state (pairs_of u) (goal_clauses plant false goal)

        proof_formed : (nat_eq 2 2 && list_all is_within_limit ((n + 1) ∷ ((g + 1) ∷ []))) ≡ true
        proof_formed =
            let less = slice_get_within aim.tracked n s at_n in
            let fewer = slice_get_within aim.goals g goal at_g in
            and_from (is_within_limit (n + 1)) (list_all is_within_limit ((g + 1) ∷ [])) (within (n + 1) 64 (omega (arith, less, asked_of)) (omega arith))
            (and_from (is_within_limit (g + 1)) true (within (g + 1) 64 (omega (arith, fewer, few_goals)) (omega arith)) refl)

        pub proof_leads : Lead plant aim from_standing to_standing (proof_lines n g ds)
        proof_leads = record { before = λ answer rest apart ends. record { from = λ p at own aimed before. leads answer rest apart ends p at own aimed before }; apart = λ rest apart. record { same = λ is_empty. refl } }
          where
            leads : (answer : List Rank) (rest : List Line) → BeginApart rest → AnswerFrom plant aim answer to_standing rest → (p : Place) → StandsAt aim (proved n g) p → (own : Clauses) (aimed : Option Aimed)
                (before : Option (List ValId)) → Answers plant aim answer p (judged_at plant aim from_standing own aimed before) (proof_lines n g ds ++ rest)
            leads answer rest apart ends p at own aimed before =
                let last : Clauses = opened ++ map clause_of_line ds in
                let same : suc g ≡ g + 1 = omega arith in
                let there : place.Refuting (stage_of aim n (g + 1)) ≡ proved_place aim n (g + 1) = ap (λ m. place.Refuting (stage_of aim n m)) (sym same) ∙ ap (proved_place aim n) same in
                let e : Answers plant aim answer (place.Refuting (stage_of aim n (g + 1))) (judged_at plant aim to_standing last aimed before) rest =
                ends.from (place.Refuting (stage_of aim n (g + 1))) there last aimed before in
                let j : Judged = judged_at plant aim from_standing own aimed before in
                let k : Judged = judged_at plant aim from_standing opened aimed before in
                let two = and_parts (derives (bool_count plant) (model_clauses plant ++ opened) ds) (lines_end_empty ds) are.refuted in
                record {
                  final = e.final;
                  ends =
                      subst (λ q. Ends Recovery plant q j (proof_lines n g ds ++ rest) e.final) (sym at)
                      (line_first Recovery plant e.final (proved_place aim n g) (place.Refuted (stage_of aim n (g + 1))) j k (line.Numbers head.Proof ((n + 1) ∷ ((g + 1) ∷ []))) (clause_lines ds ++ rest)
                      (ap (option_and_then (λ (x : Tree). option_and_then (with_proof plant j x (clause_lines ds ++ rest)) (at_number aim.tracked (n + 1)))) (at_place aim.goals g goal at_g)
                      ∙ ap (option_and_then (with_proof plant j goal (clause_lines ds ++ rest))) (at_place aim.tracked n s at_n)
                      ∙ ap (λ c. cond c (Some k) None) (and_from (is_command_set plant u) _ set (ends_before false ds rest apart two.1)))
                      (proof_after aim n g (slice_get_within aim.goals g goal at_g)) (λ w. proof_formed)
                      (block_first Recovery plant few_bools e.final rest (place.Refuted (stage_of aim n (g + 1))) (place.Refuting (stage_of aim n (g + 1))) (record { begins = λ ls hs. refl })
                      (record { begins = λ ls hs. refl }) ds k (let few = are.few in omega (arith, few, short)) two.0 two.1 e.ends));
                  stated = e.stated;
                  listed = e.listed;
                }
