-- The blocks that exclude command sets: by values that don't reach the goals from some state, and by a step that misses one.
use Rattle.std.proofs.Common.{◌≡◌, ℕ, suc, ◌+◌, ◌-◌, ◌^◌, ◌≤◌, true, false, nat_le, List, [], ◌∷◌, ◌++◌, length, map, slice_get, Option, Some, None, cond, refl, sym, subst, ◌∙◌, ap, arith, All}
use Rattle.std.specs.List.{list_all}
use Rattle.std.specs.Option.{option_and_then}
use Rattle.std.proofs.lemmas.Bool.{and_parts, and_from, le-leb}
use Rattle.std.proofs.lemmas.Option.{slice_get_within}
use Rattle.lv_base.specs.declared.ids.ValId.{ValId}
use Rattle.lv_base.specs.declared.ids.VarId.{VarId}
use Rattle.lv_base.specs.declared.rank.Rank.{Rank}
use Rattle.lv_base.specs.declared.search.Pair.{Pair}
use Rattle.lv_base.specs.Choices.{pairs_of, slots_rise}
use Rattle.lv_model.specs.declared.plant.Plant.{Plant}
use Rattle.lv_model.specs.declared.state.TrackedState.{TrackedState}
use Rattle.lv_model.specs.Lists.{sizes, controls, IsFew}
use Rattle.lv_model.specs.WellFormed.{is_well_formed}
use Rattle.lv_model.proofs.Sizes.{few-sizes}
use Rattle.lv_meaning.specs.declared.aim.Aim.{Aim}
use Rattle.lv_meaning.specs.Commands.{control_sizes, is_command_set}
use Rattle.lv_search_zones.specs.lv_compile.Booleans.{bool_count}
use Rattle.lv_search_zones.specs.lv_compile.FormulaClauses.{Clauses}
use Rattle.lv_search_zones.specs.lv_compile.ModelClauses.{model_clauses}
use Rattle.lv_cert_laws.specs.lv_cert_meaning.Deriving.{Derived, clause_of_line, derives, ends_empty as lines_end_empty}
use Rattle.lv_cert.specs.declared.line.Question.TheVariants.{Recovery}
use Rattle.lv_cert.specs.declared.line.Head.TheVariants as head
use Rattle.lv_cert.specs.declared.line.Line.{Line}
use Rattle.lv_cert.specs.declared.line.Line.TheVariants as line
use Rattle.lv_cert.specs.declared.order.Witness.TheVariants as witness
use Rattle.lv_cert.specs.declared.order.Place.{Place}
use Rattle.lv_cert.specs.declared.order.Place.TheVariants as place
use Rattle.lv_cert.specs.Form.{is_within_limit}
use Rattle.lv_cert_laws.specs.lv_cert_meaning.Counting.{is_one_of, are_of, places_of}
use Rattle.lv_cert_laws.specs.lv_cert_meaning.Judging.{Aimed, Judged, with_conflict, clauses_of_goals, values_refuted}
use Rattle.lv_cert_writing.specs.Lines.{numbers_of, pair_numbers, clause_lines}
use Rattle.lv_cert_writing.specs.Ending.{Ends, BeginApart}
use Rattle.lv_cert_writing.specs.Pairs.{HasChoice}
use Rattle.lv_cert_writing.proofs.Ending.{line_first}
use Rattle.lv_cert_writing.proofs.Clauses.{ends_before, block_first}
use Rattle.lv_cert_writing.proofs.Numbers.{back_again, places_back, one_of_place, within, formed_of, few_found}
use Rattle.lv_cert_writing.proofs.Pairs.{pairs_read, pairs_odd, pairs_formed}
use Rattle.lv_cert_recovery.specs.Showing.{step_lines, conflict_lines, counter_lines, own_clauses, reached_clauses, AreRefuted}
use Rattle.lv_cert_recovery.specs.Leading.{excluding, StandsAt, Standing, judged_at, Answers, AnswerFrom, Lead}
use Rattle.lv_cert_recovery.proofs.ShowingLemmas.{numbers_are, at_place, IsShownTo, step_first, shown_so}

module _ (plant : Plant) (h : is_well_formed plant ≡ true) (aim : Aim) (few_states : length aim.tracked ≤ 64) (few_controls : length (control_sizes plant) ≤ 4096) (listed : List Rank) (excluded : List (List Pair)) where
  abbrev before_standing : Standing
  before_standing = record { phase = excluding; listed = listed; excluded = excluded }

  abbrev behind_standing : List Pair → Standing
  behind_standing pairs = record { phase = excluding; listed = listed; excluded = excluded ++ pairs ∷ [] }

  few_values : All IsFew (control_sizes plant)
  few_values = few_found (sizes plant) (λ (c : VarId). c.0) (controls plant) (few-sizes plant h)

  state_formed : (n : ℕ) (s : TrackedState) → slice_get aim.tracked n ≡ Some s → is_within_limit (n + 1) ≡ true
  state_formed n s at = let less = slice_get_within aim.tracked n s at in within (n + 1) 64 (omega (arith, less, few_states)) (omega arith)

  module _ (few_bools : bool_count plant ≤ 10 ^ 30) (n : ℕ) (s : TrackedState) (at_n : slice_get aim.tracked n ≡ Some s) (pairs : List Pair) (choices : All (HasChoice (control_sizes plant)) pairs)
      (rising : slots_rise pairs ≡ true) (ds : List Derived) (are : AreRefuted plant (own_clauses plant aim s.state pairs (reached_clauses plant aim)) ds) (short : length ds ≤ 2 ^ 64) where
    abbrev opened : Clauses
    opened = own_clauses plant aim s.state pairs (reached_clauses plant aim)

    pub conflict_leads : Lead plant aim before_standing (behind_standing pairs) (conflict_lines n pairs ds)
    conflict_leads = record { before = λ answer rest apart ends. record { from = λ p at own aimed before. leads answer rest apart ends p at own aimed before }; apart = λ rest apart. record { same = λ is_empty. refl } }
      where
        leads : (answer : List Rank) (rest : List Line) → BeginApart rest → AnswerFrom plant aim answer (behind_standing pairs) rest → (p : Place) → StandsAt aim excluding p → (own : Clauses) (aimed : Option Aimed)
            (before : Option (List ValId)) → Answers plant aim answer p (judged_at plant aim before_standing own aimed before) (conflict_lines n pairs ds ++ rest)
        leads answer rest apart ends p takes own aimed before =
            let last : Clauses = opened ++ map clause_of_line ds in
            let e : Answers plant aim answer (place.MoreClauses Recovery) (judged_at plant aim (behind_standing pairs) last aimed before) rest =
            ends.from (place.MoreClauses Recovery) (record { conflict = λ ns. refl; counter = λ ns. refl; split = λ m by. refl; end = refl }) last aimed before in
            let j : Judged = judged_at plant aim before_standing own aimed before in
            let k : Judged = judged_at plant aim (behind_standing pairs) opened aimed before in
            let two = and_parts (derives (bool_count plant) (model_clauses plant ++ opened) ds) (lines_end_empty ds) are.refuted in
            record {
              final = e.final;
              ends =
                  line_first Recovery plant e.final p (place.Clauses Recovery) j k (line.Numbers head.Conflict ((n + 1) ∷ pair_numbers pairs)) (clause_lines ds ++ rest)
                  (ap (option_and_then (values_refuted plant j (pair_numbers pairs) (clause_lines ds ++ rest))) (at_place aim.tracked n s at_n)
                  ∙ ap (option_and_then (λ (ps : List Pair). with_conflict j ps (clauses_of_goals plant j ps s) (clause_lines ds ++ rest))) (pairs_read (control_sizes plant) pairs choices rising)
                  ∙ ap (λ c. cond c (Some k) None) (ends_before false ds rest apart two.1))
                  (takes.conflict ((n + 1) ∷ pair_numbers pairs) ∙ ap (λ c. cond c (Some (place.Clauses Recovery)) None) (pairs_odd (n + 1) pairs))
                  (λ w. and_from (is_within_limit (n + 1)) (list_all is_within_limit (pair_numbers pairs)) (state_formed n s at_n) (pairs_formed (control_sizes plant) pairs few_values few_controls choices))
                  (block_first Recovery plant few_bools e.final rest (place.Clauses Recovery) (place.MoreClauses Recovery) (record { begins = λ ls hs. refl }) (record { begins = λ ls hs. refl }) ds k (let few = are.few in omega (arith, few, short)) two.0 two.1
                  e.ends);
              stated = e.stated;
              listed = e.listed;
            }

  module _ (n : ℕ) (values : List ℕ) (set : is_command_set plant values ≡ true) (a b : List ValId) (is : IsShownTo plant aim n values false a b) where
    pub counter_leads : Lead plant aim before_standing (behind_standing (pairs_of values)) (counter_lines n values a b)
    counter_leads = record { before = λ answer rest apart ends. record { from = λ p at own aimed before. leads answer rest ends p at own aimed before }; apart = λ rest apart. record { same = λ is_empty. refl } }
      where
        leads : (answer : List Rank) (rest : List Line) → AnswerFrom plant aim answer (behind_standing (pairs_of values)) rest → (p : Place) → StandsAt aim excluding p → (own : Clauses) (aimed : Option Aimed)
            (before : Option (List ValId)) → Answers plant aim answer p (judged_at plant aim before_standing own aimed before) (counter_lines n values a b ++ rest)
        leads answer rest ends p takes own aimed before =
            let aim_is : Aimed = record { place = n + 1 - 1; values = places_of (numbers_of values); reaches = false } in
            let e : Answers plant aim answer (place.Blocks Recovery) (judged_at plant aim (behind_standing (pairs_of values)) own (Some aim_is) (Some a)) rest =
            ends.from (place.Blocks Recovery) (record { conflict = λ ns. refl; counter = λ ns. refl; split = λ m by. refl; end = refl }) own (Some aim_is) (Some a) in
            let j : Judged = judged_at plant aim before_standing own aimed before in
            let k : Judged = judged_at plant aim (behind_standing (pairs_of (places_of (numbers_of values)))) own (Some aim_is) before in
            let l : Judged = judged_at plant aim (behind_standing (pairs_of values)) own (Some aim_is) before in
            record {
              final = e.final;
              ends =
                  line_first Recovery plant e.final p (place.Now witness.OfCounter) j k (line.Numbers head.Counter ((n + 1) ∷ numbers_of values)) (step_lines a b ++ rest)
                  (ap (λ c. cond c (Some k) None)
                  (and_from (is_one_of (length aim.tracked) (n + 1)) (are_of (control_sizes plant) (numbers_of values)) (one_of_place (length aim.tracked) n (slice_get_within aim.tracked n is.state is.at))
                  (numbers_are (control_sizes plant) values set)))
                  (takes.counter ((n + 1) ∷ numbers_of values))
                  (λ w.
                  and_from (nat_le 1 (suc (length (numbers_of values)))) (list_all is_within_limit ((n + 1) ∷ numbers_of values)) (le-leb 1 (suc (length (numbers_of values))) (omega arith))
                  (and_from (is_within_limit (n + 1)) (list_all is_within_limit (numbers_of values)) (state_formed n is.state is.at)
                  (formed_of (control_sizes plant) (numbers_of values) few_values (numbers_are (control_sizes plant) values set))))
                  (subst (λ (vs : List ℕ). Ends Recovery plant (place.Now witness.OfCounter) (judged_at plant aim (behind_standing (pairs_of vs)) own (Some aim_is) before) (step_lines a b ++ rest) e.final)
                  (sym (places_back values))
                  (step_first plant h witness.OfCounter l a b is.before is.after
                  (shown_so plant h aim n values false a b is l refl aim_is (λ i. record { place = back_again n i; values = places_back values i; reaches = false })) rest e.final e.ends));
              stated = e.stated;
              listed = e.listed;
            }
