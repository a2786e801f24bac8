-- What the lines of a diagnosis come to from the first listed candidate on.
use Rattle.std.proofs.Common.{◌≡◌, ℕ, ◌+◌, ◌<◌, Bool, true, false, not, ◌&&◌, List, [], ◌∷◌, ◌++◌, length, Some, None, cond, refl, sym, subst, ◌∙◌, ap, arith}
use Rattle.std.specs.Prelude.{map}
use Rattle.std.specs.Option.{option_map_or}
use Rattle.std.specs.List.{list_any}
use Rattle.std.proofs.lemmas.Bool.{and_parts}
use Rattle.std.proofs.lemmas.Option.{cond_some}
use Rattle.std.proofs.lemmas.List.{length-append}
use Rattle.lv_cert_meaning.specs.lv_base.declared.rank.Rank.{Rank}
use Rattle.lv_cert_meaning.specs.lv_base.declared.search.Pair.{Pair}
use Rattle.lv_cert_meaning.specs.lv_model.declared.plant.Plant.{Plant}
use Rattle.lv_cert_meaning.specs.lv_model.Lists.{move_counts}
use Rattle.lv_cert_meaning.specs.lv_model.WellFormed.{is_well_formed}
use Rattle.lv_cert_meaning.specs.lv_meaning.Possible.{is_possible}
use Rattle.lv_cert_meaning.specs.lv_meaning.Candidates.{is_possible_rank}
use Rattle.lv_cert_meaning.specs.lv_meaning.CandidateLaws.{IsCandidate}
use Rattle.lv_cert_meaning.specs.lv_meaning.Targets.{are_alike, answer}
use Rattle.lv_cert_meaning.specs.lv_search_zones.Moves.{move_slots}
use Rattle.lv_cert_meaning.specs.lv_cert.declared.line.Question.TheVariants.{Diagnosis}
use Rattle.lv_cert_meaning.specs.lv_cert.declared.line.Literal.{Literal}
use Rattle.lv_cert_meaning.specs.lv_cert.declared.line.Evidence.{Evidence}
use Rattle.lv_cert_meaning.specs.lv_cert.declared.line.Line.{Line}
use Rattle.lv_cert_meaning.specs.lv_cert.declared.order.Witness.{Witness}
use Rattle.lv_cert_meaning.specs.lv_cert.declared.order.Place.TheVariants as place
use Rattle.lv_cert_meaning.specs.lv_cert.Order.{place_behind}
use Rattle.lv_cert_meaning.specs.Following.{literal_of, follows}
use Rattle.lv_cert_meaning.specs.lv_compile.Booleans.{bool_count}
use Rattle.lv_cert_meaning.specs.lv_compile.ModelClauses.{model_clauses}
use Rattle.lv_cert_meaning.specs.Counting.{pairs_of_numbers, values_of, are_of}
use Rattle.lv_cert_meaning.specs.Stated.{Stated, candidate_of_numbers}
use Rattle.lv_cert_meaning.specs.Space.{all_passed}
use Rattle.lv_cert_meaning.specs.Judging.{Judged, last_of, full_to, is_next, has_old_target, with_listed, judge_listed, judge_now, judge_next, is_step_of, with_conflict, clauses_of_choices, choices_refuted, judge_clause, judge_split, judge_lines, comes_to, ends_empty}
use Rattle.lv_cert_laws.proofs.Options.{anded}
use Rattle.lv_cert_laws.proofs.Refuting.{block_refutes}
use Rattle.lv_cert_laws.proofs.Saying.{Says}
use Rattle.lv_cert_laws.proofs.Blocks.{refuted_choices}
use Rattle.lv_cert_laws.proofs.Shown.{shown_is_possible}
use Rattle.lv_cert_laws.proofs.Sound.{IsSound, IsFinal, split_sound, listed_sound, excluded_sound, own_sound, before_sound, is_final, last_added}
use Rattle.lv_cert_laws.proofs.Candidacy.{IsPossible, possible_apart, targets_alike, impossible_in_none, numbers_are_candidate}
use Rattle.lv_cert_laws.proofs.Answering.{final_answers}
use Rattle.lv_cert_laws.proofs.Ahead.{IsShown, pair_shown}

abbrev pub IsSoundFor : Plant → Stated → Judged → Type 0
IsSoundFor plant s j = IsSound (IsPossible plant s) (are_alike s.distinct plant) (move_slots plant) s j

-- sound, for what is stated, which the stated literals say
pub record IsLate (plant : Plant) (j : Judged) : Type 0 where
  pub stated : Stated
  pub says : Says plant stated
  pub sound : IsSoundFor plant stated j

-- what is listed is the answer for what is stated
abbrev pub Answers : Plant → Judged → Type 0
Answers plant j = j.listed ≡ answer j.stated.distinct j.stated.k plant j.stated.facts j.stated.tracked

not_true : (b : Bool) → not b ≡ true → b ≡ false
not_true true h = absurd (cc h)
not_true false h = refl

module _ (plant : Plant) (h : is_well_formed plant ≡ true) where
  pub split_late : (j k : Judged) (n : ℕ) (by : Evidence) → judge_split plant j n by ≡ Some k → IsLate plant j → IsLate plant k
  split_late j k n by judged late =
      record {
        stated = late.stated;
        says = late.says;
        sound = split_sound (IsPossible plant late.stated) (are_alike late.stated.distinct plant) (move_slots plant) late.stated plant (possible_apart plant late.stated) j k n by
            (λ m is. targets_alike plant late.stated) late.sound judged;
      }

  pub clause_late : (j k : Judged) (ls : List Literal) (hs : List ℕ) → judge_clause plant j ls hs ≡ Some k → IsLate plant j → IsLate plant k
  clause_late j k ls hs judged late =
      let both = cond_some (follows (bool_count plant) (model_clauses plant ++ j.own) ls hs) (record j { own = j.own ++ map literal_of ls ∷ [] }) k judged in
      subst (IsLate plant) both.1
      (record { stated = late.stated; says = late.says; sound = own_sound (IsPossible plant late.stated) (are_alike late.stated.distinct plant) (move_slots plant) late.stated j (j.own ++ map literal_of ls ∷ []) late.sound })

  pub now_late : (j k : Judged) (ns : List ℕ) → judge_now plant j ns ≡ Some k → IsLate plant j → (IsLate plant k) × (k.stated ≡ j.stated) × (k.listed ≡ j.listed)
  now_late j k ns judged late =
      let both = cond_some (are_of _ ns) (record j { before = Some (values_of ns) }) k judged in
      subst (λ (x : Judged). (IsLate plant x) × (x.stated ≡ j.stated) × (x.listed ≡ j.listed)) both.1
      (record { stated = late.stated; says = late.says; sound = before_sound (IsPossible plant late.stated) (are_alike late.stated.distinct plant) (move_slots plant) late.stated j (Some (values_of ns)) late.sound }, refl, refl)

  pub next_same : (j k : Judged) (ns : List ℕ) → judge_next Diagnosis plant j ns ≡ Some k → j ≡ k
  next_same j k ns judged = (cond_some (are_of _ ns && option_map_or _ j.before false) j k judged).1

  pub end_answers : (j k : Judged) → cond (all_passed j.space (full_to j)) (Some j) None ≡ Some k → IsLate plant j → Answers plant k
  end_answers j k judged late =
      let both = cond_some (all_passed j.space (full_to j)) j k judged in
      let final : IsFinal (IsPossible plant late.stated) (are_alike late.stated.distinct plant) (move_slots plant) late.stated j =
      is_final (IsPossible plant late.stated) (are_alike late.stated.distinct plant) (move_slots plant) late.stated j late.sound both.0 in
      subst (Answers plant) both.1
      (subst (λ (s : Stated). j.listed ≡ answer s.distinct s.k plant s.facts s.tracked) (sym late.sound.stated_is)
      (final_answers plant late.stated j.listed late.sound.few late.sound.rising late.sound.firsts late.sound.shown final.each final.none_left_out))

  pub conflict_late : (n : ℕ) (j k final : Judged) (ns : List ℕ) (rest : List Line) → choices_refuted plant j ns rest ≡ Some k → judge_lines Diagnosis plant n k rest ≡ comes_to final
      → IsLate plant j → IsLate plant k
  conflict_late n j k final ns rest judged later late =
      let found = anded (λ pairs. with_conflict j pairs (clauses_of_choices plant j pairs) rest) (pairs_of_numbers (move_counts plant) ns) k judged in
      let opened : List Pair → Judged = λ pairs. record j { excluded = j.excluded ++ pairs ∷ []; own = clauses_of_choices plant j pairs } in
      let both = cond_some (ends_empty rest) (opened found.0) k found.2 in
      let says : Says plant j.stated = subst (Says plant) (sym late.sound.stated_is) late.says in
      let never : is_possible plant j.stated.facts found.0 ≡ false =
      refuted_choices plant h j.stated says found.0
      (λ values whole hold. block_refutes Diagnosis plant values whole n (opened found.0) final rest
      (subst (λ (x : Judged). judge_lines Diagnosis plant n x rest ≡ comes_to final) (sym both.1) later) both.0 hold) in
      let never_so : is_possible plant late.stated.facts found.0 ≡ false = subst (λ (s : Stated). is_possible plant s.facts found.0 ≡ false) late.sound.stated_is never in
      subst (IsLate plant) both.1
      (record {
        stated = late.stated;
        says = late.says;
        sound = excluded_sound (IsPossible plant late.stated) (are_alike late.stated.distinct plant) (move_slots plant) late.stated j found.0 (clauses_of_choices plant j found.0) late.sound (impossible_in_none plant late.stated found.0 never_so);
      })

  -- a candidate is listed, and then shown
  pub listed_late : (w : Witness) (n : ℕ) (j k final : Judged) (ns : List ℕ) (rest : List Line) → judge_listed plant j ns ≡ Some k → place_behind (place.Now w) rest ≡ Some place.Done
      → judge_lines Diagnosis plant n k rest ≡ comes_to final → length j.listed < j.stated.k → IsLate plant j
      → (IsLate plant k) × (k.stated ≡ j.stated) × (length k.listed ≡ length j.listed + 1)
  listed_late w n j k final ns rest judged order later room late =
      let found = anded (with_listed plant j) (candidate_of_numbers plant j.stated.tracked ns) k judged in
      let r : Rank = found.0 in
      let is : IsCandidate plant j.stated.tracked r = numbers_are_candidate plant j.stated.tracked ns r found.1 in
      let both = cond_some (is_next j.listed r && not (has_old_target plant j r)) (record j { listed = j.listed ++ r ∷ [] }) k found.2 in
      let tests = and_parts (is_next j.listed r) (not (has_old_target plant j r)) both.0 in
      let new : list_any (are_alike late.stated.distinct plant r) j.listed ≡ false =
      subst (λ (s : Stated). list_any (are_alike s.distinct plant r) j.listed ≡ false) late.sound.stated_is (not_true (has_old_target plant j r) tests.1) in
      let shown : IsShown Diagnosis plant (record j { listed = j.listed ++ r ∷ [] }) =
      pair_shown Diagnosis plant w n (record j { listed = j.listed ++ r ∷ [] }) final rest order (subst (λ (x : Judged). judge_lines Diagnosis plant n x rest ≡ comes_to final) (sym both.1) later) in
      let step : is_step_of plant j.stated.facts (values_of shown.before) (values_of shown.after) r ≡ true =
      sym (ap (λ o. option_map_or (is_step_of plant j.stated.facts (values_of shown.before) (values_of shown.after)) o false) (last_added j.listed r)) ∙ shown.shown in
      let can : is_possible_rank plant j.stated.facts r ≡ true = shown_is_possible plant j.stated.facts j.stated.tracked r is shown.before shown.after shown.before_of shown.after_of step in
      let sought : IsPossible plant late.stated r = subst (λ (s : Stated). IsPossible plant s r) late.sound.stated_is (record { candidate = is; possible = can }) in
      let k_is = ap (λ (s : Stated). s.k) late.sound.stated_is in
      let longer : IsSoundFor plant late.stated (record j { listed = j.listed ++ r ∷ [] }) =
      listed_sound (IsPossible plant late.stated) (are_alike late.stated.distinct plant) (move_slots plant) late.stated j r late.sound (omega (arith, room, k_is)) sought tests.0 new in
      subst (λ (x : Judged). (IsLate plant x) × (x.stated ≡ j.stated) × (length x.listed ≡ length j.listed + 1)) both.1
      (record { stated = late.stated; says = late.says; sound = longer }, refl, length-append j.listed (r ∷ []))
