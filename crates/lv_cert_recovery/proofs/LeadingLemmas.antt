-- Lines that lead on, one behind the other.
use Rattle.std.proofs.Common.{◌≡◌, ℕ, zero, suc, ◌+◌, ◌<◌, ◌≤◌, true, false, nat_lt, nat_eq, List, [], ◌∷◌, ◌++◌, length, Some, None, cond, refl, sym, subst, ◌∙◌, ap, arith}
use Rattle.std.specs.Cmp.Lexicographic.{pointwise}
use Rattle.std.proofs.lemmas.Bool.{and_from, lt-ltb, eq-eqb}
use Rattle.std.proofs.lemmas.List.{append_assoc, append-nil}
use Rattle.lv_base.specs.declared.rank.Rank.{Rank}
use Rattle.lv_base.specs.declared.search.Pair.{Pair}
use Rattle.lv_model.specs.declared.plant.Plant.{Plant}
use Rattle.lv_meaning.specs.declared.aim.Aim.{Aim}
use Rattle.lv_cert.specs.declared.line.Question.TheVariants.{Recovery}
use Rattle.lv_cert.specs.declared.line.Head.TheVariants as head
use Rattle.lv_cert.specs.declared.line.Line.{Line}
use Rattle.lv_cert.specs.declared.line.Line.TheVariants as line
use Rattle.lv_cert.specs.declared.order.Stage.{Stage}
use Rattle.lv_cert.specs.declared.order.Witness.TheVariants as witness
use Rattle.lv_cert.specs.declared.order.Place.{Place}
use Rattle.lv_cert.specs.declared.order.Place.TheVariants as place
use Rattle.lv_cert.specs.Order.{after_blocks, after_good, after_proof, after_stage, place_after}
use Rattle.lv_cert_writing.specs.Ending.{BeginApart}
use Rattle.lv_cert_recovery.specs.Leading.{task_of, stage_of, good_place, proved_place, TakesBlocks, Phase, asked, good, proved, excluding, StandsAt, Standing, AnswerFrom, Lead, LeadsOn}

module _ (plant : Plant) (aim : Aim) where
  pub lead_none : (s : Standing) → Lead plant aim s s []
  lead_none s = record { before = λ answer rest apart ends. ends; apart = λ rest apart. apart }

  pub lead_both : (from by to : Standing) (xs ys : List Line) → Lead plant aim from by xs → Lead plant aim by to ys → Lead plant aim from to (xs ++ ys)
  lead_both from by to xs ys one other =
      record {
        before =
            λ answer rest apart ends.
            subst (AnswerFrom plant aim answer from) (sym (append_assoc xs ys rest)) (one.before answer (ys ++ rest) (other.apart rest apart) (other.before answer rest apart ends));
        apart = λ rest apart. subst BeginApart (sym (append_assoc xs ys rest)) (one.apart (ys ++ rest) (other.apart rest apart));
      }

  pub leads_none : (s : Standing) (old : List Line) → LeadsOn plant aim s s old old
  leads_none s old = record { more = []; added = sym (append-nil old); lead = lead_none s }

  pub leads_both : (from by to : Standing) (old mid new : List Line) → LeadsOn plant aim from by old mid → LeadsOn plant aim by to mid new → LeadsOn plant aim from to old new
  leads_both from by to old mid new one other =
      record {
        more = one.more ++ other.more;
        added = other.added ∙ ap (λ (xs : List Line). xs ++ other.more) one.added ∙ append_assoc old one.more other.more;
        lead = lead_both from by to one.more other.more one.lead other.lead;
      }

  pub leads_by : (from to : Standing) (old new lines : List Line) → new ≡ old ++ lines → Lead plant aim from to lines → LeadsOn plant aim from to old new
  leads_by from to old new lines is lead = record { more = lines; added = is; lead = lead }

  -- to stand so is to stand otherwise
  pub lead_same : (one other : Phase) (listed : List Rank) (excluded : List (List Pair)) → ((p : Place) → StandsAt aim one p → StandsAt aim other p)
      → Lead plant aim (record { phase = one; listed = listed; excluded = excluded }) (record { phase = other; listed = listed; excluded = excluded }) []
  lead_same one other listed excluded stands =
      record { before = λ answer rest apart ends. record { from = λ p at own aimed before. ends.from p (stands p at) own aimed before }; apart = λ rest apart. apart }

not_less : (n : ℕ) → nat_lt n n ≡ false
not_less n = grind arith

same_pair : (m n : ℕ) → pointwise nat_eq (m ∷ (n ∷ [])) (m ∷ (n ∷ [])) ≡ true
same_pair m n = and_from (nat_eq m m) (pointwise nat_eq (n ∷ []) (n ∷ [])) (eq-eqb m m refl) (and_from (nat_eq n n) true (eq-eqb n n refl) refl)

same_one : (m : ℕ) → pointwise nat_eq (m ∷ []) (m ∷ []) ≡ true
same_one m = and_from (nat_eq m m) true (eq-eqb m m refl) refl

module _ (aim : Aim) where
  -- the next state's first line
  pub good_after : (n : ℕ) → n < length aim.tracked → place_after (good_place aim n) (line.Numbers head.Good ((n + 1) ∷ [])) ≡ Some (place.Now (witness.OfGood (stage_of aim n 1)))
  good_after zero below = refl
  good_after (suc n) below =
      let same : n + 1 ≡ suc n = omega arith in
      subst (λ m. place_after (place.Refuting (stage_of aim n (length aim.goals))) (line.Numbers head.Good ((m + 1) ∷ [])) ≡ Some (place.Now (witness.OfGood (stage_of aim m 1)))) same later
    where
      l : Line
      l = line.Numbers head.Good ((n + 1 + 1) ∷ [])

      next : Stage
      next = stage_of aim (n + 1) 1

      later : place_after (place.Refuting (stage_of aim n (length aim.goals))) (line.Numbers head.Good ((n + 1 + 1) ∷ [])) ≡ Some (place.Now (witness.OfGood (stage_of aim (n + 1) 1)))
      later =
          ap (λ b. cond b (after_proof (stage_of aim n (length aim.goals + 1)) l) (cond (nat_lt (n + 1) (length aim.tracked)) (after_good next l) (after_blocks Recovery l))) (not_less (length aim.goals))
          ∙ ap (λ b. cond b (after_good next l) (after_blocks Recovery l)) (lt-ltb (n + 1) (length aim.tracked) (omega (arith, below)))
          ∙ ap (λ b. cond b (Some (place.Now (witness.OfGood next))) None) (same_one (n + 1 + 1))

  -- the next goal's proof
  pub proof_after : (n g : ℕ) → g < length aim.goals → place_after (proved_place aim n g) (line.Numbers head.Proof ((n + 1) ∷ ((g + 1) ∷ []))) ≡ Some (place.Refuted (stage_of aim n (g + 1)))
  proof_after n zero below = ap (λ b. cond b (Some (place.Refuted (stage_of aim n 1))) None) (same_pair (n + 1) 1)
  proof_after n (suc g) below =
      let l : Line = line.Numbers head.Proof ((n + 1) ∷ ((suc g + 1) ∷ [])) in
      let next : Stage = stage_of aim (n + 1) 1 in
      ap (λ b. cond b (after_proof (stage_of aim n (suc g + 1)) l) (cond (nat_lt (n + 1) (length aim.tracked)) (after_good next l) (after_blocks Recovery l))) (lt-ltb (suc g) (length aim.goals) below)
      ∙ ap (λ b. cond b (Some (place.Refuted (stage_of aim n (suc g + 1)))) None) (same_pair (n + 1) (suc g + 1))

  -- behind the proofs of all goals
  pub all_proved : (n g : ℕ) → g ≡ length aim.goals → 1 ≤ length aim.goals → proved_place aim n g ≡ good_place aim (suc n)
  all_proved n zero all some = absurd (omega (arith, all, some))
  all_proved n (suc g) all some = ap (λ m. place.Refuting (stage_of aim n m)) all

  -- behind the last line of the last state there come blocks
  last_stage : (n : ℕ) (l : Line) → suc n ≡ length aim.tracked → after_stage (stage_of aim n (length aim.goals)) l ≡ after_blocks Recovery l
  last_stage n l last =
      let next : Stage = stage_of aim (n + 1) 1 in
      let past : nat_lt (n + 1) (length aim.tracked) ≡ false = grind (arith, last) in
      ap (λ b. cond b (after_proof (stage_of aim n (length aim.goals + 1)) l) (cond (nat_lt (n + 1) (length aim.tracked)) (after_good next l) (after_blocks Recovery l))) (not_less (length aim.goals))
      ∙ ap (λ b. cond b (after_good next l) (after_blocks Recovery l)) past

  pub all_good : (n : ℕ) → n ≡ length aim.tracked → 1 ≤ length aim.tracked → TakesBlocks (good_place aim n)
  all_good zero all some = absurd (omega (arith, all, some))
  all_good (suc n) all some =
      record {
        conflict = λ ns. last_stage n (line.Numbers head.Conflict ns) all;
        counter = λ ns. last_stage n (line.Numbers head.Counter ns) all;
        split = λ m by. last_stage n (line.Split m by) all;
        end = last_stage n line.End all;
      }

  pub asked_takes : TakesBlocks (place.Goals (task_of aim))
  asked_takes = record { conflict = λ ns. refl; counter = λ ns. refl; split = λ m by. refl; end = refl }

module _ (plant : Plant) (aim : Aim) (listed : List Rank) (excluded : List (List Pair)) where
  abbrev at : Phase → Standing
  at phase = record { phase = phase; listed = listed; excluded = excluded }

  pub goals_done : (n g : ℕ) → g ≡ length aim.goals → 1 ≤ length aim.goals → Lead plant aim (at (proved n g)) (at (good (n + 1))) []
  goals_done n g all some =
      let same : suc n ≡ n + 1 = omega arith in
      lead_same plant aim (proved n g) (good (n + 1)) listed excluded (λ p is. is ∙ all_proved aim n g all some ∙ ap (good_place aim) same)

  pub states_done : (n : ℕ) → n ≡ length aim.tracked → 1 ≤ length aim.tracked → Lead plant aim (at (good n)) (at excluding) []
  states_done n all some = lead_same plant aim (good n) excluding listed excluded (λ p is. subst TakesBlocks (sym is) (all_good aim n all some))

  pub asked_done : Lead plant aim (at asked) (at excluding) []
  asked_done = lead_same plant aim asked excluding listed excluded (λ p is. subst TakesBlocks (sym is) (asked_takes aim))
