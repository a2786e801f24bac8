-- The lines of observations: each is good where an observable has the value.
use Rattle.std.proofs.Common.{◌≡◌, ℕ, ◌+◌, ◌-◌, ◌<◌, ◌≤◌, true, ◌&&◌, List, [], ◌∷◌, ◌++◌, length, map, slice_index_or, Some, None, option_map, cond, sym, subst, ◌∙◌, ap, ap₂, arith, All}
use Rattle.std.proofs.lemmas.Bool.{and_from}
use Rattle.std.proofs.lemmas.List.{append_assoc, append-nil}
use Rattle.std.proofs.lemmas.List.Elements.{All-head, All-tail}
use Rattle.lv_base.specs.declared.ids.Lit.{Lit}
use Rattle.lv_model.specs.declared.plant.Plant.{Plant}
use Rattle.lv_model.specs.Lists.{sizes, variable_count}
use Rattle.lv_model.specs.WellFormed.{is_well_formed}
use Rattle.lv_model.proofs.Sizes.{few-sizes, length-sizes}
use Rattle.lv_meaning.specs.declared.facts.Observation.{Observation}
use Rattle.lv_meaning.specs.declared.facts.Facts.{Facts}
use Rattle.lv_system.specs.lv_compile.Booleans.{Booleans, booleans_now, booleans_next}
use Rattle.lv_cert_meaning.specs.lv_model_names.Names.{classes, is_observable}
use Rattle.lv_cert.specs.declared.line.Question.{Question}
use Rattle.lv_cert.specs.declared.line.Moment.{Moment}
use Rattle.lv_cert.specs.declared.line.Moment.TheVariants.{Now, Next}
use Rattle.lv_cert.specs.declared.line.Line.{Line}
use Rattle.lv_cert.specs.declared.line.Line.TheVariants as line
use Rattle.lv_cert.specs.declared.order.Place.{Place}
use Rattle.lv_cert.specs.Order.{place_after}
use Rattle.lv_cert.specs.Form.{is_formed, is_within_limit}
use Rattle.lv_cert_meaning.specs.Counting.{is_one_of}
use Rattle.lv_cert_meaning.specs.Stated.{Stated, observed_literal, observation_of, with_observation}
use Rattle.lv_cert_meaning.specs.Judging.{Judged}
use Rattle.lv_cert_writing.specs.Lines.{fact_line, fact_lines}
use Rattle.lv_cert_writing.specs.Ending.{Ends}
use Rattle.lv_cert_writing.proofs.Ending.{line_first}
use Rattle.lv_cert_writing.proofs.Numbers.{back_again, one_of_place, within, few_at, is_there}

-- an observable, and one of its values
pub record IsSeenIn (plant : Plant) (o : Observation) : Type 0 where
  pub value : o.val.0 < slice_index_or (sizes plant) o.var.0 0
  pub observable : is_observable (classes plant) o.var.0 ≡ true

-- the booleans that stand for what is before the step or after it
abbrev pub booleans_of : Plant → Moment → Booleans
booleans_of plant Now = booleans_now plant
booleans_of plant Next = booleans_next plant

abbrev facts_with : Moment → Facts → List Observation → Facts
facts_with Now facts os = record facts { present = facts.present ++ os }
facts_with Next facts os = record facts { next = facts.next ++ os }

-- what is stated with these observations more
abbrev pub with_facts : Plant → Moment → Stated → List Observation → Stated
with_facts plant moment s os = record s { facts = facts_with moment s.facts os; literals = s.literals ++ map (observed_literal (booleans_of plant moment)) os }

module _ (plant : Plant) (h : is_well_formed plant ≡ true) (o : Observation) (seen : IsSeenIn plant o) where
  there : o.var.0 < length (sizes plant)
  there = is_there (sizes plant) o.var.0 o.val.0 seen.value

  pub fact_read : observation_of plant (o.var.0 + 1) (o.val.0 + 1) ≡ Some o
  fact_read =
      let at : o.var.0 + 1 - 1 ≡ o.var.0 = back_again o.var.0 in
      let value : is_one_of (slice_index_or (sizes plant) (o.var.0 + 1 - 1) 0) (o.val.0 + 1) ≡ true =
      ap (λ x. is_one_of (slice_index_or (sizes plant) x 0) (o.val.0 + 1)) at ∙ one_of_place (slice_index_or (sizes plant) o.var.0 0) o.val.0 seen.value in
      let variable : (is_one_of (length (sizes plant)) (o.var.0 + 1) && is_observable (classes plant) (o.var.0 + 1 - 1)) ≡ true =
      and_from (is_one_of (length (sizes plant)) (o.var.0 + 1)) (is_observable (classes plant) (o.var.0 + 1 - 1)) (one_of_place (length (sizes plant)) o.var.0 there)
      (ap (is_observable (classes plant)) at ∙ seen.observable) in
      ap (λ b. cond b (Some (record { var = record { 0 = o.var.0 + 1 - 1 }; val = record { 0 = o.val.0 + 1 - 1 } })) None)
      (and_from (is_one_of (length (sizes plant)) (o.var.0 + 1) && is_observable (classes plant) (o.var.0 + 1 - 1)) (is_one_of (slice_index_or (sizes plant) (o.var.0 + 1 - 1) 0) (o.val.0 + 1)) variable value)
      ∙ ap₂ (λ (x v : ℕ). Some (record { var = record { 0 = x }; val = record { 0 = v } })) at (back_again o.val.0)

  pub fact_formed : variable_count plant ≤ 4096 → (moment : Moment) → is_formed (fact_line moment o) ≡ true
  fact_formed few moment =
      let long = length-sizes plant in
      let inside = there in
      let most = few_at (sizes plant) o.var.0 (few-sizes plant h) in
      let value = seen.value in
      and_from (is_within_limit (o.var.0 + 1)) (is_within_limit (o.val.0 + 1)) (within (o.var.0 + 1) 4096 (omega (arith, inside, long, few)) (omega arith))
      (within (o.val.0 + 1) 64 (omega (arith, most, value)) (omega arith))

-- where so many lines of observations of a moment came
pub record TakesFacts (moment : Moment) (place : ℕ → Place) : Type 0 where
  pub next : (n x v : ℕ) → n < 1024 → place_after (place n) (line.Fact moment x v) ≡ Some (place (n + 1))

abbrev with_stated : Judged → Stated → Judged
with_stated j s = record j { stated = s }

module _ (question : Question) (plant : Plant) (h : is_well_formed plant ≡ true) (few_variables : variable_count plant ≤ 4096) (final : Judged) (rest : List Line) where
  pub facts_first : (moment : Moment) (place : ℕ → Place) → TakesFacts moment place → (os : List Observation) (n m : ℕ) (j : Judged) → All (IsSeenIn plant) os → m ≡ n + length os → m ≤ 1024
      → Ends question plant (place m) (record j { stated = with_facts plant moment j.stated os }) rest final → Ends question plant (place n) j (fact_lines moment os ++ rest) final
  facts_first Now place takes [] n m j seen count few ends =
      let same : m ≡ n = omega (arith, count) in
      subst (λ (s : Stated). Ends question plant (place n) (record j { stated = s }) rest final)
      (ap₂ (λ (os : List Observation) (ls : List Lit). record j.stated { facts = record j.stated.facts { present = os }; literals = ls }) (append-nil j.stated.facts.present) (append-nil j.stated.literals))
      (subst (λ i. Ends question plant (place i) (record j { stated = with_facts plant Now j.stated [] }) rest final) same ends)
  facts_first Next place takes [] n m j seen count few ends =
      let same : m ≡ n = omega (arith, count) in
      subst (λ (s : Stated). Ends question plant (place n) (record j { stated = s }) rest final)
      (ap₂ (λ (os : List Observation) (ls : List Lit). record j.stated { facts = record j.stated.facts { next = os }; literals = ls }) (append-nil j.stated.facts.next) (append-nil j.stated.literals))
      (subst (λ i. Ends question plant (place i) (record j { stated = with_facts plant Next j.stated [] }) rest final) same ends)
  facts_first moment place takes (o ∷ os) n m j seen count few ends =
      let one = All-head (IsSeenIn plant) o os seen in
      let less : n < 1024 = omega (arith, few, count) in
      line_first question plant final (place n) (place (n + 1)) j (record j { stated = with_observation plant moment j.stated o }) (fact_line moment o) (fact_lines moment os ++ rest)
      (ap (option_map (λ (p : Observation). record j { stated = with_observation plant moment j.stated p })) (fact_read plant h o one))
      (takes.next n (o.var.0 + 1) (o.val.0 + 1) less) (λ w. fact_formed plant h o one few_variables moment)
      (facts_first moment place takes os (n + 1) m (record j { stated = with_observation plant moment j.stated o }) (All-tail (IsSeenIn plant) o os seen) (omega (arith, count)) few
      (subst (λ (s : Stated). Ends question plant (place m) (record j { stated = s }) rest final) (one_more moment j.stated) ends))
    where
      one_more : (moment : Moment) (s : Stated) → with_facts plant moment s (o ∷ os) ≡ with_facts plant moment (with_observation plant moment s o) os
      one_more Now s =
          ap₂ (λ (ps : List Observation) (ls : List Lit). record s { facts = record s.facts { present = ps }; literals = ls }) (sym (append_assoc s.facts.present (o ∷ []) os))
          (sym (append_assoc s.literals (observed_literal (booleans_now plant) o ∷ []) (map (observed_literal (booleans_now plant)) os)))
      one_more Next s =
          ap₂ (λ (ps : List Observation) (ls : List Lit). record s { facts = record s.facts { next = ps }; literals = ls }) (sym (append_assoc s.facts.next (o ∷ []) os))
          (sym (append_assoc s.literals (observed_literal (booleans_next plant) o ∷ []) (map (observed_literal (booleans_next plant)) os)))
