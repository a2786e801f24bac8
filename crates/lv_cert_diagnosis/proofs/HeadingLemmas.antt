-- The lines that state the question of a diagnosis are good, and state it.
use Rattle.std.proofs.Common.{◌≡◌, ℕ, ◌+◌, ◌<◌, ◌≤◌, Bool, true, false, nat_eq, nat_lt, nat_le, List, [], ◌∷◌, ◌++◌, length, map, slice_index_or, Some, None, cond, refl, sym, subst, ap, arith, All}
use Rattle.std.specs.Cmp.Lexicographic.{pointwise}
use Rattle.std.proofs.lemmas.Bool.{and_from, le-leb, lt-ltb, eq-eqb}
use Rattle.std.proofs.lemmas.List.Elements.{All-head, All-tail}
use Rattle.lv_base.specs.declared.ids.VarId.{VarId}
use Rattle.lv_base.specs.declared.ids.ValId.{ValId}
use Rattle.lv_model.specs.declared.plant.Plant.{Plant}
use Rattle.lv_model.specs.declared.state.TrackedState.{TrackedState}
use Rattle.lv_model.specs.Lists.{sizes, controls, variable_count}
use Rattle.lv_model.specs.WellFormed.{is_well_formed}
use Rattle.lv_model.proofs.Sizes.{few-sizes}
use Rattle.lv_meaning.specs.declared.facts.Observation.{Observation}
use Rattle.lv_meaning.specs.declared.facts.Facts.{Facts}
use Rattle.lv_meaning.specs.Facts.{commanded}
use Rattle.lv_search_zones.specs.lv_compile.Booleans.{booleans_now, booleans_next}
use Rattle.lv_search_zones.specs.Moves.{move_slots, zones_from}
use Rattle.lv_meaning.specs.Commands.{control_sizes}
use Rattle.lv_cert.specs.declared.line.Question.TheVariants.{Diagnosis}
use Rattle.lv_cert.specs.declared.line.Moment.TheVariants.{Now, Next}
use Rattle.lv_cert.specs.declared.line.Head.TheVariants as head
use Rattle.lv_cert.specs.declared.line.Line.{Line}
use Rattle.lv_cert.specs.declared.line.Line.TheVariants as line
use Rattle.lv_cert.specs.declared.order.Place.TheVariants as place
use Rattle.lv_cert.specs.Form.{is_within_limit}
use Rattle.lv_cert_laws.specs.lv_cert_meaning.Counting.{is_one_of, are_of, values_of}
use Rattle.lv_cert_laws.specs.lv_cert_meaning.Stated.{Stated, with_limit, observed_literal, with_controls}
use Rattle.lv_cert_laws.specs.lv_cert_meaning.Judging.{Judged, unjudged}
use Rattle.lv_cert_writing.specs.Lines.{value_numbers, state_lines, fact_lines, values_line}
use Rattle.lv_cert_writing.specs.Ending.{Ends}
use Rattle.lv_cert_writing.proofs.Ending.{line_first}
use Rattle.lv_cert_writing.proofs.Numbers.{values_back, one_of_place, within, formed_of, few_found}
use Rattle.lv_cert_writing.proofs.StatingLemmas.{Stands, states_first}
use Rattle.lv_cert_writing.proofs.Facts.{IsSeenIn, facts_first}
use Rattle.lv_cert_diagnosis.specs.Showing.{limit_line, head_lines, stated_literals}

-- a name is equal to itself
same_name : (ns : List ℕ) → pointwise nat_eq ns ns ≡ true
same_name [] = refl
same_name (n ∷ ns) = and_from (nat_eq n n) (pointwise nat_eq ns ns) (eq-eqb n n refl) (same_name ns)

-- each control has one of its values
pub record IsControlled (sizes : List ℕ) (o : Observation) : Type 0 where
  pub below : o.val.0 < slice_index_or sizes o.var.0 0

controls_numbered : (sizes : List ℕ) (cs : List VarId) (vs : List ValId) → length vs ≡ length cs → All (IsControlled sizes) (commanded cs vs)
    → are_of (map (λ (c : VarId). slice_index_or sizes c.0 0) cs) (value_numbers vs) ≡ true
controls_numbered sizes [] [] long fit = refl
controls_numbered sizes [] (v ∷ vs) long fit = absurd (omega (arith, long))
controls_numbered sizes (c ∷ cs) [] long fit = absurd (omega (arith, long))
controls_numbered sizes (c ∷ cs) (v ∷ vs) long fit =
    and_from (is_one_of (slice_index_or sizes c.0 0) (v.0 + 1)) (are_of (map (λ (x : VarId). slice_index_or sizes x.0 0) cs) (value_numbers vs))
    (one_of_place (slice_index_or sizes c.0 0) v.0 (All-head (IsControlled sizes) (record { var = c; val = v }) (commanded cs vs) fit).below)
    (controls_numbered sizes cs vs (omega (arith, long)) (All-tail (IsControlled sizes) (record { var = c; val = v }) (commanded cs vs) fit))

-- what is asked of a diagnosis is of the plant, and within the limits
pub record IsAskedOf (plant : Plant) (tracked : List TrackedState) (facts : Facts) (k : ℕ) : Type 0 where
  pub well_formed : is_well_formed plant ≡ true
  pub variables : variable_count plant ≤ 4096
  pub some : 1 ≤ length tracked
  pub few : length tracked ≤ 64
  pub stand : All (Stands plant) tracked
  pub whole : length facts.controls ≡ length (controls plant)
  pub controls : All (IsControlled (sizes plant)) (commanded (controls plant) facts.controls)
  pub present : All (IsSeenIn plant) facts.present
  pub next : All (IsSeenIn plant) facts.next
  pub observed : length facts.present + length facts.next ≤ 1024
  pub limit : 1 ≤ k
  pub most : k ≤ 64

-- what the head states
abbrev pub stated_by : Plant → List TrackedState → Facts → ℕ → Bool → Stated
stated_by plant tracked facts k distinct = record { k = k; distinct = distinct; tracked = tracked; facts = facts; literals = stated_literals plant facts; goals = [] }

-- what the head comes to
abbrev pub headed : Plant → List TrackedState → Facts → ℕ → Bool → Judged
headed plant tracked facts k distinct = record {
  stated = stated_by plant tracked facts k distinct;
  space = record { slots = move_slots plant; zones = map Some (zones_from plant 0 tracked) };
  listed = [];
  excluded = [];
  own = [];
  aimed = None;
  before = None;
}

-- the line of the limit
limit_first : (plant : Plant) (k : ℕ) (distinct : Bool) (final : Judged) → 1 ≤ k → k ≤ 64 → (more : List Line)
    → Ends Diagnosis plant (place.States k 0) (record (unjudged plant Diagnosis) { stated = with_limit (unjudged plant Diagnosis).stated (record { most = k; distinct = distinct }) }) more final
    → Ends Diagnosis plant place.Asked (unjudged plant Diagnosis) (limit_line k distinct ∷ more) final
limit_first plant k false final some most more ends =
    let limited : Judged = record (unjudged plant Diagnosis) { stated = with_limit (unjudged plant Diagnosis).stated (record { most = k; distinct = false }) } in
    line_first Diagnosis plant final place.Asked (place.States k 0) (unjudged plant Diagnosis) limited (line.Numbers head.Limit (k ∷ [])) more
    (ap (λ b. cond b (Some limited) None) (and_from (nat_lt 0 k) (nat_le k 64) (lt-ltb 0 k (omega (arith, some))) (le-leb k 64 most)))
    refl (λ w. and_from (is_within_limit k) true (within k 64 most (omega arith)) refl) ends
limit_first plant k true final some most more ends =
    let limited : Judged = record (unjudged plant Diagnosis) { stated = with_limit (unjudged plant Diagnosis).stated (record { most = k; distinct = true }) } in
    line_first Diagnosis plant final place.Asked (place.States k 0) (unjudged plant Diagnosis) limited (line.Distinct k) more
    (ap (λ b. cond b (Some limited) None) (and_from (nat_lt 0 k) (nat_le k 64) (lt-ltb 0 k (omega (arith, some))) (le-leb k 64 most)))
    refl (λ w. within k 64 most (omega arith)) ends

module _ (plant : Plant) (tracked : List TrackedState) (facts : Facts) (k : ℕ) (distinct : Bool) (is : IsAskedOf plant tracked facts k) (final : Judged) (rest : List Line) where
  -- with the limit alone
  abbrev limited : Judged
  limited = record (unjudged plant Diagnosis) { stated = with_limit (unjudged plant Diagnosis).stated (record { most = k; distinct = distinct }) }

  -- and the states
  abbrev known : Judged
  known = record limited { stated = record limited.stated { tracked = tracked } }

  -- and the controls
  abbrev controlled : Judged
  controlled = record known { stated = with_controls plant known.stated (value_numbers facts.controls); space = record known.space { zones = map Some (zones_from plant 0 tracked) } }

  -- and what was seen before the step
  abbrev stated_now : List ValId → Stated
  stated_now vs = record {
    k = k;
    distinct = distinct;
    tracked = tracked;
    facts = record { controls = vs; present = facts.present; next = [] };
    literals = map (observed_literal (booleans_now plant)) (commanded (controls plant) vs) ++ map (observed_literal (booleans_now plant)) facts.present;
    goals = [];
  }

  controls_are : are_of (control_sizes plant) (value_numbers facts.controls) ≡ true
  controls_are = controls_numbered (sizes plant) (controls plant) facts.controls is.whole is.controls

  facts_end : Ends Diagnosis plant (place.Facts k (length facts.present + length facts.next)) (headed plant tracked facts k distinct) rest final
      → Ends Diagnosis plant (place.Facts k 0) controlled (fact_lines Now facts.present ++ (fact_lines Next facts.next ++ rest)) final
  facts_end ends =
      let observed = is.observed in
      facts_first Diagnosis plant is.well_formed is.variables final (fact_lines Next facts.next ++ rest) Now (place.Facts k) (record { next = λ n x v less. ap (λ b. cond b (Some (place.Facts k (n + 1))) None) (lt-ltb n 1024 less) })
      facts.present 0 (length facts.present) controlled is.present (omega arith) (omega (arith, observed))
      (facts_first Diagnosis plant is.well_formed is.variables final rest Next (place.Facts k) (record { next = λ n x v less. ap (λ b. cond b (Some (place.Facts k (n + 1))) None) (lt-ltb n 1024 less) })
      facts.next (length facts.present) (length facts.present + length facts.next) (record controlled { stated = stated_now (values_of (value_numbers facts.controls)) }) is.next refl observed
      (subst (λ (vs : List ValId). Ends Diagnosis plant (place.Facts k (length facts.present + length facts.next))
      (record controlled { stated = record (stated_now vs) { facts = record (stated_now vs).facts { next = facts.next }; literals = (stated_now vs).literals ++ map (observed_literal (booleans_next plant)) facts.next } }) rest final)
      (sym (values_back facts.controls)) ends))

  control_end : Ends Diagnosis plant (place.Facts k (length facts.present + length facts.next)) (headed plant tracked facts k distinct) rest final
      → Ends Diagnosis plant (place.States k (length tracked)) known (values_line head.Control facts.controls ∷ (fact_lines Now facts.present ++ (fact_lines Next facts.next ++ rest))) final
  control_end ends =
      let some = is.some in
      line_first Diagnosis plant final (place.States k (length tracked)) (place.Facts k 0) known controlled (values_line head.Control facts.controls) (fact_lines Now facts.present ++ (fact_lines Next facts.next ++ rest))
      (ap (λ b. cond b (Some controlled) None) controls_are)
      (ap (λ b. cond b (Some (place.Facts k 0)) None) (lt-ltb 0 (length tracked) (omega (arith, some))))
      (λ w. formed_of (control_sizes plant) (value_numbers facts.controls) (few_found (sizes plant) (λ (c : VarId). c.0) (controls plant) (few-sizes plant is.well_formed)) controls_are)
      (facts_end ends)

  pub head_first : Ends Diagnosis plant (place.Facts k (length facts.present + length facts.next)) (headed plant tracked facts k distinct) rest final
      → Ends Diagnosis plant place.Start (unjudged plant Diagnosis) (head_lines plant tracked facts k distinct rest) final
  head_first ends =
      let few = is.few in
      let more : List Line = values_line head.Control facts.controls ∷ (fact_lines Now facts.present ++ (fact_lines Next facts.next ++ rest)) in
      line_first Diagnosis plant final place.Start (place.Named Diagnosis) (unjudged plant Diagnosis) (unjudged plant Diagnosis) (line.Certificate Diagnosis)
      (line.Model plant.name ∷ limit_line k distinct ∷ (state_lines tracked ++ more)) refl refl (λ w. refl)
      (line_first Diagnosis plant final (place.Named Diagnosis) place.Asked (unjudged plant Diagnosis) (unjudged plant Diagnosis) (line.Model plant.name)
      (limit_line k distinct ∷ (state_lines tracked ++ more)) (ap (λ b. cond b (Some (unjudged plant Diagnosis)) None) (same_name plant.name)) refl (λ w. w)
      (limit_first plant k distinct final is.limit is.most (state_lines tracked ++ more)
      (states_first Diagnosis plant is.well_formed (place.States k) (record { next = λ n ns less. ap (λ b. cond b (Some (place.States k (n + 1))) None) (lt-ltb n 64 less) }) final more
      tracked 0 (length tracked) limited is.stand refl (omega arith) few (control_end ends))))
