-- The lines of tracked states: each is good where the state is one of the plant, within its cost.
use Rattle.std.proofs.Common.{◌≡◌, ℕ, suc, ◌+◌, ◌<◌, ◌≤◌, true, nat_lt, nat_le, List, [], ◌∷◌, ◌++◌, length, map, slice_index_or, Some, None, option_map, cond, refl, sym, subst, ◌∙◌, ap, arith, All}
use Rattle.std.specs.List.{list_all}
use Rattle.std.proofs.lemmas.Bool.{and_parts, and_from, lt-ltb, le-leb}
use Rattle.std.proofs.lemmas.List.{append_assoc, append-nil}
use Rattle.std.proofs.lemmas.List.Elements.{All-head, All-tail}
use Rattle.lv_base.specs.declared.limits.TheConstants.{TRACKED, TRACKED_COST}
use Rattle.lv_base.specs.declared.ids.ValId.{ValId}
use Rattle.lv_model.specs.lv_base.declared.range.Range.{Range}
use Rattle.lv_model.specs.lv_base.Fits.{has_value}
use Rattle.lv_model.specs.declared.plant.Plant.{Plant}
use Rattle.lv_model.specs.declared.plant.Part.{Part}
use Rattle.lv_model.specs.declared.state.TrackedState.{TrackedState}
use Rattle.lv_model.specs.Lists.{sizes}
use Rattle.lv_model.specs.Ranges.{plant_ranges}
use Rattle.lv_model.specs.WellFormed.{is_well_formed}
use Rattle.lv_model.proofs.Sizes.{few-sizes}
use Rattle.lv_meaning.specs.Ranges.{modes_fit, StateFits}
use Rattle.lv_cert.specs.declared.line.Question.{Question}
use Rattle.lv_cert.specs.declared.line.Head.TheVariants.{State}
use Rattle.lv_cert.specs.declared.line.Line.{Line}
use Rattle.lv_cert.specs.declared.line.Line.TheVariants as line
use Rattle.lv_cert.specs.declared.order.Place.{Place}
use Rattle.lv_cert.specs.Order.{place_after}
use Rattle.lv_cert.specs.Form.{is_formed, is_within_limit}
use Rattle.lv_cert_meaning.specs.Counting.{is_one_of, are_of, values_of, mode_counts}
use Rattle.lv_cert_meaning.specs.Stated.{state_of, with_state}
use Rattle.lv_cert_meaning.specs.Judging.{Judged}
use Rattle.lv_cert_writing.specs.Lines.{value_numbers, state_line, state_lines}
use Rattle.lv_cert_writing.specs.Ending.{Ends}
use Rattle.lv_cert_writing.proofs.Ending.{line_first}
use Rattle.lv_cert_writing.proofs.Numbers.{values_back, one_of_place, have_value, within, formed_of, few_found}

modes_numbered : (rs : List Range) (ps : List Part) (vs : List ValId) → modes_fit rs ps vs ≡ true → are_of (map (λ (p : Part). slice_index_or (map (λ (r : Range). r.size) rs) p.first.0 0) ps) (value_numbers vs) ≡ true
modes_numbered rs [] [] h = refl
modes_numbered rs [] (v ∷ vs) h = absurd (cc h)
modes_numbered rs (p ∷ ps) [] h = absurd (cc h)
modes_numbered rs (p ∷ ps) (v ∷ vs) h =
    let two = and_parts (has_value rs p.first.0 v.0) (modes_fit rs ps vs) h in
    let size : ℕ = slice_index_or (map (λ (r : Range). r.size) rs) p.first.0 0 in
    and_from (is_one_of size (v.0 + 1)) (are_of (map (λ (q : Part). slice_index_or (map (λ (r : Range). r.size) rs) q.first.0 0) ps) (value_numbers vs))
    (one_of_place size v.0 (have_value rs p.first.0 v.0 two.0)) (modes_numbered rs ps vs two.1)

-- a state of the plant within its cost
pub record Stands (plant : Plant) (s : TrackedState) : Type 0 where
  pub fits : StateFits plant s
  pub cost : s.cost.0 ≤ TRACKED_COST

module _ (plant : Plant) where
  modes_are : (s : TrackedState) → StateFits plant s → are_of (mode_counts plant) (value_numbers s.state.modes) ≡ true
  modes_are s fits = modes_numbered (plant_ranges plant) plant.parts s.state.modes fits.modes

  pub state_read : (s : TrackedState) → Stands plant s → state_of plant (s.cost.0 ∷ value_numbers s.state.modes) ≡ Some s
  state_read s is =
      ap (λ b. cond b (Some (record { state = record { modes = values_of (value_numbers s.state.modes) }; cost = record { 0 = s.cost.0 } })) None)
      (and_from (nat_le s.cost.0 TRACKED_COST) (are_of (mode_counts plant) (value_numbers s.state.modes)) (le-leb s.cost.0 TRACKED_COST is.cost) (modes_are s is.fits))
      ∙ ap (λ (ms : List ValId). Some (record { state = record { modes = ms }; cost = s.cost })) (values_back s.state.modes)

  pub state_formed : is_well_formed plant ≡ true → (s : TrackedState) → Stands plant s → is_formed (state_line s) ≡ true
  state_formed h s is =
      and_from (nat_le 1 (suc (length (value_numbers s.state.modes)))) (list_all is_within_limit (s.cost.0 ∷ value_numbers s.state.modes)) (le-leb 1 (suc (length (value_numbers s.state.modes))) (omega arith))
      (and_from (is_within_limit s.cost.0) (list_all is_within_limit (value_numbers s.state.modes)) (within s.cost.0 TRACKED_COST is.cost (omega arith))
      (formed_of (mode_counts plant) (value_numbers s.state.modes) (few_found (sizes plant) (λ (p : Part). p.first.0) plant.parts (few-sizes plant h)) (modes_are s is.fits)))

-- where so many more lines of states may come
pub record TakesStates (place : ℕ → Place) : Type 0 where
  pub next : (n : ℕ) (ns : List ℕ) → n < 64 → place_after (place n) (line.Numbers State ns) ≡ Some (place (n + 1))

abbrev pub with_states : Judged → List TrackedState → Judged
with_states j ss = record j { stated = record j.stated { tracked = j.stated.tracked ++ ss } }

module _ (question : Question) (plant : Plant) (h : is_well_formed plant ≡ true) (place : ℕ → Place) (takes : TakesStates place) (final : Judged) (rest : List Line) where
  pub states_first : (ss : List TrackedState) (n m : ℕ) (j : Judged) → All (Stands plant) ss → length j.stated.tracked ≡ n → m ≡ n + length ss → m ≤ 64
      → Ends question plant (place m) (with_states j ss) rest final → Ends question plant (place n) j (state_lines ss ++ rest) final
  states_first [] n m j stand long count few ends =
      let same : m ≡ n = omega (arith, count) in
      subst (λ (ts : List TrackedState). Ends question plant (place n) (record j { stated = record j.stated { tracked = ts } }) rest final) (append-nil j.stated.tracked)
      (subst (λ i. Ends question plant (place i) (with_states j []) rest final) same ends)
  states_first (s ∷ ss) n m j stand long count few ends =
      let one = All-head (Stands plant) s ss stand in
      let less : n < 64 = omega (arith, few, count) in
      let room : nat_lt (length j.stated.tracked) TRACKED ≡ true = lt-ltb (length j.stated.tracked) TRACKED (omega (arith, long, less)) in
      line_first question plant final (place n) (place (n + 1)) j (record j { stated = with_state j.stated s }) (state_line s) (state_lines ss ++ rest)
      (ap (λ b. cond b (option_map (λ (t : TrackedState). record j { stated = with_state j.stated t }) (state_of plant (s.cost.0 ∷ value_numbers s.state.modes))) None) room
      ∙ ap (option_map (λ (t : TrackedState). record j { stated = with_state j.stated t })) (state_read plant s one))
      (takes.next n (s.cost.0 ∷ value_numbers s.state.modes) less) (λ w. state_formed plant h s one)
      (states_first ss (n + 1) m (record j { stated = with_state j.stated s }) (All-tail (Stands plant) s ss stand) (longer j.stated.tracked s ∙ ap (λ i. i + 1) long) (omega (arith, count)) few
      (subst (λ (ts : List TrackedState). Ends question plant (place m) (record j { stated = record j.stated { tracked = ts } }) rest final) (sym (append_assoc j.stated.tracked (s ∷ []) ss)) ends))
    where
      longer : (ts : List TrackedState) (t : TrackedState) → length (ts ++ t ∷ []) ≡ length ts + 1
      longer [] t = refl
      longer (x ∷ xs) t = let rest = longer xs t in omega (arith, rest)
