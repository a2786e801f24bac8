-- What the solver's answers say of plant steps: its values are one, and where it has none there is none.
use Rattle.std.proofs.Common.{◌≡◌, ◌<◌, ℕ, zero, suc, Bool, true, false, ◌&&◌, nat_lt, List, [], ◌∷◌, ◌++◌, length, map, take, drop, get_or, None, refl, sym, subst, ap, ap₂, ◌∙◌, arith}
use Rattle.std.proofs.lemmas.Bool.{and_parts, and_from, lt-ltb, ltb-true}
use Rattle.std.proofs.lemmas.List.{length-map, take-append-drop}
use Rattle.std.proofs.Math.Seq.{take-append_seam, drop-append_seam}
use Rattle.lv_base.specs.declared.ids.ValId.{ValId}
use Rattle.lv_base.specs.declared.ids.MoveId.{MoveId}
use Rattle.lv_clauses.specs.ClauseMap.{ClauseMap, satisfies}
use Rattle.lv_model.specs.declared.plant.Plant.{Plant}
use Rattle.lv_model.specs.lv_base.Tree.{number_of}
use Rattle.lv_model.specs.Lists.{sizes, move_counts}
use Rattle.lv_model.specs.WellFormed.{is_well_formed}
use Rattle.lv_model.specs.Meaning.{is_step}
use Rattle.lv_meaning.specs.Facts.{meets, now_facts}
use Rattle.lv_meaning.specs.Possible.{move_number}
use Rattle.lv_meaning.specs.PossibleLaws.{are_below}
use Rattle.lv_meaning.specs.Recovers.{has_modes}
use Rattle.lv_meaning.proofs.SomeList.{ListFound, list_found, found_list}
use Rattle.lv_system.specs.lv_compile.Booleans.{bool_count}
use Rattle.lv_system.specs.lv_compile.Laws as compiled
use Rattle.lv_system.specs.Encoding.{encoded}
use Rattle.lv_system.specs.Laws.{IsAssignment, IsFullChoice, IsWholeStep, IsModelOf}
use Rattle.lv_system.specs.System.{SystemValue, IsSystemOf}
use Rattle.lv_system.proofs.SystemLemmas.{step_has_a_model}
use Rattle.lv_plant_step.specs.declared.asked.Asked.{Asked}
use Rattle.lv_plant_step.specs.declared.asked.PlantStep.{PlantStep}
use Rattle.lv_plant_step.specs.PlantSteps.{are_as_named, is_as_asked, is_plant_step, are_plant_step, places}
use Rattle.lv_plant_step.specs.Assuming.{Assumption, holds, IsSolution, Tells}
use Rattle.lv_plant_step.specs.Finding.{Encodes, are_values, has_front, Asks, BeginsSo, IsLeadTo, CanLead, AreDecoded}
use Rattle.lv_plant_step.specs.Laws.{IsPlantStep}

-- values and assignments

pub values_long : (ns : List ℕ) (vs : List ValId) → are_values ns vs ≡ true → length vs ≡ length ns
values_long [] [] h = refl
values_long [] (v ∷ vs) h = absurd (cc h)
values_long (n ∷ ns) [] h = absurd (cc h)
values_long (n ∷ ns) (v ∷ vs) h = ap suc (values_long ns vs ((and_parts (nat_lt v.0 n) (are_values ns vs) h).1))

pub value_below : (ns : List ℕ) (vs : List ValId) → are_values ns vs ≡ true → (x : ℕ) → x < length ns → number_of vs x < get_or ns x 0
value_below [] vs h x below = absurd (omega (arith, below))
value_below (n ∷ ns) [] h x below = absurd (cc h)
value_below (n ∷ ns) (v ∷ vs) h zero below = ltb-true v.0 n ((and_parts (nat_lt v.0 n) (are_values ns vs) h).0)
value_below (n ∷ ns) (v ∷ vs) h (suc x) below = value_below ns vs ((and_parts (nat_lt v.0 n) (are_values ns vs) h).1) x (omega (arith, below))

pub is_assignment : (ns : List ℕ) (vs : List ValId) → are_values ns vs ≡ true → IsAssignment ns vs
is_assignment ns vs h = record { whole = values_long ns vs h; in_range = value_below ns vs h }

each_value : (ns : List ℕ) (vs : List ValId) → length vs ≡ length ns → ((x : ℕ) → x < length ns → number_of vs x < get_or ns x 0) → are_values ns vs ≡ true
each_value [] [] long each = refl
each_value [] (v ∷ vs) long each = absurd (omega (arith, long))
each_value (n ∷ ns) [] long each = absurd (omega (arith, long))
each_value (n ∷ ns) (v ∷ vs) long each =
    and_from (nat_lt v.0 n) (are_values ns vs) (lt-ltb v.0 n (each 0 (omega arith))) (each_value ns vs (omega (arith, long)) (λ x below. each (suc x) (omega (arith, below))))

pub assignment_values : (ns : List ℕ) (vs : List ValId) → IsAssignment ns vs → are_values ns vs ≡ true
assignment_values ns vs h = each_value ns vs h.whole h.in_range

in_turn : (a b c : Bool) → a ≡ true → (b && c) ≡ true → ((a && b) && c) ≡ true
in_turn true b c one both = both
in_turn false b c one both = absurd (cc one)

-- values before and after

pub values_joined : (ns ms : List ℕ) (a b : List ValId) → are_values ns a ≡ true → are_values ms b ≡ true → are_values (ns ++ ms) (a ++ b) ≡ true
values_joined [] ms [] b one other = other
values_joined [] ms (v ∷ vs) b one other = absurd (cc one)
values_joined (n ∷ ns) ms [] b one other = absurd (cc one)
values_joined (n ∷ ns) ms (v ∷ vs) b one other =
    let two = and_parts (nat_lt v.0 n) (are_values ns vs) one in
    and_from (nat_lt v.0 n) (are_values (ns ++ ms) (vs ++ b)) two.0 (values_joined ns ms vs b two.1 other)

pub values_halves : (ns ms : List ℕ) (vs : List ValId) → are_values (ns ++ ms) vs ≡ true → (are_values ns (take (length ns) vs) ≡ true) × (are_values ms (drop (length ns) vs) ≡ true)
values_halves [] ms vs h = (refl, h)
values_halves (n ∷ ns) ms [] h = absurd (cc h)
values_halves (n ∷ ns) ms (v ∷ vs) h =
    let two = and_parts (nat_lt v.0 n) (are_values (ns ++ ms) vs) h in
    let rest = values_halves ns ms vs two.1 in
    (and_from (nat_lt v.0 n) (are_values ns (take (length ns) vs)) two.0 rest.0, rest.1)

-- full choices

abbrev pub mv_number : MoveId → ℕ
mv_number m = m.0

pub moves_back : (ms : List MoveId) → map move_number (map mv_number ms) ≡ ms
moves_back [] = refl
moves_back (m ∷ ms) = ap (λ (xs : List MoveId). m ∷ xs) (moves_back ms)

pub moves_below : (ns : List ℕ) (ms : List MoveId) → length ms ≡ length ns → ((x : ℕ) → x < length ns → compiled.move_number ms x < get_or ns x 0) → are_below ns (map mv_number ms) ≡ true
moves_below [] [] long each = refl
moves_below [] (v ∷ vs) long each = absurd (omega (arith, long))
moves_below (n ∷ ns) [] long each = absurd (omega (arith, long))
moves_below (n ∷ ns) (v ∷ vs) long each =
    and_from (nat_lt v.0 n) (are_below ns (map mv_number vs)) (lt-ltb v.0 n (each 0 (omega arith))) (moves_below ns vs (omega (arith, long)) (λ x below. each (suc x) (omega (arith, below))))

pub below_long : (ns xs : List ℕ) → are_below ns xs ≡ true → length xs ≡ length ns
below_long [] [] h = refl
below_long [] (x ∷ xs) h = absurd (cc h)
below_long (n ∷ ns) [] h = absurd (cc h)
below_long (n ∷ ns) (x ∷ xs) h = ap suc (below_long ns xs ((and_parts (nat_lt x n) (are_below ns xs) h).1))

move_in_range : (ns xs : List ℕ) → are_below ns xs ≡ true → (x : ℕ) → x < length ns → compiled.move_number (map move_number xs) x < get_or ns x 0
move_in_range [] xs h x below = absurd (omega (arith, below))
move_in_range (n ∷ ns) [] h x below = absurd (cc h)
move_in_range (n ∷ ns) (v ∷ vs) h zero below = ltb-true v n ((and_parts (nat_lt v n) (are_below ns vs) h).0)
move_in_range (n ∷ ns) (v ∷ vs) h (suc x) below = move_in_range ns vs ((and_parts (nat_lt v n) (are_below ns vs) h).1) x (omega (arith, below))

pub is_full_choice : (ns xs : List ℕ) → are_below ns xs ≡ true → IsFullChoice ns (map move_number xs)
is_full_choice ns xs h = record { whole = length-map xs move_number ∙ below_long ns xs h; in_range = move_in_range ns xs h }

-- what a plant step is, in the subject's own words

module _ (plant : Plant) (asked : Asked) (a b : List ValId) where
  abbrev goes : List MoveId → Bool
  goes ms = is_step plant a b ms && is_as_asked plant asked a ms

  pub plant_step_reads : are_values (sizes plant) a ≡ true → are_values (sizes plant) b ≡ true → is_plant_step plant asked a b ≡ true → IsPlantStep plant asked (record { before = a; after = b })
  plant_step_reads one other h =
      let f : ListFound move_number (move_counts plant) goes = list_found move_number (move_counts plant) goes h in
      let ms : List MoveId = map move_number f.numbers in
      let two = and_parts (is_step plant a b ms) (is_as_asked plant asked a ms) f.passes in
      let parts = and_parts (meets a (now_facts plant asked.facts) && has_modes plant.parts asked.modes a) (are_as_named plant.types plant.parts asked.faults ms) two.1 in
      let begins = and_parts (meets a (now_facts plant asked.facts)) (has_modes plant.parts asked.modes a) parts.0 in
      record {
        moves = ms;
        step = record {
          before = is_assignment (sizes plant) a one;
          after = is_assignment (sizes plant) b other;
          moves = is_full_choice (move_counts plant) f.numbers f.below;
          step = two.0;
        };
        modes = begins.1;
        facts = begins.0;
        named = parts.1;
      }

  pub by_moves : (ms : List MoveId) → IsFullChoice (move_counts plant) ms → is_step plant a b ms ≡ true → is_as_asked plant asked a ms ≡ true → is_plant_step plant asked a b ≡ true
  by_moves ms choice step so =
      found_list move_number (move_counts plant) goes (map mv_number ms) (moves_below (move_counts plant) ms choice.whole choice.in_range)
      (subst (λ (xs : List MoveId). goes xs ≡ true) (sym (moves_back ms)) (and_from (is_step plant a b ms) (is_as_asked plant asked a ms) step so))

pub reads_plant_step : (plant : Plant) (asked : Asked) (s : PlantStep) → IsPlantStep plant asked s → is_plant_step plant asked s.before s.after ≡ true
reads_plant_step plant asked s h =
    by_moves plant asked s.before s.after h.moves h.step.moves h.step.step
    (and_from (meets s.before (now_facts plant asked.facts) && has_modes plant.parts asked.modes s.before) (are_as_named plant.types plant.parts asked.faults h.moves)
    (and_from (meets s.before (now_facts plant asked.facts)) (has_modes plant.parts asked.modes s.before) h.facts h.modes) h.named)

-- both halves of a list of such values

front_half : (n : ℕ) (a b : List ValId) → length a ≡ n → take n (a ++ b) ≡ a
front_half n a b long = ap (λ (k : ℕ). take k (a ++ b)) (sym long) ∙ take-append_seam a b

back_half : (n : ℕ) (a b : List ValId) → length a ≡ n → drop n (a ++ b) ≡ b
back_half n a b long = ap (λ (k : ℕ). drop k (a ++ b)) (sym long) ∙ drop-append_seam a b

pub joined_step : (plant : Plant) (asked : Asked) (a b : List ValId) → length a ≡ length (sizes plant) → is_plant_step plant asked a b ≡ true → are_plant_step plant asked (a ++ b) ≡ true
joined_step plant asked a b long h =
    ap₂ (is_plant_step plant asked) (front_half (length (sizes plant)) a b long) (back_half (length (sizes plant)) a b long) ∙ h

-- the truth values of a step

module _ (plant : Plant) (h : is_well_formed plant ≡ true) (system : SystemValue) (is : IsSystemOf plant system) where
  pub decoded_values : (truth : List Bool) (vs : List ValId) → AreDecoded system truth vs → are_values (places plant) vs ≡ true
  decoded_values truth vs d =
      let w : IsWholeStep plant d.before d.after d.moves = d.decoded.step plant h is in
      ap (are_values (places plant)) d.are
      ∙ values_joined (sizes plant) (sizes plant) d.before d.after (assignment_values (sizes plant) d.before w.before) (assignment_values (sizes plant) d.after w.after)

  encodes : (a b : List ValId) (ms : List MoveId) (truth : List Bool) → IsWholeStep plant a b ms → IsModelOf plant system a b ms truth → Encodes plant truth a b ms
  encodes a b ms truth w m = record { before = w.before.whole; after = w.after.whole; now = m.now; next = m.next; choice = m.choice }

  module _ (asked : Asked) (front : List ValId) (s : Assumption) (asks : Asks plant asked front s) where
    pub decoded_begins : (truth : List Bool) (vs : List ValId) → AreDecoded system truth vs → holds truth s ≡ true → BeginsSo plant asked front vs
    decoded_begins truth vs d assumed =
        let w : IsWholeStep plant d.before d.after d.moves = d.decoded.step plant h is in
        let m : IsModelOf plant system d.before d.after d.moves truth = d.decoded.encoded plant h is in
        let two =
        and_parts (is_as_asked plant asked d.before d.moves) (has_front front (d.before ++ d.after))
        (sym (asks.says truth d.before d.after d.moves (encodes d.before d.after d.moves truth w m)) ∙ assumed)
        in
        record {
          values = decoded_values truth vs d;
          begins = ap (has_front front) d.are ∙ two.1;
          step =
              ap (are_plant_step plant asked) d.are
              ∙ joined_step plant asked d.before d.after w.before.whole (by_moves plant asked d.before d.after d.moves w.moves w.step two.0);
        }

    begun_solution : (set : ClauseMap) → set ≡ system.set → (vs : List ValId) → BeginsSo plant asked front vs → ((truth : List Bool) → IsSolution set s truth → ⊥) → ⊥
    begun_solution set same vs so none =
        let n : ℕ = length (sizes plant) in
        let a : List ValId = take n vs in
        let b : List ValId = drop n vs in
        let halves = values_halves (sizes plant) (sizes plant) vs so.values in
        let p : IsPlantStep plant asked (record { before = a; after = b }) = plant_step_reads plant asked a b halves.0 halves.1 so.step in
        let m : IsModelOf plant system a b p.moves (encoded plant a b p.moves) = step_has_a_model plant h system is a b p.moves p.step in
        let joined : a ++ b ≡ vs = take-append-drop n vs in
        none (encoded plant a b p.moves)
        (record {
          whole = m.whole ∙ sym (ap (λ (x : ClauseMap). x.bools) same ∙ is.bools);
          satisfied = ap (λ (x : ClauseMap). satisfies (encoded plant a b p.moves) x.slots) same ∙ m.satisfied;
          assumed =
              asks.says (encoded plant a b p.moves) a b p.moves (encodes a b p.moves (encoded plant a b p.moves) p.step m)
              ∙ and_from (is_as_asked plant asked a p.moves) (has_front front (a ++ b))
              (and_from (meets a (now_facts plant asked.facts) && has_modes plant.parts asked.modes a) (are_as_named plant.types plant.parts asked.faults p.moves)
              (and_from (meets a (now_facts plant asked.facts)) (has_modes plant.parts asked.modes a) p.facts p.modes) p.named)
              (ap (has_front front) joined ∙ so.begins);
        })

    pub none_begins : (set : ClauseMap) → set ≡ system.set → Tells set s None → (vs : List ValId) → BeginsSo plant asked front vs → ⊥
    none_begins set same none vs so = begun_solution set same vs so none

    pub found_lead : (set : ClauseMap) (truth : List Bool) (vs : List ValId) → IsSolution set s truth → AreDecoded system truth vs → IsLeadTo plant asked front (record { assumed = s; values = vs })
    found_lead set truth vs solution d = record { asks = asks; begins = decoded_begins truth vs d solution.assumed }

  pub found_can : (s : Assumption) (truth : List Bool) (vs : List ValId) → s.bools ≡ bool_count plant → AreDecoded system truth vs → CanLead plant (record { assumed = s; values = vs })
  found_can s truth vs bools d = record { bools = bools; values = decoded_values truth vs d }
