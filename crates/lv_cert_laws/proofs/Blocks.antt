-- What a step makes true of the clauses of a block, and so which choices a refuted block excludes.
use Rattle.std.proofs.Common.{◌≡◌, ℕ, ◌<◌, Bool, true, false, ◌&&◌, ◌||◌, nat_eq, nat_lt, List, [], ◌∷◌, ◌++◌, length, slice_index_or, refl, sym, ◌∙◌, ap₂, arith}
use Rattle.std.specs.Prelude.{map}
use Rattle.std.specs.List.{list_all}
use Rattle.std.proofs.lemmas.Bool.{and_parts, and_from, ltb-true, eqb-true, false_from_ne_true}
use Rattle.std.proofs.lemmas.List.Folds.{list_all-append}
use Rattle.lv_cert_meaning.specs.lv_base.declared.ids.Lit.{Lit}
use Rattle.lv_cert_meaning.specs.lv_base.declared.ids.MoveId.{MoveId}
use Rattle.lv_cert_meaning.specs.lv_base.declared.search.Pair.{Pair}
use Rattle.lv_cert_meaning.specs.lv_model.declared.plant.Plant.{Plant}
use Rattle.lv_cert_meaning.specs.lv_model.Lists.{sizes, move_counts, controls}
use Rattle.lv_cert_meaning.specs.lv_model.WellFormed.{is_well_formed}
use Rattle.lv_cert_meaning.specs.lv_model.Meaning.{is_step}
use Rattle.lv_cert_meaning.specs.lv_meaning.Facts.{meets, commanded, meets_facts}
use Rattle.lv_cert_meaning.specs.lv_meaning.Possible.{value, move_number, gives, extends, is_possible}
use Rattle.lv_cert_meaning.specs.lv_meaning.PossibleLaws.{are_below, Witness}
use Rattle.lv_cert_meaning.proofs.lv_meaning.Possibility.{witnessed}
use Rattle.lv_cert_meaning.specs.lv_clauses.Literals.{lit_holds, clause_holds}
use Rattle.lv_cert_meaning.specs.lv_compile.Booleans.{booleans_now, booleans_next, first_choice, bool_count}
use Rattle.lv_cert_meaning.specs.lv_compile.ModelClauses.{model_clauses}
use Rattle.lv_cert_meaning.specs.lv_compile.Laws.{literal_is_true, Encode, EncodeMoves}
use Rattle.lv_cert_meaning.proofs.lv_compile.FormulaLemmas.{as_true}
use Rattle.lv_cert_meaning.proofs.lv_compile.StepLemmas.{step_exact}
use Rattle.lv_cert_meaning.specs.lv_system.Encoding.{truth_in, encoded}
use Rattle.lv_cert_meaning.specs.lv_system.Laws.{IsAssignment, IsFullChoice}
use Rattle.lv_cert_meaning.proofs.lv_system.EncodingLemmas.{length-encoded, encodes_now, encodes_next, encodes_moves}
use Rattle.lv_cert_meaning.proofs.lv_system.RangeLemmas.{assignment_from, full_choice_from}
use Rattle.lv_cert_meaning.specs.Stated.{Stated}
use Rattle.lv_cert_meaning.specs.Units.{units, choice_literal}
use Rattle.lv_cert_laws.proofs.Saying.{Says}

-- a value for each variable before the step and after it and a move for each part, as truth values that make the model's clauses true
pub record IsCoded (plant : Plant) (before after moves : List ℕ) (values : List Bool) : Type 0 where
  pub whole : length values ≡ bool_count plant
  pub now : Encode (truth_in values) (booleans_now plant) (map value before)
  pub next : Encode (truth_in values) (booleans_next plant) (map value after)
  pub choice : EncodeMoves (truth_in values) (first_choice plant) (move_counts plant) (map move_number moves)
  pub model : list_all (clause_holds values) (model_clauses plant) ≡ true

abbrev pub code_of : Plant → List ℕ → List ℕ → List ℕ → List Bool
code_of plant before after moves = encoded plant (map value before) (map value after) (map move_number moves)

pub step_is_coded : (plant : Plant) → is_well_formed plant ≡ true → (before after moves : List ℕ) → are_below (sizes plant) before ≡ true → are_below (sizes plant) after ≡ true
    → are_below (move_counts plant) moves ≡ true → is_step plant (map value before) (map value after) (map move_number moves) ≡ true
    → IsCoded plant before after moves (code_of plant before after moves)
step_is_coded plant h before after moves b a m step =
    record {
      whole = length-encoded plant (map value before) (map value after) (map move_number moves) first second third;
      now = now;
      next = next;
      choice = choice;
      model = step_exact plant h (truth_in (code_of plant before after moves)) (map value before) (map value after) now next (map move_number moves) choice ∙ step;
    }
  where
    first : IsAssignment (sizes plant) (map value before)
    first = assignment_from (sizes plant) before b

    second : IsAssignment (sizes plant) (map value after)
    second = assignment_from (sizes plant) after a

    third : IsFullChoice (move_counts plant) (map move_number moves)
    third = full_choice_from (move_counts plant) moves m

    now : Encode (truth_in (code_of plant before after moves)) (booleans_now plant) (map value before)
    now = encodes_now plant (map value before) (map value after) (map move_number moves) first second third

    next : Encode (truth_in (code_of plant before after moves)) (booleans_next plant) (map value after)
    next = encodes_next plant (map value before) (map value after) (map move_number moves) first second third

    choice : EncodeMoves (truth_in (code_of plant before after moves)) (first_choice plant) (move_counts plant) (map move_number moves)
    choice = encodes_moves plant (map value before) (map value after) (map move_number moves) first second third

-- a literal as a clause
pub units_hold : (values : List Bool) (lits : List Lit) → list_all (clause_holds values) (units lits) ≡ list_all (lit_holds values) lits
units_hold values [] = refl
units_hold values (l ∷ ls) = ap₂ (λ (a b : Bool). a && b) (alone (lit_holds values l)) (units_hold values ls)
  where
    alone : (b : Bool) → (b || false) ≡ b
    alone true = refl
    alone false = refl

-- the literals of choices are true of moves that extend them
pub choices_true : (truth : ℕ → Bool) (plant : Plant) (ms : List MoveId) → EncodeMoves truth (first_choice plant) (move_counts plant) ms → (pairs : List Pair) → extends ms pairs ≡ true
    → list_all (literal_is_true truth) (map (choice_literal plant) pairs) ≡ true
choices_true truth plant ms code [] given = refl
choices_true truth plant ms code (p ∷ ps) given =
    let two = and_parts (gives ms p) (extends ms ps) given in
    let here = and_parts (nat_lt p.slot (length ms)) (nat_eq (slice_index_or ms p.slot (record { 0 = 0 })).0 p.choice) two.0 in
    let long = code.each in
    let within : p.slot < length ms = ltb-true p.slot (length ms) here.0 in
    let there : p.slot < length (move_counts plant) = omega (arith, within, long) in
    let same : (slice_index_or ms p.slot (record { 0 = 0 })).0 ≡ p.choice = eqb-true (slice_index_or ms p.slot (record { 0 = 0 })).0 p.choice here.1 in
    let below = code.in_range p.slot there in
    and_from (literal_is_true truth (choice_literal plant p)) (list_all (literal_is_true truth) (map (choice_literal plant) ps))
    (as_true _ ∙ code.values p.slot p.choice there (omega (arith, same, below)) ∙ here.1) (choices_true truth plant ms code ps two.1)

-- choices that a block refutes together with what is stated are not possible
pub refuted_choices : (plant : Plant) → is_well_formed plant ≡ true → (s : Stated) → Says plant s → (pairs : List Pair)
    → ((values : List Bool) → length values ≡ bool_count plant
    → list_all (clause_holds values) (model_clauses plant ++ units (s.literals ++ map (choice_literal plant) pairs)) ≡ true → ⊥)
    → is_possible plant s.facts pairs ≡ false
refuted_choices plant h s says pairs none = false_from_ne_true (is_possible plant s.facts pairs) (λ can. found (witnessed plant s.facts pairs can))
  where
    found : Witness plant s.facts pairs → ⊥
    found w = none values coded.whole all
      where
        parts : (extends (map move_number w.moves) pairs ≡ true) × (is_step plant (map value w.before) (map value w.after) (map move_number w.moves) && meets_facts plant s.facts (map value w.before) (map value w.after) ≡ true)
        parts = and_parts (extends (map move_number w.moves) pairs) (is_step plant (map value w.before) (map value w.after) (map move_number w.moves) && meets_facts plant s.facts (map value w.before) (map value w.after)) w.step

        rest : (is_step plant (map value w.before) (map value w.after) (map move_number w.moves) ≡ true) × (meets_facts plant s.facts (map value w.before) (map value w.after) ≡ true)
        rest = and_parts (is_step plant (map value w.before) (map value w.after) (map move_number w.moves)) (meets_facts plant s.facts (map value w.before) (map value w.after)) parts.1

        values : List Bool
        values = code_of plant w.before w.after w.moves

        coded : IsCoded plant w.before w.after w.moves values
        coded = step_is_coded plant h w.before w.after w.moves w.before_below w.after_below w.moves_below rest.0

        stated : list_all (lit_holds values) s.literals ≡ true
        stated =
            let met = and_parts (meets (map value w.before) (commanded (controls plant) s.facts.controls ++ s.facts.present)) (meets (map value w.after) s.facts.next) rest.1 in
            let first = and_parts (meets (map value w.before) (commanded (controls plant) s.facts.controls)) (meets (map value w.before) s.facts.present)
            (sym (list_all-append _ (commanded (controls plant) s.facts.controls) s.facts.present) ∙ met.0) in
            says.holds (truth_in values) (map value w.before) (map value w.after) coded.now coded.next first.0 first.1 met.1

        all : list_all (clause_holds values) (model_clauses plant ++ units (s.literals ++ map (choice_literal plant) pairs)) ≡ true
        all =
            list_all-append (clause_holds values) (model_clauses plant) (units (s.literals ++ map (choice_literal plant) pairs))
            ∙ and_from (list_all (clause_holds values) (model_clauses plant)) (list_all (clause_holds values) (units (s.literals ++ map (choice_literal plant) pairs))) coded.model
            (units_hold values (s.literals ++ map (choice_literal plant) pairs)
            ∙ list_all-append (lit_holds values) s.literals (map (choice_literal plant) pairs)
            ∙ and_from (list_all (lit_holds values) s.literals) (list_all (lit_holds values) (map (choice_literal plant) pairs)) stated
            (choices_true (truth_in values) plant (map move_number w.moves) coded.choice pairs parts.0))
