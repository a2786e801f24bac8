-- What a refuter tells of choices under facts: values exactly where they are possible together.
use Rattle.std.proofs.Common.{◌≡◌, ℕ, suc, ◌+◌, ◌^◌, ◌<◌, ◌≤◌, Bool, true, false, ◌&&◌, nat_eq, nat_lt, List, [], ◌∷◌, ◌++◌, length, map, get_or, slice_index_or, refl, sym, subst, ◌∙◌, ap, ap₂, arith, All}
use Rattle.std.specs.List.{list_all}
use Rattle.std.proofs.lemmas.Bool.{and_parts, and_from, lt-ltb, eqb-true}
use Rattle.std.proofs.lemmas.List.{append_assoc, map-append}
use Rattle.std.proofs.lemmas.List.Elements.{All-head, All-tail, All-cons}
use Rattle.std.proofs.lemmas.List.Folds.{list_all-append}
use Rattle.lv_base.specs.declared.limits.TheConstants.{MODEL_CLAUSES}
use Rattle.lv_base.specs.declared.ids.Lit.{Lit}
use Rattle.lv_base.specs.declared.ids.ValId.{ValId}
use Rattle.lv_base.specs.declared.ids.MoveId.{MoveId}
use Rattle.lv_base.specs.declared.rank.Rank.{Rank}
use Rattle.lv_base.specs.declared.search.Pair.{Pair}
use Rattle.lv_base.specs.Choices.{pairs_from, pairs_of}
use Rattle.lv_system.specs.lv_clauses.Literals.{lit_holds, in_range}
use Rattle.lv_model.specs.declared.plant.Plant.{Plant}
use Rattle.lv_model.specs.Lists.{sizes, move_counts, controls}
use Rattle.lv_model.specs.WellFormed.{is_well_formed}
use Rattle.lv_model.specs.Meaning.{is_step}
use Rattle.lv_meaning.specs.declared.facts.Facts.{Facts}
use Rattle.lv_meaning.specs.Facts.{meets, commanded, now_facts, meets_facts, FactsInRange}
use Rattle.lv_meaning.specs.Possible.{move_number, gives, extends, is_possible}
use Rattle.lv_search_zones.specs.lv_compile.Booleans.{booleans_now, booleans_next, first_choice, bool_count}
use Rattle.lv_search_zones.specs.lv_compile.ModelClauses.{model_clauses}
use Rattle.lv_search_zones.specs.lv_compile.Laws.{literal_is_true, Encode}
use Rattle.lv_system.specs.Numbering.{IsOver}
use Rattle.lv_meaning.specs.PossibleLaws.{are_below}
use Rattle.lv_system.specs.Choices.{Choices}
use Rattle.lv_system.specs.System.{SystemValue, IsSystemOf, IsKept, choices_of}
use Rattle.lv_system.specs.Encoding.{truth_in}
use Rattle.lv_system.specs.Laws.{IsWholeStep, IsModelOf}
use Rattle.lv_system.specs.Decoding.{IsDecoded}
use Rattle.lv_system.proofs.SystemLemmas.{model_is_a_step, choices_fit, kept_of}
use Rattle.lv_cert_laws.specs.lv_cert_meaning.Blocks.{clauses_of}
use Rattle.lv_cert_laws.specs.lv_cert_meaning.Deriving.{Derived, refutes}
use Rattle.lv_cert_laws.proofs.lv_cert_meaning.DerivingLemmas.{refuted_fail}
use Rattle.lv_cert_laws.proofs.lv_cert_meaning.ClauseNumberLemmas.{clauses_are}
use Rattle.lv_ident.specs.Literals.{observed_literals, fact_literals, pair_literals, HasMove, plant_choices, IsPositive}
use Rattle.lv_ident.proofs.MeaningLemmas.{facts_hold, pairs_hold, step_makes_possible}
use Rattle.lv_ident.proofs.ClauseLemmas.{facts_positive}
use Rattle.lv_system.proofs.LiteralLemmas.{choice_in_range}
use Rattle.lv_ident.proofs.ReasonLemmas.{full_is_partial}
use Rattle.lv_cert_writing.specs.declared.derivation.Derivation.{Derivation}
use Rattle.lv_cert_writing.specs.declared.refuter.Refuted.{Refuted}
use Rattle.lv_cert_writing.specs.declared.refuter.Refuted.TheVariants.{Values, Lines}
use Rattle.lv_cert_writing.specs.BlockLines.{derived_of}
use Rattle.lv_cert_writing.specs.Refuting.{MakeTrue, Tells}
use Rattle.lv_cert_laws.specs.lv_cert_meaning.Counting.{is_one_of, are_of}
use Rattle.lv_cert_laws.specs.lv_cert_meaning.Stated.{Stated, observed_literal}
use Rattle.lv_cert_laws.specs.lv_cert_meaning.Units.{units, choice_literal}
use Rattle.lv_cert_laws.proofs.Saying.{Says}
use Rattle.lv_cert_laws.proofs.Blocks.{units_hold, refuted_choices}
use Rattle.lv_cert_writing.specs.Asking.{are_values, are_lines}
use Rattle.lv_cert_writing.specs.Lines.{value_numbers}
use Rattle.lv_cert_writing.proofs.Numbers.{one_of_place}
use Rattle.lv_cert_diagnosis.specs.Showing.{Asked, TellsOf, stated_literals, own_clauses, ShowsStep}
use Rattle.lv_cert_diagnosis.specs.Keeping.{IsAsking}

-- the literals of the facts as identification and as certificates have them
pub same_literals : (plant : Plant) (facts : Facts) → fact_literals plant facts ≡ stated_literals plant facts
same_literals plant facts =
    ap (λ (ls : List Lit). ls ++ observed_literals (booleans_next plant) facts.next)
    (map-append (observed_literal (booleans_now plant)) (commanded (controls plant) facts.controls) facts.present)

-- a literal in range is a clause alone
pub units_over : (bools : ℕ) (ls : List Lit) → list_all (in_range bools) ls ≡ true → All (IsOver bools) (units ls)
units_over bools [] h = λ k d below. absurd (omega (arith, below))
units_over bools (l ∷ ls) h =
    let two = and_parts (in_range bools l) (list_all (in_range bools) ls) h in
    All-cons (IsOver bools) (l ∷ []) (units ls) (record { clause = and_from (in_range bools l && true) true (and_from (in_range bools l) true two.0 refl) refl }) (units_over bools ls two.1)

positive_in_range : (n bools : ℕ) (ls : List Lit) → n ≤ bools → All (IsPositive n) ls → list_all (in_range bools) ls ≡ true
positive_in_range n bools [] few h = refl
positive_in_range n bools (l ∷ ls) few h =
    let below = (All-head (IsPositive n) l ls h).below in
    and_from (in_range bools l) (list_all (in_range bools) ls) (lt-ltb l.var.0 bools (omega (arith, below, few))) (positive_in_range n bools ls few (All-tail (IsPositive n) l ls h))

module _ (plant : Plant) where
  choices_in_range : (pairs : List Pair) → All (HasMove (move_counts plant)) pairs → list_all (in_range (bool_count plant)) (map (choice_literal plant) pairs) ≡ true
  choices_in_range [] have = refl
  choices_in_range (p ∷ ps) have =
      and_from (in_range (bool_count plant) (choice_literal plant p)) (list_all (in_range (bool_count plant)) (map (choice_literal plant) ps))
      (choice_in_range plant true p.slot p.choice (All-head (HasMove (move_counts plant)) p ps have).below) (choices_in_range ps (All-tail (HasMove (move_counts plant)) p ps have))

  pub own_over : (facts : Facts) → FactsInRange plant facts → (pairs : List Pair) → All (HasMove (move_counts plant)) pairs → All (IsOver (bool_count plant)) (own_clauses plant facts pairs)
  own_over facts fit pairs have =
      units_over (bool_count plant) (stated_literals plant facts ++ map (choice_literal plant) pairs)
      (list_all-append (in_range (bool_count plant)) (stated_literals plant facts) (map (choice_literal plant) pairs)
      ∙ and_from (list_all (in_range (bool_count plant)) (stated_literals plant facts)) (list_all (in_range (bool_count plant)) (map (choice_literal plant) pairs))
      (ap (list_all (in_range (bool_count plant))) (sym (same_literals plant facts))
      ∙ positive_in_range (first_choice plant) (bool_count plant) (fact_literals plant facts) (omega arith) (facts_positive plant facts fit))
      (choices_in_range pairs have))

  -- there are few booleans
  pub few_bools : is_well_formed plant ≡ true → bool_count plant ≤ 10 ^ 30
  few_bools h = let few = choices_fit plant h (first_choice plant) refl (move_counts plant) refl in omega (arith, few)

  -- the literals of the facts say what the facts say
  says_facts : (facts : Facts) → FactsInRange plant facts → (s : Stated) → s.facts ≡ facts → s.literals ≡ stated_literals plant facts → Says plant s
  says_facts facts fit s facts_are literals_are = record { holds = holds }
    where
      holds : (truth : ℕ → Bool) (a b : List ValId) → Encode truth (booleans_now plant) a → Encode truth (booleans_next plant) b → meets a (commanded (controls plant) s.facts.controls) ≡ true
          → meets a s.facts.present ≡ true → meets b s.facts.next ≡ true → list_all (literal_is_true truth) s.literals ≡ true
      holds truth a b now next m p n =
          let first : meets a (now_facts plant s.facts) ≡ true =
          list_all-append _ (commanded (controls plant) s.facts.controls) s.facts.present ∙ and_from (meets a (commanded (controls plant) s.facts.controls)) (meets a s.facts.present) m p in
          let met : meets_facts plant facts a b ≡ true = ap (λ (f : Facts). meets_facts plant f a b) (sym facts_are) ∙ and_from (meets a (now_facts plant s.facts)) (meets b s.facts.next) first n in
          ap (list_all (literal_is_true truth)) (literals_are ∙ sym (same_literals plant facts)) ∙ facts_hold truth plant facts a b now next fit ∙ met

module _ (plant : Plant) (h : is_well_formed plant ≡ true) (system : SystemValue) (is : IsSystemOf plant system) (facts : Facts) (fit : FactsInRange plant facts) (pairs : List Pair) (have : All (HasMove (move_counts plant)) pairs) where
  -- lines that refute, over the model's clauses
  pub refuted_there : (ds : List Derived) → refutes system.set.bools (clauses_of system ++ own_clauses plant facts pairs) ds ≡ true
      → refutes (bool_count plant) (model_clauses plant ++ own_clauses plant facts pairs) ds ≡ true
  refuted_there ds told = sym (λ i. refutes (is.bools i) (clauses_are plant system is i ++ own_clauses plant facts pairs) ds) ∙ told

  lines_impossible : (ds : List Derived) → refutes system.set.bools (clauses_of system ++ own_clauses plant facts pairs) ds ≡ true → is_possible plant facts pairs ≡ false
  lines_impossible ds told =
      let s : Stated = record { k = 0; distinct = false; tracked = []; facts = facts; literals = stated_literals plant facts; goals = [] } in
      refuted_choices plant h s (says_facts plant facts fit s refl refl) pairs
      (λ values whole all.
      let never : true ≡ false = sym all ∙ refuted_fail (bool_count plant) values whole (model_clauses plant ++ own_clauses plant facts pairs) ds (refuted_there ds told) in
      cc never)

  module _ (values : List Bool) (true_of : MakeTrue system.set (own_clauses plant facts pairs) values) where
    lits_hold : list_all (lit_holds values) (stated_literals plant facts ++ map (choice_literal plant) pairs) ≡ true
    lits_hold = sym (units_hold values (stated_literals plant facts ++ map (choice_literal plant) pairs)) ∙ true_of.own_hold

    both_hold : (list_all (lit_holds values) (stated_literals plant facts) ≡ true) × (list_all (lit_holds values) (map (choice_literal plant) pairs) ≡ true)
    both_hold =
        and_parts (list_all (lit_holds values) (stated_literals plant facts)) (list_all (lit_holds values) (map (choice_literal plant) pairs))
        (sym (list_all-append (lit_holds values) (stated_literals plant facts) (map (choice_literal plant) pairs)) ∙ lits_hold)

    facts_true : list_all (lit_holds values) (fact_literals plant facts) ≡ true
    facts_true = ap (list_all (lit_holds values)) (same_literals plant facts) ∙ both_hold.0

    values_possible : is_possible plant facts pairs ≡ true
    values_possible = step_makes_possible plant facts pairs fit have values (model_is_a_step plant h system is values true_of.set_holds) both_hold.1 facts_true

-- moves that extend all choices are these choices
given_all : (front ms : List MoveId) (cs : List ℕ) (slot : ℕ) → slot ≡ length front → length ms ≡ length cs → extends (front ++ ms) (pairs_from slot cs) ≡ true → ms ≡ map move_number cs
given_all front [] [] slot at long h = refl
given_all front [] (c ∷ cs) slot at long h = absurd (omega (arith, long))
given_all front (m ∷ ms) [] slot at long h = absurd (omega (arith, long))
given_all front (m ∷ ms) (c ∷ cs) slot at long h =
    let two = and_parts (gives (front ++ m ∷ ms) (record { slot = slot; choice = c })) (extends (front ++ m ∷ ms) (pairs_from (slot + 1) cs)) h in
    let here = and_parts (nat_lt slot (length (front ++ m ∷ ms))) (nat_eq (get_or (front ++ m ∷ ms) slot (record { 0 = 0 })).0 c) two.0 in
    let got : get_or (front ++ m ∷ ms) slot (record { 0 = 0 }) ≡ m = ap (λ n. get_or (front ++ m ∷ ms) n (record { 0 = 0 })) at ∙ seam front in
    let same : m.0 ≡ c = ap (λ (x : MoveId). x.0) (sym got) ∙ eqb-true (get_or (front ++ m ∷ ms) slot (record { 0 = 0 })).0 c here.1 in
    ap₂ (λ (n : ℕ) (xs : List MoveId). record { 0 = n } ∷ xs) same
    (given_all (front ++ m ∷ []) ms cs (slot + 1) (let more = longer front in omega (arith, at, more)) (omega (arith, long)) (ap (λ xs. extends xs (pairs_from (slot + 1) cs)) (append_assoc front (m ∷ []) ms) ∙ two.1))
  where
    seam : (xs : List MoveId) → get_or (xs ++ m ∷ ms) (length xs) (record { 0 = 0 }) ≡ m
    seam [] = refl
    seam (x ∷ xs) = seam xs

    longer : (xs : List MoveId) → length (xs ++ m ∷ []) ≡ length xs + 1
    longer [] = refl
    longer (x ∷ xs) = let rest = longer xs in omega (arith, rest)

-- the numbers of an assignment's values
assigned : (sizes : List ℕ) (a : List ValId) → length a ≡ length sizes → ((x : ℕ) → x < length sizes → (get_or a x (record { 0 = 0 })).0 < slice_index_or sizes x 0) → are_of sizes (value_numbers a) ≡ true
assigned [] [] whole below = refl
assigned [] (v ∷ vs) whole below = absurd (omega (arith, whole))
assigned (n ∷ ns) [] whole below = absurd (omega (arith, whole))
assigned (n ∷ ns) (v ∷ vs) whole below =
    and_from (is_one_of n (v.0 + 1)) (are_of ns (value_numbers vs)) (one_of_place n v.0 (below 0 (omega arith)))
    (assigned ns vs (omega (arith, whole)) (λ x less. below (suc x) (omega (arith, less))))

module _ (plant : Plant) (h : is_well_formed plant ≡ true) (system : SystemValue) (is : IsSystemOf plant system) (facts : Facts) (fit : FactsInRange plant facts) (r : Rank)
    (have : All (HasMove (move_counts plant)) (pairs_of r.choices)) (long : length r.choices ≡ length (move_counts plant)) where
  pub decoded_shows : (values : List Bool) → MakeTrue system.set (own_clauses plant facts (pairs_of r.choices)) values → (a b : List ValId) (ms : List MoveId) → IsDecoded system values a b ms → ShowsStep plant facts r a b
  decoded_shows values true_of a b ms d =
      let step : IsWholeStep plant a b ms = d.step plant h is in
      let code : IsModelOf plant system a b ms values = d.encoded plant h is in
      let chosen = (both_hold plant h system is facts fit (pairs_of r.choices) have values true_of).1 in
      let given : extends ms (pairs_of r.choices) ≡ true = sym (pairs_hold (truth_in values) (plant_choices plant) ms code.choice (pairs_of r.choices) have) ∙ chosen in
      let moves : ms ≡ map move_number r.choices = given_all [] ms r.choices 0 refl (step.moves.whole ∙ sym long) given in
      let met : meets_facts plant facts a b ≡ true = sym (facts_hold (truth_in values) plant facts a b code.now code.next fit) ∙ facts_true plant h system is facts fit (pairs_of r.choices) have values true_of in
      record {
        before_of = assigned (sizes plant) a step.before.whole step.before.in_range;
        after_of = assigned (sizes plant) b step.after.whole step.after.in_range;
        step = and_from (is_step plant a b (map move_number r.choices)) (meets_facts plant facts a b) (ap (is_step plant a b) (sym moves) ∙ step.step) met;
      }

-- the same of what is kept to ask
module _ (v : Asked) (stated : List Lit) (k : IsAsking v.plant v.facts v.system stated) where
  choices_are : choices_of v.system ≡ plant_choices v.plant
  choices_are = λ i. record { first = k.of_plant.first_choice i; counts = k.of_plant.counts i }

  -- the clauses that state facts and choices
  pub own_made : (choices : Choices) → choices ≡ choices_of v.system → (pairs : List Pair) → units (stated ++ pair_literals choices pairs) ≡ own_clauses v.plant v.facts pairs
  own_made choices is pairs = (λ i. units ((k.stated_are ∙ same_literals v.plant v.facts) i ++ pair_literals ((is ∙ choices_are) i) pairs))

  pub moves_there : (choices : Choices) → choices ≡ choices_of v.system → (pairs : List Pair) → All (HasMove (move_counts v.plant)) pairs → All (HasMove choices.counts) pairs
  moves_there choices is pairs have = subst (λ (c : Choices). All (HasMove c.counts) pairs) (sym (is ∙ choices_are)) have

  pub stated_over : (refuter : SystemValue) → refuter ≡ v.system → (own : List (List Lit)) (pairs : List Pair) → own ≡ own_clauses v.plant v.facts pairs → All (HasMove (move_counts v.plant)) pairs → All (IsOver refuter.set.bools) own
  stated_over refuter same own pairs is have =
      let bools : refuter.set.bools ≡ bool_count v.plant = ap (λ (s : SystemValue). s.set.bools) same ∙ k.of_plant.bools in
      subst (λ n. All (IsOver n) own) (sym bools) (subst (All (IsOver (bool_count v.plant))) (sym is) (own_over v.plant v.facts k.fit pairs have))

  pub tells_of : (pairs : List Pair) → All (HasMove (move_counts v.plant)) pairs → (told : Refuted) → Tells v.system (own_clauses v.plant v.facts pairs) told → TellsOf v pairs told
  tells_of pairs have (Values values) tells = (tells, values_possible v.plant k.well_formed v.system k.of_plant v.facts k.fit pairs have values tells)
  tells_of pairs have (Lines lines) tells =
      (refuted_there v.plant k.well_formed v.system k.of_plant v.facts k.fit pairs have (map derived_of lines) tells, lines_impossible v.plant k.well_formed v.system k.of_plant v.facts k.fit pairs have (map derived_of lines) tells)

  pub values_show : (r : Rank) → are_below (move_counts v.plant) r.choices ≡ true → (values : List Bool) → MakeTrue v.system.set (own_clauses v.plant v.facts (pairs_of r.choices)) values
      → (a b : List ValId) (ms : List MoveId) → IsDecoded v.system values a b ms → ShowsStep v.plant v.facts r a b
  values_show r full values true_of a b ms d =
      decoded_shows v.plant k.well_formed v.system k.of_plant v.facts k.fit r (full_is_partial v.plant r.choices full).moves (long (move_counts v.plant) r.choices full) values true_of a b ms d
    where
      long : (ns cs : List ℕ) → are_below ns cs ≡ true → length cs ≡ length ns
      long [] [] h = refl
      long [] (c ∷ cs) h = absurd (cc h)
      long (n ∷ ns) [] h = absurd (cc h)
      long (n ∷ ns) (c ∷ cs) h = ap suc (long ns cs ((and_parts (nat_lt c n) (are_below ns cs) h).1))

-- by whether the choices are possible the one or the other is told
pub possible_told : (v : Asked) (pairs : List Pair) (told : Refuted) → TellsOf v pairs told → is_possible v.plant v.facts pairs ≡ true → are_values told ≡ true
possible_told v pairs (Values values) tells can = refl
possible_told v pairs (Lines lines) tells can = let never : true ≡ false = sym can ∙ tells.1 in absurd (cc never)

pub impossible_told : (v : Asked) (pairs : List Pair) (told : Refuted) → TellsOf v pairs told → is_possible v.plant v.facts pairs ≡ false → are_lines told ≡ true
impossible_told v pairs (Lines lines) tells cannot = refl
impossible_told v pairs (Values values) tells cannot = let never : true ≡ false = sym tells.1 ∙ cannot in absurd (cc never)

pub values_true : (v : Asked) (pairs : List Pair) (told : Refuted) → TellsOf v pairs told → (values : List Bool) → told ≡ Values values → MakeTrue v.system.set (own_clauses v.plant v.facts pairs) values
values_true v pairs told tells values is = (subst (TellsOf v pairs) is tells).0

pub lines_refute : (v : Asked) (pairs : List Pair) (told : Refuted) → TellsOf v pairs told → (lines : List Derivation) → told ≡ Lines lines
    → refutes (bool_count v.plant) (model_clauses v.plant ++ own_clauses v.plant v.facts pairs) (map derived_of lines) ≡ true
lines_refute v pairs told tells lines is = (subst (TellsOf v pairs) is tells).0

-- a list that is few by what it is made of
pub few_model : (plant : Plant) → is_well_formed plant ≡ true → (system : SystemValue) → IsSystemOf plant system → length (model_clauses plant) ≤ MODEL_CLAUSES
few_model plant h system is =
    let kept : IsKept system.set.slots system.ids = kept_of plant h system.set system.ids (model_clauses plant) refl is.numbered in
    subst (λ n. n ≤ MODEL_CLAUSES) is.total kept.few
