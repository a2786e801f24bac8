-- What good lines leave: things of the plant, and what the definition has.
use Rattle.std.proofs.Common.{◌≡◌, ℕ, zero, suc, ◌+◌, ◌-◌, ◌<◌, ◌≤◌, Bool, true, false, ◌&&◌, nat_lt, nat_le, List, [], ◌∷◌, ◌++◌, length, drop, take, map, slice_get, slice_index_or, Option, Some, None, option_map, Result, IfOk, IfSome, if◌then◌else◌, refl, sym, ap, ap₂, ◌∙◌, subst, arith, All}
use Rattle.std.specs.Option.{option_and_then}
use Rattle.std.specs.List.{flat_map, list_any}
use Rattle.std.specs.Cmp.Lexicographic.{pointwise}
use Rattle.std.proofs.lemmas.Bool.{and_parts, ltb-true}
use Rattle.std.proofs.lemmas.List.{map-append, length-append, take_all}
use Rattle.std.proofs.lemmas.List.Elements.{All-cons, All-append, All-nil}
use Rattle.lv_base.specs.declared.ids.Lit.{Lit}
use Rattle.lv_base.specs.declared.ids.ValId.{ValId}
use Rattle.lv_base.specs.declared.rank.Rank.{Rank}
use Rattle.lv_base.specs.declared.search.Pair.{Pair}
use Rattle.lv_base.specs.declared.limits.TheConstants.{TRACKED}
use Rattle.lv_boxes.specs.Members.{ZoneValue}
use Rattle.lv_base.specs.declared.range.Range.{Range}
use Rattle.lv_base.specs.Fits.{has_value}
use Rattle.lv_model.specs.declared.plant.Plant.{Plant}
use Rattle.lv_model.specs.declared.state.TrackedState.{TrackedState}
use Rattle.lv_model.specs.Lists.{sizes, variable_count, move_counts}
use Rattle.lv_model.specs.Ranges.{plant_ranges}
use Rattle.lv_model.proofs.Sizes.{length-sizes}
use Rattle.lv_model.proofs.Reading.{length-plant_ranges}
use Rattle.lv_meaning.specs.declared.facts.Observation.{Observation}
use Rattle.lv_meaning.specs.Facts.{IsInRange}
use Rattle.lv_meaning.specs.Ranges.{ObservationFits, GoalFits}
use Rattle.lv_meaning.specs.Targets.{are_alike, targets_of_moves}
use Rattle.lv_meaning.specs.lv_boxes.Walk.{none_alike}
use Rattle.lv_meaning.specs.lv_boxes.Groups.{have_same_groups}
use Rattle.lv_meaning.proofs.TargetLemmas.{targets_are_groups}
use Rattle.lv_system.specs.System.{SystemValue}
use Rattle.lv_cert.specs.declared.line.Line.{Line}
use Rattle.lv_cert.specs.declared.line.Evidence.{Evidence}
use Rattle.lv_cert.specs.declared.line.Moment.{Moment}
use Rattle.lv_cert.specs.declared.line.Moment.TheVariants.{Now, Next}
use Rattle.lv_base.specs.Tree.{Tree}
use Rattle.lv_base.specs.Choices.{pairs_of, pairs_from}
use Rattle.lv_cert_laws.specs.lv_cert_meaning.Counting.{is_one_of, at_number, pairs_of_numbers}
use Rattle.lv_cert_laws.specs.lv_cert_meaning.Judging as Judging
use Rattle.lv_cert_laws.specs.lv_cert_meaning.Space.{open_zone}
use Rattle.lv_cert_laws.specs.lv_cert_meaning.Stated.{Stated, with_state}
use Rattle.lv_cert_laws.specs.lv_cert_meaning.Units.{units, choice_literal, nominal_units, goal_clauses}
use Rattle.lv_search_zones.specs.lv_compile.FormulaClauses.{Clauses}
use Rattle.lv_cert_meaning.specs.Blocks.{BlockValue}
use Rattle.lv_meaning.specs.Commands.{control_sizes, is_command_set}
use Rattle.lv_cert_meaning.specs.Fitting.{IsStateOf, HasFewChoices, IsPairOf}
use Rattle.lv_certcheck.specs.declared.judged.Judged.{Judged}
use Rattle.lv_certcheck.specs.Giving.{Fits, IsWhole, with_clauses}
use Rattle.lv_certcheck.specs.Stating.{observed}
use Rattle.lv_certcheck.specs.Splits.{split_into}
use Rattle.lv_certcheck.specs.Verdicts.{judged_of, came}

-- values of all variables
pub whole_of : (plant : Plant) (values : List ValId) (counts kept : List ℕ) → length values ≡ length counts → counts ≡ kept → kept ≡ sizes plant → IsWhole plant values
whole_of plant values counts kept count same is = record { len = count ∙ ap length (same ∙ is) ∙ length-sizes plant }

pub fits_before : (plant : Plant) (system : SystemValue) (j : Judged) (a : List ValId) → Fits plant system j → IsWhole plant a → Fits plant system (record j { before = Some a })
fits_before plant system j a f whole =
    record { block_is = f.block_is; few = f.few; states = f.states; present = f.present; next = f.next; goals = f.goals; listed = f.listed; before = whole }

-- a state more
fits_one_state : (plant : Plant) (system : SystemValue) (j : Judged) (s : TrackedState) → Fits plant system j → length j.stated.tracked < TRACKED → IsStateOf plant s → Fits plant system (record j { stated = with_state j.stated s })
fits_one_state plant system j s f few is =
    let len = length-append j.stated.tracked (s ∷ []) in
    record {
      block_is = f.block_is;
      few = omega (arith, few, len);
      states = All-append (IsStateOf plant) j.stated.tracked (s ∷ []) f.states (All-cons (IsStateOf plant) s [] is (All-nil (IsStateOf plant)));
      present = f.present;
      next = f.next;
      goals = f.goals;
      listed = f.listed;
      before = f.before;
    }

pub fits_state : (plant : Plant) (system : SystemValue) (j : Judged) (s : TrackedState) (st : Stated) → Fits plant system j → length j.stated.tracked < TRACKED → IsStateOf plant s → st ≡ with_state j.stated s
    → Fits plant system (record j { stated = st })
fits_state plant system j s st f few is same = subst (λ (x : Stated). Fits plant system (record j { stated = x })) (sym same) (fits_one_state plant system j s f few is)

-- a variable with a value is one of the plant's
has_variable : (ranges : List Range) (x v : ℕ) → has_value ranges x v ≡ true → x < length ranges
has_variable [] x v h = absurd (cc h)
has_variable (r ∷ rs) zero v h = omega arith
has_variable (r ∷ rs) (suc x) v h = let rest = has_variable rs x v h in omega (arith, rest)

in_range : (plant : Plant) (o : Observation) → ObservationFits plant o → IsInRange (variable_count plant) o
in_range plant o fits =
    let has = has_variable (plant_ranges plant) o.var.0 o.val.0 fits.value in
    let count = length-plant_ranges plant in
    record { below = omega (arith, has, count) }

one_in_range : (plant : Plant) (os : List Observation) (o : Observation) → ObservationFits plant o → All (IsInRange (variable_count plant)) os → All (IsInRange (variable_count plant)) (os ++ o ∷ [])
one_in_range plant os o fits all =
    All-append (IsInRange (variable_count plant)) os (o ∷ []) all (All-cons (IsInRange (variable_count plant)) o [] (in_range plant o fits) (All-nil (IsInRange (variable_count plant))))

fits_seen : (plant : Plant) (system : SystemValue) (j : Judged) (m : Moment) (o : Observation) (l : Lit) → Fits plant system j → ObservationFits plant o → Fits plant system (record j { stated = observed m j.stated o l })
fits_seen plant system j Now o l f is =
    record { block_is = f.block_is; few = f.few; states = f.states; present = one_in_range plant j.stated.facts.present o is f.present; next = f.next; goals = f.goals; listed = f.listed; before = f.before }
fits_seen plant system j Next o l f is =
    record { block_is = f.block_is; few = f.few; states = f.states; present = f.present; next = one_in_range plant j.stated.facts.next o is f.next; goals = f.goals; listed = f.listed; before = f.before }

-- an observation more
pub fits_observed : (plant : Plant) (system : SystemValue) (j : Judged) (m : Moment) (o : Observation) (l : Lit) (st : Stated) → Fits plant system j → ObservationFits plant o → st ≡ observed m j.stated o l
    → Fits plant system (record j { stated = st })
fits_observed plant system j m o l st f is same = subst (λ (x : Stated). Fits plant system (record j { stated = x })) (sym same) (fits_seen plant system j m o l f is)

-- what holds for every open zone holds where there is one
by_zone : (P : Option ZoneValue → Type 0) (o : Option ZoneValue) (s : ℕ) → option_map (λ (zone : ZoneValue). zone.source) o ≡ Some s → ((zone : ZoneValue) → o ≡ Some zone → zone.source ≡ s → P (Some zone)) → P o
by_zone P None s h told = absurd (cc h)
by_zone P (Some zone) s h told = told zone refl (cc h)

-- a zone split by the choices of an evidence, told for each open zone
pub split_told : {E : Type 0} (plant : Plant) (old new : Judged) (n : ℕ) (by kind : Evidence) (s : ℕ) (r : Result Bool E) → by ≡ kind → option_map (λ (zone : ZoneValue). zone.source) (open_zone old.space n) ≡ Some s
    → ((zone : ZoneValue) → open_zone old.space n ≡ Some zone → zone.source ≡ s
    → IfOk r (λ (good : Bool). came good new ≡ split_into (judged_of old) n (Judging.split_parts plant (judged_of old) zone kind)))
    → IfOk r (λ (good : Bool). came good new ≡ Judging.judge_split plant (judged_of old) n by)
split_told plant old new n by kind s r same source told =
    subst (λ (e : Evidence). IfOk r (λ (good : Bool). came good new ≡ Judging.judge_split plant (judged_of old) n e)) (sym same)
    (by_zone (λ (o : Option ZoneValue). IfOk r (λ (good : Bool). came good new ≡ option_and_then (λ (zone : ZoneValue). split_into (judged_of old) n (Judging.split_parts plant (judged_of old) zone kind)) o)) (open_zone old.space n) s source told)

-- a conflict that rests on a block that ends empty
conflict_opens : (j : Judging.Judged) (pairs : List Pair) (own : Clauses) (rest : List Line) → Judging.ends_empty rest ≡ true → Judging.with_conflict j pairs own rest ≡ Some (record j { excluded = j.excluded ++ pairs ∷ []; own = own })
conflict_opens j pairs own rest empty = ap (λ (b : Bool). if b then Some (record j { excluded = j.excluded ++ pairs ∷ []; own = own }) else None) empty

conflict_fails : (j : Judging.Judged) (pairs : List Pair) (own : Clauses) (rest : List Line) → Judging.ends_empty rest ≡ false → Judging.with_conflict j pairs own rest ≡ None
conflict_fails j pairs own rest open_end = ap (λ (b : Bool). if b then Some (record j { excluded = j.excluded ++ pairs ∷ []; own = own }) else None) open_end

pub pairs_found : (found : Option (List Pair)) (counts kept wanted ns : List ℕ) → found ≡ pairs_of_numbers counts ns → counts ≡ kept → kept ≡ wanted → found ≡ pairs_of_numbers wanted ns
pairs_found found counts kept wanted ns is same are = is ∙ ap (λ (cs : List ℕ). pairs_of_numbers cs ns) (same ∙ are)

pub no_choices : (plant : Plant) (j : Judging.Judged) (ns : List ℕ) (rest : List Line) (found : Option (List Pair)) → found ≡ None → found ≡ pairs_of_numbers (move_counts plant) ns → None ≡ Judging.choices_refuted plant j ns rest
no_choices plant j ns rest found is are =
    ap (option_and_then (λ (pairs : List Pair). Judging.with_conflict j pairs (Judging.clauses_of_choices plant j pairs) rest)) (sym is ∙ are)

pub choices_unended : (plant : Plant) (j : Judging.Judged) (ns : List ℕ) (rest : List Line) (found : Option (List Pair)) (pairs : List Pair) → found ≡ Some pairs → found ≡ pairs_of_numbers (move_counts plant) ns → Judging.ends_empty rest ≡ false
    → None ≡ Judging.choices_refuted plant j ns rest
choices_unended plant j ns rest found pairs is are open_end =
    sym (conflict_fails j pairs (Judging.clauses_of_choices plant j pairs) rest open_end)
    ∙ ap (option_and_then (λ (ps : List Pair). Judging.with_conflict j ps (Judging.clauses_of_choices plant j ps) rest)) (sym is ∙ are)

-- what is stated and the choices, one after the other
own_of_choices : (plant : Plant) (system : SystemValue) (b1 b2 b3 : BlockValue) (lits : List Lit) (pairs : List Pair) → b1 ≡ record { system = system; own = [] } → b2 ≡ with_clauses b1 (units lits)
    → b3 ≡ with_clauses b2 (units (map (choice_literal plant) pairs)) → b3.own ≡ units (lits ++ map (choice_literal plant) pairs)
own_of_choices plant system b1 b2 b3 lits pairs e1 e2 e3 =
    let own : BlockValue → Clauses = λ (b : BlockValue). b.own in
    let stated : b2.own ≡ units lits = ap own e2 ∙ ap (λ (cs : Clauses). cs ++ units lits) (ap own e1) in
    ap own e3 ∙ ap (λ (cs : Clauses). cs ++ units (map (choice_literal plant) pairs)) stated ∙ sym (map-append (λ (l : Lit). l ∷ []) lits (map (choice_literal plant) pairs))

-- what was judged with another block and a conflict more
same_but : (shown old : Judged) (excluded wanted : List (List Pair)) (own given : Clauses) → shown ≡ old → excluded ≡ wanted → own ≡ given
    → Some (record (judged_of shown) { excluded = excluded; own = own }) ≡ Some (record (judged_of old) { excluded = wanted; own = given })
same_but shown old excluded wanted own given e f g =
    ap (λ (x : Judged). Some (record (judged_of x) { excluded = excluded; own = own })) e
    ∙ ap₂ (λ (xs : List (List Pair)) (cs : Clauses). Some (record (judged_of old) { excluded = xs; own = cs })) f g

excluded_one : (shown old : Judged) (items : List (List Pair)) (p pairs : List Pair) → shown ≡ old → items ≡ shown.excluded.items ++ p ∷ [] → p ≡ pairs → items ≡ old.excluded.items ++ pairs ∷ []
excluded_one shown old items p pairs e is same = is ∙ ap₂ (λ (x : Judged) (q : List Pair). x.excluded.items ++ q ∷ []) e same

pub choices_opened : (plant : Plant) (old : Judged) {shown : Judged} (ns : List ℕ) (rest : List Line) (found : Option (List Pair)) (pairs : List Pair) (lits : List Lit) (given : List Pair) {pushed : List Pair} (items : List (List Pair))
    {system : SystemValue} (b1 b2 b3 : BlockValue)
    → shown ≡ old → found ≡ Some pairs → found ≡ pairs_of_numbers (move_counts plant) ns → Judging.ends_empty rest ≡ true
    → lits ≡ shown.stated.literals → given ≡ pairs
    → b1 ≡ record { system = system; own = [] } → b2 ≡ with_clauses b1 (units lits) → b3 ≡ with_clauses b2 (units (map (choice_literal plant) given))
    → items ≡ shown.excluded.items ++ pushed ∷ [] → pushed ≡ pairs
    → Some (record (judged_of shown) { excluded = items; own = b3.own }) ≡ Judging.choices_refuted plant (judged_of old) ns rest
choices_opened plant old {shown} ns rest found pairs lits given {pushed} items {system} b1 b2 b3 e is are empty lits_are same e1 e2 e3 more pushed_is =
    let stated : lits ≡ old.stated.literals = lits_are ∙ ap (λ (x : Judged). x.stated.literals) e in
    let own : b3.own ≡ Judging.clauses_of_choices plant (judged_of old) pairs =
    own_of_choices plant system b1 b2 b3 lits given e1 e2 e3 ∙ ap₂ (λ (ls : List Lit) (ps : List Pair). units (ls ++ map (choice_literal plant) ps)) stated same in
    same_but shown old items (old.excluded.items ++ pairs ∷ []) b3.own (Judging.clauses_of_choices plant (judged_of old) pairs) e (excluded_one shown old items pushed pairs e more pushed_is) own
    ∙ sym (conflict_opens (judged_of old) pairs (Judging.clauses_of_choices plant (judged_of old) pairs) rest empty)
    ∙ ap (option_and_then (λ (ps : List Pair). Judging.with_conflict (judged_of old) ps (Judging.clauses_of_choices plant (judged_of old) ps) rest)) (sym is ∙ are)

get_at : {X : Type 0} (xs : List X) (k : ℕ) (d : X) → k < length xs → slice_get xs k ≡ Some (slice_index_or xs k d)
get_at [] k d below = absurd (omega (arith, below))
get_at (x ∷ xs) zero d below = refl
get_at (x ∷ xs) (suc k) d below = get_at xs k d (omega (arith, below))

-- the thing of a number, by its place
pub at_place : {X : Type 0} (xs : List X) (d : X) (s place count : ℕ) (found : Option ℕ) → found ≡ (if is_one_of count s then Some (s - 1) else None) → found ≡ Some place → place < count → count ≡ length xs → at_number xs s ≡ Some (slice_index_or xs place d)
at_place {X} xs d s place count found are is below same = by_value (nat_lt 0 s) (nat_le s count) (sym is ∙ are)
  where
    by_value : (a b : Bool) → Some place ≡ (if a && b then Some (s - 1) else None) → (if a then slice_get xs (s - 1) else None) ≡ Some (slice_index_or xs place d)
    by_value true true e =
        let here : place ≡ s - 1 = cc e in
        subst (λ (k : ℕ). slice_get xs k ≡ Some (slice_index_or xs place d)) here (get_at xs place d (omega (arith, below, same)))
    by_value true false e = absurd (cc e)
    by_value false b e = absurd (cc e)

-- all numbers but the first
but_first : (ns : List ℕ) → take (length ns - 1) (drop 1 ns) ≡ drop 1 ns
but_first [] = refl
but_first (n ∷ ns) = let count : suc (length ns) - 1 ≡ length ns = omega arith in ap (λ (k : ℕ). take k ns) count ∙ take_all (length ns) ns (omega arith)

pub pairs_behind : (found : Option (List Pair)) (counts kept wanted ns : List ℕ) → found ≡ pairs_of_numbers counts (take (length ns - 1) (drop 1 ns)) → counts ≡ kept → kept ≡ wanted → found ≡ pairs_of_numbers wanted (drop 1 ns)
pairs_behind found counts kept wanted ns is same are = is ∙ ap₂ pairs_of_numbers (same ∙ are) (but_first ns)

-- no values of a conflict, whatever the state
never_refuted : (plant : Plant) (j : Judging.Judged) (ns : List ℕ) (rest : List Line) (o : Option TrackedState) → None ≡ pairs_of_numbers (control_sizes plant) ns → None ≡ option_and_then (Judging.values_refuted plant j ns rest) o
never_refuted plant j ns rest None e = refl
never_refuted plant j ns rest (Some s) e = ap (option_and_then (λ (ps : List Pair). Judging.with_conflict j ps (Judging.clauses_of_goals plant j ps s) rest)) e

pub no_values : (plant : Plant) (j : Judging.Judged) (ns : List ℕ) (rest : List Line) (found : Option (List Pair)) → 1 ≤ length ns → found ≡ None → found ≡ pairs_of_numbers (control_sizes plant) (drop 1 ns) → None ≡ Judging.goals_refuted plant j ns rest
no_values plant j [] rest found some is are = absurd (omega (arith, some))
no_values plant j (s ∷ ns) rest found some is are = never_refuted plant j ns rest (at_number j.stated.tracked s) (sym is ∙ are)

-- a conflict of a state's values opens its block
goals_opened_at : (plant : Plant) (j : Judging.Judged) (s : ℕ) (ns : List ℕ) (rest : List Line) (state : TrackedState) (pairs : List Pair) → at_number j.stated.tracked s ≡ Some state → pairs_of_numbers (control_sizes plant) ns ≡ Some pairs
    → Judging.ends_empty rest ≡ true → Judging.goals_refuted plant j (s ∷ ns) rest ≡ Some (record j { excluded = j.excluded ++ pairs ∷ []; own = Judging.clauses_of_goals plant j pairs state })
goals_opened_at plant j s ns rest state pairs at are empty =
    ap (option_and_then (Judging.values_refuted plant j ns rest)) at
    ∙ ap (option_and_then (λ (ps : List Pair). Judging.with_conflict j ps (Judging.clauses_of_goals plant j ps state) rest)) are
    ∙ conflict_opens j pairs (Judging.clauses_of_goals plant j pairs state) rest empty

goals_opened_in : (plant : Plant) (j : Judging.Judged) (d : ℕ) (ns : List ℕ) (rest : List Line) (state : TrackedState) (pairs : List Pair) → 1 ≤ length ns → at_number j.stated.tracked (slice_index_or ns 0 d) ≡ Some state
    → pairs_of_numbers (control_sizes plant) (drop 1 ns) ≡ Some pairs → Judging.ends_empty rest ≡ true → Judging.goals_refuted plant j ns rest ≡ Some (record j { excluded = j.excluded ++ pairs ∷ []; own = Judging.clauses_of_goals plant j pairs state })
goals_opened_in plant j d [] rest state pairs some at are empty = absurd (omega (arith, some))
goals_opened_in plant j d (s ∷ ns) rest state pairs some at are empty = goals_opened_at plant j s ns rest state pairs at are empty

-- what was judged with another block
abbrev pub with_own : Judged → Clauses → Judged
with_own j own = record j { block = record { system = j.block.system; own = own } }

pub goals_opened : (plant : Plant) (old new : Judged) {shown : Judged} (d : ℕ) (state : TrackedState) (ns : List ℕ) (rest : List Line) (found : Option (List Pair)) (pairs given : List Pair) (goals : List Tree) {pushed : List Pair} (items : List (List Pair))
    (own : Clauses) (block : BlockValue)
    → shown ≡ new → new ≡ with_own old own → own ≡ nominal_units plant state.state.modes old.stated.literals given
    → 1 ≤ length ns → at_number old.stated.tracked (slice_index_or ns 0 d) ≡ Some state
    → found ≡ Some pairs → found ≡ pairs_of_numbers (control_sizes plant) (drop 1 ns) → Judging.ends_empty rest ≡ true
    → given ≡ pairs → goals ≡ shown.stated.goals
    → block ≡ with_clauses shown.block (flat_map (goal_clauses plant true) goals)
    → items ≡ shown.excluded.items ++ pushed ∷ [] → pushed ≡ pairs
    → Some (record (judged_of shown) { excluded = items; own = block.own }) ≡ Judging.goals_refuted plant (judged_of old) ns rest
goals_opened plant old new {shown} d state ns rest found pairs given goals {pushed} items own block shown_is new_is own_is some at is are empty same goals_are block_is more pushed_is =
    let e : shown ≡ with_own old own = shown_is ∙ new_is in
    let aims : goals ≡ old.stated.goals = goals_are ∙ ap (λ (x : Judged). x.stated.goals) e in
    let steps : shown.block.own ≡ nominal_units plant state.state.modes old.stated.literals pairs =
    ap (λ (x : Judged). x.block.own) e ∙ own_is ∙ ap (λ (ps : List Pair). nominal_units plant state.state.modes old.stated.literals ps) same in
    let whole : block.own ≡ Judging.clauses_of_goals plant (judged_of old) pairs state =
    ap (λ (b : BlockValue). b.own) block_is ∙ ap₂ (λ (cs : Clauses) (gs : List Tree). cs ++ flat_map (goal_clauses plant true) gs) steps aims in
    same_but shown (with_own old own) items (old.excluded.items ++ pairs ∷ []) block.own (Judging.clauses_of_goals plant (judged_of old) pairs state) e (excluded_one shown (with_own old own) items pushed pairs e more pushed_is) whole
    ∙ sym (goals_opened_in plant (judged_of old) d ns rest state pairs some at (sym are ∙ is) empty)

-- what is judged is fit with another block of the system, and more that is excluded
pub fits_opened : (plant : Plant) (system : SystemValue) (old new : Judged) {shown : Judged} (own more : Clauses) (block : BlockValue) → Fits plant system old → shown ≡ new → new ≡ with_own old own → block ≡ with_clauses shown.block more
    → Fits plant system (record shown { block = block })
fits_opened plant system old new {shown} own more block f shown_is new_is block_is =
    let e : shown ≡ with_own old own = shown_is ∙ new_is in
    let kept : block.system ≡ system = ap (λ (b : BlockValue). b.system) block_is ∙ ap (λ (x : Judged). x.block.system) e ∙ f.block_is in
    subst (λ (x : Judged). Fits plant system (record x { block = block })) (sym e)
    (record { block_is = kept; few = f.few; states = f.states; present = f.present; next = f.next; goals = f.goals; listed = f.listed; before = f.before })

-- what is excluded doesn't matter there
pub fits_excluded : (plant : Plant) (system : SystemValue) (j k : Judged) → Fits plant system j → j.block ≡ k.block → j.stated ≡ k.stated → j.listed ≡ k.listed → j.before ≡ k.before → Fits plant system k
fits_excluded plant system j k f block stated listed before =
    record {
      block_is = sym (ap (λ (b : BlockValue). b.system) block) ∙ f.block_is;
      few = subst (λ (s : Stated). length s.tracked ≤ TRACKED) stated f.few;
      states = subst (λ (s : Stated). All (IsStateOf plant) s.tracked) stated f.states;
      present = subst (λ (s : Stated). All (IsInRange (variable_count plant)) s.facts.present) stated f.present;
      next = subst (λ (s : Stated). All (IsInRange (variable_count plant)) s.facts.next) stated f.next;
      goals = subst (λ (s : Stated). All (GoalFits plant) s.goals) stated f.goals;
      listed = subst (λ ls. All HasFewChoices ls.items) listed f.listed;
      before = subst (λ b. IfSome b (IsWhole plant)) before f.before;
    }

-- the goals of what is judged are fit
pub goals_fit : (plant : Plant) (system : SystemValue) (old new : Judged) {shown : Judged} (own : Clauses) (goals : List Tree) → Fits plant system old → shown ≡ new → new ≡ with_own old own → goals ≡ shown.stated.goals → All (GoalFits plant) goals
goals_fit plant system old new {shown} own goals f shown_is new_is are = subst (λ (gs : List Tree). All (GoalFits plant) gs) (sym (are ∙ ap (λ (x : Judged). x.stated.goals) (shown_is ∙ new_is))) f.goals

pairs_fit : (whole sizes us : List ℕ) (k : ℕ) → pointwise nat_lt us sizes ≡ true → k + length sizes ≡ length whole → ((i : ℕ) → slice_index_or whole (k + i) 0 ≡ slice_index_or sizes i 0) → All (IsPairOf whole) (pairs_from k us)
pairs_fit whole sizes [] k h len at = All-nil (IsPairOf whole)
pairs_fit whole [] (u ∷ us) k h len at = absurd (cc h)
pairs_fit whole (n ∷ ns) (u ∷ us) k h len at =
    let two = and_parts (nat_lt u n) (pointwise nat_lt us ns) h in
    let below : u < n = ltb-true u n two.0 in
    let none : k + 0 ≡ k = omega arith in
    let here : slice_index_or whole k 0 ≡ n = subst (λ (p : ℕ). slice_index_or whole p 0 ≡ n) none (at 0) in
    All-cons (IsPairOf whole) (record { slot = k; choice = u }) (pairs_from (k + 1) us)
    (record { slot = omega (arith, len); choice = subst (λ (m : ℕ). u < m) (sym here) below })
    (pairs_fit whole ns us (k + 1) two.1 (omega (arith, len))
    (λ i. let on : k + suc i ≡ k + 1 + i = omega arith in subst (λ (p : ℕ). slice_index_or whole p 0 ≡ slice_index_or ns i 0) on (at (suc i))))

-- all values of a command set as pairs
pub pairs_of_values : (sizes us : List ℕ) (given : List Pair) → given ≡ pairs_of us → pointwise nat_lt us sizes ≡ true → All (IsPairOf sizes) given
pairs_of_values sizes us given are below =
    subst (λ (ps : List Pair). All (IsPairOf sizes) ps) (sym are)
    (pairs_fit sizes sizes us 0 below (omega arith) (λ i. let on : 0 + i ≡ i = omega arith in ap (λ (p : ℕ). slice_index_or sizes p 0) on))

-- values that were found below the counts
pub below_counts : (values asked counts kept sizes : List ℕ) (r : Bool) → asked ≡ values → counts ≡ kept → kept ≡ sizes → r ≡ pointwise nat_lt asked counts → r ≡ true → pointwise nat_lt values sizes ≡ true
below_counts values asked counts kept sizes r same are is told so = sym (ap₂ (pointwise nat_lt) same (are ∙ is)) ∙ sym told ∙ so

-- the proof of a goal opens its block
proof_opened_at : (plant : Plant) (j : Judging.Judged) (s g : ℕ) (rest : List Line) (state : TrackedState) (goal : Tree) → at_number j.stated.tracked s ≡ Some state → at_number j.stated.goals g ≡ Some goal
    → is_command_set plant (Judging.answer_values j) ≡ true → Judging.ends_empty rest ≡ true → Judging.judge_proof plant j (s ∷ (g ∷ [])) rest ≡ Some (record j { own = Judging.clauses_of_miss plant j goal state })
proof_opened_at plant j s g rest state goal at of below empty =
    ap (option_and_then (λ (f : Tree). option_and_then (Judging.with_proof plant j f rest) (at_number j.stated.tracked s))) of
    ∙ ap (option_and_then (Judging.with_proof plant j goal rest)) at
    ∙ ap₂ (λ (a b : Bool). if a && b then Some (record j { own = Judging.clauses_of_miss plant j goal state }) else None) below empty

proof_opened_in : (plant : Plant) (j : Judging.Judged) (d e : ℕ) (ns : List ℕ) (rest : List Line) (state : TrackedState) (goal : Tree) → 2 ≤ length ns → length ns < 3 → at_number j.stated.tracked (slice_index_or ns 0 d) ≡ Some state
    → at_number j.stated.goals (slice_index_or ns 1 e) ≡ Some goal → is_command_set plant (Judging.answer_values j) ≡ true → Judging.ends_empty rest ≡ true
    → Judging.judge_proof plant j ns rest ≡ Some (record j { own = Judging.clauses_of_miss plant j goal state })
proof_opened_in plant j d e [] rest state goal some few at of below empty = absurd (omega (arith, some))
proof_opened_in plant j d e (s ∷ []) rest state goal some few at of below empty = absurd (omega (arith, some))
proof_opened_in plant j d e (s ∷ (g ∷ [])) rest state goal some few at of below empty = proof_opened_at plant j s g rest state goal at of below empty
proof_opened_in plant j d e (s ∷ (g ∷ (n ∷ ns))) rest state goal some few at of below empty = absurd (omega (arith, few))

pub proof_opened : (plant : Plant) (old new : Judged) {shown : Judged} (d e : ℕ) (state : TrackedState) (goal missed : Tree) (ns : List ℕ) (rest : List Line) (values : List ℕ) (given : List Pair) (own : Clauses) (block : BlockValue)
    → shown ≡ new → new ≡ with_own old own → own ≡ nominal_units plant state.state.modes old.stated.literals given
    → 2 ≤ length ns → length ns < 3 → at_number old.stated.tracked (slice_index_or ns 0 d) ≡ Some state → at_number old.stated.goals (slice_index_or ns 1 e) ≡ Some goal
    → values ≡ Judging.answer_values (judged_of old) → given ≡ pairs_of values → pointwise nat_lt values (control_sizes plant) ≡ true → Judging.ends_empty rest ≡ true
    → block ≡ with_clauses shown.block (goal_clauses plant false missed) → missed ≡ goal
    → Some (record (judged_of shown) { own = block.own }) ≡ Judging.judge_proof plant (judged_of old) ns rest
proof_opened plant old new {shown} d e state goal missed ns rest values given own block shown_is new_is own_is some few at of values_are given_are below empty block_is goal_is =
    let s : shown ≡ with_own old own = shown_is ∙ new_is in
    let choices : given ≡ pairs_of (Judging.answer_values (judged_of old)) = given_are ∙ ap pairs_of values_are in
    let set : is_command_set plant (Judging.answer_values (judged_of old)) ≡ true = subst (λ (us : List ℕ). pointwise nat_lt us (control_sizes plant) ≡ true) values_are below in
    let steps : shown.block.own ≡ nominal_units plant state.state.modes old.stated.literals (pairs_of (Judging.answer_values (judged_of old))) =
    ap (λ (x : Judged). x.block.own) s ∙ own_is ∙ ap (λ (ps : List Pair). nominal_units plant state.state.modes old.stated.literals ps) choices in
    let whole : block.own ≡ Judging.clauses_of_miss plant (judged_of old) goal state =
    ap (λ (b : BlockValue). b.own) block_is ∙ ap₂ (λ (cs : Clauses) (f : Tree). cs ++ goal_clauses plant false f) steps goal_is in
    ap₂ (λ (x : Judged) (cs : Clauses). Some (record (judged_of x) { own = cs })) s whole
    ∙ sym (proof_opened_in plant (judged_of old) d e ns rest state goal some few at of set empty)

-- a goal of what is judged, at its place
pub goal_there : (plant : Plant) (system : SystemValue) (old new : Judged) {shown : Judged} (own : Clauses) (k : ℕ) (goal : Tree) → Fits plant system old → shown ≡ new → new ≡ with_own old own
    → goal ≡ slice_index_or shown.stated.goals k goal → k < length old.stated.goals → GoalFits plant goal
goal_there plant system old new {shown} own k goal f shown_is new_is is below =
    let here : goal ≡ slice_index_or old.stated.goals k goal = is ∙ ap (λ (x : Judged). slice_index_or x.stated.goals k goal) (shown_is ∙ new_is) in
    subst (λ (g : Tree). GoalFits plant g) (sym here) (f.goals k goal below)

pub goal_at : (old new : Judged) {shown : Judged} (own : Clauses) (k : ℕ) (goal : Tree) → shown ≡ new → new ≡ with_own old own → goal ≡ slice_index_or shown.stated.goals k goal → goal ≡ slice_index_or old.stated.goals k goal
goal_at old new {shown} own k goal shown_is new_is is = is ∙ ap (λ (x : Judged). slice_index_or x.stated.goals k goal) (shown_is ∙ new_is)

-- where distinct targets are asked for, a candidate leads to the state of a listed one where its moves have the same targets
pub old_target : (plant : Plant) (targets : List (List ℕ)) (distinct : Bool) (r : Rank) (given listed : List Rank) → distinct ≡ true → targets ≡ targets_of_moves plant → given ≡ listed
    → list_any (λ (other : Rank). have_same_groups targets r.choices other.choices) given ≡ list_any (are_alike distinct plant r) listed
old_target plant targets distinct r given listed asked is are =
    ap₂ (λ (gs : List (List ℕ)) (qs : List Rank). list_any (λ (other : Rank). have_same_groups gs r.choices other.choices) qs) is are
    ∙ (λ i. list_any (λ (other : Rank). sym (targets_are_groups plant r other) i) listed)
    ∙ ap (λ (d : Bool). list_any (are_alike d plant r) listed) (sym asked)

-- and where they aren't, to none
pub no_old_target : (plant : Plant) (distinct : Bool) (r : Rank) (listed : List Rank) → distinct ≡ false → false ≡ list_any (are_alike distinct plant r) listed
no_old_target plant distinct r listed unasked = sym (ap (λ (d : Bool). list_any (are_alike d plant r) listed) unasked ∙ none listed)
  where
    none : (qs : List Rank) → list_any (none_alike r) qs ≡ false
    none [] = refl
    none (q ∷ qs) = none qs
