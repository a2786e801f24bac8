-- What a statement adds to a type that has not ended is known to fit.
use Rattle.std.proofs.Common.{◌≡◌, ◌<◌, ◌≤◌, ℕ, zero, suc, Bool, true, false, not, ◌&&◌, ◌||◌, nat_eq, nat_lt, nat_le, ◌+◌, List, [], ◌∷◌, length, map, position, Option, Some, None, Result, Ok, Err, if◌then◌else◌, refl, sym, ap, subst, ◌∙◌, arith}
use Rattle.std.specs.List.{list_all}
use Rattle.std.specs.Option.{option_map_or}
use Rattle.std.proofs.lemmas.Bool.{and_from, and_parts, lt-ltb, le-leb, ltb-true, ltb-false, eqb-false, or_parts, not-false}
use Rattle.std.proofs.lemmas.List.Quantifiers.{position-Some}
use Rattle.lv_base.specs.declared.limits.TheConstants.{MODES, MOVES, NAME_BYTES, LEAST_FAULT_COST, FAULT_COST}
use Rattle.lv_base.specs.declared.ids.ValId.{ValId}
use Rattle.lv_base.specs.Tree.{Tree, is}
use Rattle.lv_formula_text.specs.declared.path.Path.TheVariants.{Own}
use Rattle.lv_base.specs.Fits.{fits}
use Rattle.lv_model.specs.declared.plant.Domain.{Domain}
use Rattle.lv_model.specs.declared.plant.Move.{Move}
use Rattle.lv_model.specs.Names.{domain_named}
use Rattle.lv_model.specs.Counts.{has_count, mode_formula_has_count, guard_has_counts}
use Rattle.lv_model.specs.WellFormed.{name_fits, mode_formula_fits, move_fits}
use Rattle.lv_formula_text.specs.PhraseTree.{PhraseTree}
use Rattle.lv_reader.specs.declared.code.ModelCode.{ModelCode}
use Rattle.lv_reader.specs.declared.code.ModelCode.TheVariants.{UnknownName, NoFit, LimitPassed, NotEnded, TooManyClauses}
use Rattle.lv_reader.specs.declared.statement.Repair.{Repair}
use Rattle.lv_reader.specs.declared.statement.Statement.{Statement}
use Rattle.lv_reader.specs.declared.statement.Statement.TheVariants.{ModelLine, DomainLine, TypeLine, VariableLine, ModeLine, LawLine, InLine, StepLine, FaultLine, FaultsLine, RepairLine, EndLine, PartLine, PriceLine, VersionLine}
use Rattle.lv_reader.specs.Statements.{number_fits}
use Rattle.lv_model_entries.specs.declared.draft.Draft.{Draft}
use Rattle.lv_model_entries.specs.declared.draft.TypeDraft.{TypeDraft}
use Rattle.lv_model_entries.specs.declared.draft.Entry.{Entry}
use Rattle.lv_model_entries.specs.declared.draft.Entry.TheVariants.{NewMode, TypeLaw, ModeLaws, NewMove, NewMoves, TypeEnds}
use Rattle.lv_model_entries.specs.Places.{placed, domain_place, mode_place}
use Rattle.lv_model_entries.specs.Scopes.{variable_of_type, value_of_type}
use Rattle.lv_model_entries.specs.Entries.{known, on_ok, type_formula, mode_places, law_in, step_of, fault_of, faults_to, is_short, line_number, guard_in, is_control_of, repair_in, inside_entry, entry_of}
use Rattle.lv_checker.specs.Faults.{first_of, fault_where, fault_of_entry, unless_faulty, judged, in_use_inside, is_too_long_inside, passes_inside, is_long_name}
use Rattle.lv_checker.proofs.FitsLists.{all_behind, chained, placed_is}
use Rattle.lv_checker.proofs.FitsNames.{is_spelled, has_names}
use Rattle.lv_checker.proofs.FitsScopes.{place_below, own_value, type_formula_fits}
use Rattle.lv_checker.proofs.FitsTypes.{own_ranges, is_no_stay, FitsInside}

pub known_parts : {A B : Type 0} (o : Option A) (code : ModelCode) (next : A → Result B ModelCode) (y : B) → known o code next ≡ Ok y → (x : A) × (o ≡ Some x) × (next x ≡ Ok y)
known_parts None code next y h = absurd (cc)
known_parts (Some x) code next y h = (x, refl, h)

pub ok_parts : {A B : Type 0} (r : Result A ModelCode) (next : A → Result B ModelCode) (y : B) → on_ok r next ≡ Ok y → (x : A) × (r ≡ Ok x) × (next x ≡ Ok y)
ok_parts (Err code) next y h = absurd (cc)
ok_parts (Ok x) next y h = (x, refl, h)

-- a result that is no fault
abbrev pub done : {A : Type 0} → A → Result A ModelCode
done x = Ok x

pub same_ok : {A : Type 0} (x y : A) → done x ≡ Ok y → x ≡ y
same_ok x y h = cc

-- nothing speaks against it
pub record NoFault (in_use too_long passes : Bool) : Type 0 where
  pub new : in_use ≡ false
  pub short : too_long ≡ false
  pub within : passes ≡ false

pub no_fault : (a b c : Bool) → first_of a b c ≡ None → NoFault a b c
no_fault true b c h = absurd (cc)
no_fault false true c h = absurd (cc)
no_fault false false true h = absurd (cc)
no_fault false false false h = record { new = refl; short = refl; within = refl }

pub name_from : (name : List ℕ) → is_spelled name ≡ true → is_long_name name ≡ false → name_fits name ≡ true
name_from name h k =
    let some : 0 < length name = ltb-true 0 (length name) h in
    let few : length name ≤ NAME_BYTES = ltb-false NAME_BYTES (length name) k in
    and_from (nat_le 1 (length name)) (nat_le (length name) NAME_BYTES) (le-leb 1 (length name) (omega (arith, some))) (le-leb (length name) NAME_BYTES few)

pub if_ok : {A : Type 0} (b : Bool) (r : Result A ModelCode) (code : ModelCode) (y : A) → (if b then r else Err code) ≡ Ok y → (b ≡ true) × (r ≡ Ok y)
if_ok true r code y h = (refl, h)
if_ok false r code y h = absurd (cc)

-- what holds of a fault from each of so many modes holds of all of them
each_fault : (p : Move → Bool) (target : ValId) (cost : ℕ) (guard : Option Tree) (line modes : ℕ)
    → ((a : ℕ) → a < modes → p (fault_of (record { 0 = a }) target cost guard line) ≡ true) → list_all p (faults_to target cost guard line modes) ≡ true
each_fault p target cost guard line zero each = refl
each_fault p target cost guard line (suc modes) each =
    all_behind p (faults_to target cost guard line modes) _ (each_fault p target cost guard line modes (λ a less. each a (omega (arith, less)))) (by (nat_eq modes target.0))
  where
    by : (b : Bool) → list_all p (if b then [] else fault_of (record { 0 = modes }) target cost guard line ∷ []) ≡ true
    by true = refl
    by false = and_from (p (fault_of (record { 0 = modes }) target cost guard line)) true (each modes (omega arith)) refl

module _ (domains : List Domain) (t : TypeDraft) where
  -- where nothing speaks against it, an entry fits
  abbrev Fitting : Entry → Type 0
  Fitting e = NoFault (in_use_inside t e) (is_too_long_inside t e) (passes_inside t e) → FitsInside domains t e

  domain_below : (word : List ℕ) (n : ℕ) → domain_place domains word ≡ Some n → n < length domains
  domain_below word n h =
      let one = chained placed (position (domain_named word) domains) n h in
      let same : one.0 ≡ n = placed_is one.0 n one.2 in
      let inside : one.0 < length domains = (position-Some (domain_named word) domains one.0 (record { name = []; values = [] }) one.1).0 in
      omega (arith, same, inside)

  mode_below : (word : List ℕ) (m : ValId) → mode_place t.lists word ≡ Some m → nat_lt m.0 (length t.lists.modes) ≡ true
  mode_below word m h = let less = place_below t.lists.modes word m h in lt-ltb m.0 (length t.lists.modes) less

  move_from : (source target : ValId) (cost : ℕ) (guard : Option Tree) (line : ℕ) → nat_lt source.0 (length t.lists.modes) ≡ true → nat_lt target.0 (length t.lists.modes) ≡ true
      → nat_le LEAST_FAULT_COST cost && nat_le cost FAULT_COST ≡ true → option_map_or (fits (own_ranges domains t)) guard true ≡ true
      → move_fits (own_ranges domains t) (length t.lists.modes) (fault_of source target cost guard line) ≡ true
  move_from source target cost guard line a b c e =
      and_from (nat_lt source.0 (length t.lists.modes) && nat_lt target.0 (length t.lists.modes)) _ (and_from (nat_lt source.0 (length t.lists.modes)) (nat_lt target.0 (length t.lists.modes)) a b)
      (and_from (nat_le LEAST_FAULT_COST cost && nat_le cost FAULT_COST) _ c e)

  step_from : (source target : ValId) (guard : Tree) (line : ℕ) → nat_lt source.0 (length t.lists.modes) ≡ true → nat_lt target.0 (length t.lists.modes) ≡ true
      → fits (own_ranges domains t) guard ≡ true → move_fits (own_ranges domains t) (length t.lists.modes) (step_of source target guard line) ≡ true
  step_from source target guard line a b e =
      and_from (nat_lt source.0 (length t.lists.modes) && nat_lt target.0 (length t.lists.modes)) _ (and_from (nat_lt source.0 (length t.lists.modes)) (nat_lt target.0 (length t.lists.modes)) a b) e

  guard_found : (o : Option PhraseTree) (g : Option Tree) → guard_in domains t.lists o ≡ Ok g → option_map_or (fits (own_ranges domains t)) g true ≡ true
  guard_found None g h = let e : None ≡ g = cc h in subst (λ (x : Option Tree). option_map_or (fits (own_ranges domains t)) x true ≡ true) e refl
  guard_found (Some f) g h =
      let one = ok_parts (type_formula domains t.lists f) (λ x. Ok (Some x)) g h in
      let e : Some one.0 ≡ g = cc one.2 in
      subst (λ (x : Option Tree). option_map_or (fits (own_ranges domains t)) x true ≡ true) e (type_formula_fits domains t.lists f one.0 one.1)

  modes_below : (names : List (List ℕ)) (ms : List ValId) → mode_places t.lists names ≡ Ok ms → list_all (λ (m : ValId). nat_lt m.0 (length t.lists.modes)) ms ≡ true
  modes_below [] ms h = let e : [] ≡ ms = cc h in subst (λ (xs : List ValId). list_all (λ (m : ValId). nat_lt m.0 (length t.lists.modes)) xs ≡ true) e refl
  modes_below (n ∷ ns) ms h =
      let one = known_parts (mode_place t.lists n) UnknownName _ ms h in
      let two = ok_parts (mode_places t.lists ns) (λ xs. Ok (one.0 ∷ xs)) ms one.2 in
      subst (λ (xs : List ValId). list_all (λ (m : ValId). nat_lt m.0 (length t.lists.modes)) xs ≡ true) (same_ok (one.0 ∷ two.0) ms two.2)
      (and_from (nat_lt one.0.0 (length t.lists.modes)) _ (mode_below n one.0 one.1) (modes_below ns two.0 two.1))

  laws_fit : (g : Tree) (ms : List ValId) → fits (own_ranges domains t) g ≡ true → list_all (λ (m : ValId). nat_lt m.0 (length t.lists.modes)) ms ≡ true
      → list_all (mode_formula_fits (own_ranges domains t) (length t.lists.modes)) (map (law_in g) ms) ≡ true
  laws_fit g [] fit below = refl
  laws_fit g (m ∷ ms) fit below =
      let two = and_parts (nat_lt m.0 (length t.lists.modes)) (list_all (λ (x : ValId). nat_lt x.0 (length t.lists.modes)) ms) below in
      and_from (nat_lt m.0 (length t.lists.modes) && fits (own_ranges domains t) g) _ (and_from (nat_lt m.0 (length t.lists.modes)) (fits (own_ranges domains t) g) two.0 fit) (laws_fit g ms fit two.1)

  repair_found : (r : Repair) (g : Tree) → repair_in domains t.lists r ≡ Ok g → fits (own_ranges domains t) g ≡ true
  repair_found r g h =
      let one = known_parts (variable_of_type t.lists (Own r.control)) UnknownName _ g h in
      let two = if_ok (is_control_of t.lists r.control) _ NoFit g one.2 in
      let three = known_parts (value_of_type domains t.lists one.0 r.value) NoFit (λ v. Ok (is one.0.0 v.0)) g two.1 in
      subst (λ (x : Tree). fits (own_ranges domains t) x ≡ true) (same_ok (is one.0.0 three.0.0) g three.2) (own_value domains t.lists one.0 r.value three.0 three.1)

  few_from : (n limit : ℕ) → not (nat_lt n limit) ≡ false → n < limit
  few_from n limit h = ltb-true n limit (not-false (nat_lt n limit) h)

  ended : (b : Bool) (e : Entry) → nat_eq (length t.lists.modes) 0 ≡ b → (if b then Err NotEnded else done TypeEnds) ≡ Ok e → Fitting e
  ended true e asked h = absurd (cc)
  ended false e asked h =
      let same : TypeEnds ≡ e = cc h in
      let none = eqb-false (length t.lists.modes) 0 asked in
      subst (λ (x : Entry). Fitting x) same (λ free. by (length t.lists.modes) none)
    where
      by : (n : ℕ) → (n ≡ 0 → ⊥) → 1 ≤ n
      by zero f = absurd (f refl)
      by (suc n) f = omega arith

  pub inside_fits : (s : Statement) (e : Entry) → inside_entry domains t s ≡ Ok e → has_names s ≡ true → number_fits s ≡ true → Fitting e
  unfolding inside_entry
  inside_fits (VariableLine class name domain) e h named number =
      let one = known_parts (domain_place domains domain) UnknownName _ e h in
      subst (λ (x : Entry). Fitting x) (same_ok _ e one.2)
      (λ free. and_from (name_fits name) (nat_lt one.0 (length domains)) (name_from name named free.within) (lt-ltb one.0 (length domains) (domain_below domain one.0 one.1)))
  inside_fits (ModeLine name) e h named number =
      let one = known_parts (placed (length t.lists.modes)) LimitPassed (λ n. Ok (NewMode name n)) e h in
      subst (λ (x : Entry). Fitting x) (same_ok _ e one.2)
      (λ free.
      let first = or_parts (not (nat_lt (length t.lists.modes) MODES)) (not (nat_lt (length t.lists.moves) MOVES) || is_long_name name) free.within in
      let second = or_parts (not (nat_lt (length t.lists.moves) MOVES)) (is_long_name name) first.1 in
      record {
        name_is = name_from name named second.1;
        number = sym (placed_is (length t.lists.modes) one.0 one.1);
        few_modes = few_from (length t.lists.modes) MODES first.0;
        few_moves = few_from (length t.lists.moves) MOVES second.0;
      })
  inside_fits (LawLine f) e h named number =
      let one = ok_parts (type_formula domains t.lists f) (λ g. Ok (TypeLaw g)) e h in
      subst (λ (x : Entry). Fitting x) (same_ok _ e one.2)
      (λ free. record { fit = type_formula_fits domains t.lists f one.0 one.1; counts = not-false (has_count t.sizes true one.0) free.short })
  inside_fits (InLine modes f) e h named number =
      let one = ok_parts (mode_places t.lists modes) _ e h in
      let two = ok_parts (type_formula domains t.lists f) (λ g. Ok (ModeLaws (map (law_in g) one.0))) e one.2 in
      subst (λ (x : Entry). Fitting x) (same_ok _ e two.2)
      (λ free.
      record {
        fit = laws_fit two.0 one.0 (type_formula_fits domains t.lists f two.0 two.1) (modes_below modes one.0 one.1);
        counts = not-false (list_all (mode_formula_has_count t.sizes) (map (law_in two.0) one.0)) free.short;
      })
  inside_fits (StepLine source target f) e h named number =
      let one = known_parts (mode_place t.lists source) UnknownName _ e h in
      let two = known_parts (mode_place t.lists target) UnknownName _ e one.2 in
      let three = ok_parts (type_formula domains t.lists f) _ e two.2 in
      let four = known_parts (line_number t) LimitPassed (λ n. Ok (NewMove n (step_of one.0 two.0 three.0 n))) e three.2 in
      subst (λ (x : Entry). Fitting x) (same_ok _ e four.2)
      (λ free.
      record {
        fit = and_from (move_fits (own_ranges domains t) (length t.lists.modes) (step_of one.0 two.0 three.0 four.0)) true
            (step_from one.0 two.0 three.0 four.0 (mode_below source one.0 one.1) (mode_below target two.0 two.1) (type_formula_fits domains t.lists f three.0 three.1)) refl;
        counts = and_from (guard_has_counts t.sizes (step_of one.0 two.0 three.0 four.0)) true (not-false (guard_has_counts t.sizes (step_of one.0 two.0 three.0 four.0)) free.short) refl;
        no_stay = refl;
        few_moves = let few = few_from (length t.lists.moves) MOVES free.within in omega (arith, few);
      })
  inside_fits (FaultLine source target cost guard) e h named number =
      let one = known_parts (mode_place t.lists source) UnknownName _ e h in
      let two = known_parts (mode_place t.lists target) UnknownName _ e one.2 in
      let three = ok_parts (guard_in domains t.lists guard) _ e two.2 in
      let four = known_parts (line_number t) LimitPassed (λ n. Ok (NewMove n (fault_of one.0 two.0 cost three.0 n))) e three.2 in
      subst (λ (x : Entry). Fitting x) (same_ok _ e four.2)
      (λ free.
      record {
        fit = and_from (move_fits (own_ranges domains t) (length t.lists.modes) (fault_of one.0 two.0 cost three.0 four.0)) true
            (move_from one.0 two.0 cost three.0 four.0 (mode_below source one.0 one.1) (mode_below target two.0 two.1) number (guard_found guard three.0 three.1)) refl;
        counts = and_from (guard_has_counts t.sizes (fault_of one.0 two.0 cost three.0 four.0)) true (not-false (guard_has_counts t.sizes (fault_of one.0 two.0 cost three.0 four.0)) free.short) refl;
        no_stay = refl;
        few_moves = let few = few_from (length t.lists.moves) MOVES free.within in omega (arith, few);
      })
  inside_fits (FaultsLine target cost guard) e h named number =
      let one = known_parts (mode_place t.lists target) UnknownName _ e h in
      let two = ok_parts (guard_in domains t.lists guard) _ e one.2 in
      let short = if_ok (is_short t two.0) _ TooManyClauses e two.2 in
      let three = known_parts (line_number t) LimitPassed _ e short.1 in
      let four = known_parts (placed (length t.lists.modes)) LimitPassed (λ modes. Ok (NewMoves three.0 (faults_to one.0 cost two.0 three.0 modes))) e three.2 in
      let count : length t.lists.modes ≡ four.0 = placed_is (length t.lists.modes) four.0 four.1 in
      subst (λ (x : Entry). Fitting x) (same_ok _ e four.2)
      (λ free.
      record {
        fit = each_fault (move_fits (own_ranges domains t) (length t.lists.modes)) one.0 cost two.0 three.0 four.0
            (λ a less. move_from (record { 0 = a }) one.0 cost two.0 three.0 (lt-ltb a (length t.lists.modes) (omega (arith, less, count))) (mode_below target one.0 one.1) number (guard_found guard two.0 two.1));
        counts = not-false (list_all (guard_has_counts t.sizes) (faults_to one.0 cost two.0 three.0 four.0)) free.short;
        no_stay = each_fault is_no_stay one.0 cost two.0 three.0 four.0 (λ a less. refl);
        few_moves = ltb-false MOVES (length t.lists.moves + length (faults_to one.0 cost two.0 three.0 four.0)) free.within;
      })
  inside_fits (RepairLine source target cost repair guard) e h named number =
      let one = known_parts (mode_place t.lists source) UnknownName _ e h in
      let two = known_parts (mode_place t.lists target) UnknownName _ e one.2 in
      let back = ok_parts (repair_in domains t.lists repair) _ e two.2 in
      let three = ok_parts (guard_in domains t.lists guard) _ e back.2 in
      let four = known_parts (line_number t) LimitPassed (λ n. Ok (NewMoves n (fault_of one.0 two.0 cost three.0 n ∷ step_of two.0 one.0 back.0 n ∷ []))) e three.2 in
      subst (λ (x : Entry). Fitting x) (same_ok _ e four.2)
      (λ free.
      record {
        fit = and_from (move_fits (own_ranges domains t) (length t.lists.modes) (fault_of one.0 two.0 cost three.0 four.0)) _
            (move_from one.0 two.0 cost three.0 four.0 (mode_below source one.0 one.1) (mode_below target two.0 two.1) number (guard_found guard three.0 three.1))
            (and_from (move_fits (own_ranges domains t) (length t.lists.modes) (step_of two.0 one.0 back.0 four.0)) true
            (step_from two.0 one.0 back.0 four.0 (mode_below target two.0 two.1) (mode_below source one.0 one.1) (repair_found repair back.0 back.1)) refl);
        counts = not-false (list_all (guard_has_counts t.sizes) (fault_of one.0 two.0 cost three.0 four.0 ∷ step_of two.0 one.0 back.0 four.0 ∷ [])) free.short;
        no_stay = refl;
        few_moves = ltb-false MOVES (length t.lists.moves + 2) free.within;
      })
  inside_fits EndLine e h named number = ended (nat_eq (length t.lists.modes) 0) e refl h
  inside_fits (ModelLine name) e h named number = absurd (cc)
  inside_fits (DomainLine name values) e h named number = absurd (cc)
  inside_fits (TypeLine name) e h named number = absurd (cc)
  inside_fits (PartLine name kind start) e h named number = absurd (cc)
  inside_fits (PriceLine part control value cost) e h named number = absurd (cc)
  inside_fits (VersionLine n) e h named number = absurd (cc)

-- an entry that is judged is what its statement adds, and nothing speaks against it
pub judged_parts : (d : Draft) (s : Statement) (e : Entry) → judged d s ≡ Ok e → (entry_of d s ≡ Ok e) × (fault_where d d.current e ≡ None)
unfolding fault_of_entry
judged_parts d s e h =
    let one = ok_parts (entry_of d s) (unless_faulty d) e h in
    let two = by (fault_where d d.current one.0) one.0 refl one.2 in
    (one.1 ∙ ap Ok two.0, subst (λ (x : Entry). fault_where d d.current x ≡ None) two.0 two.1)
  where
    by : (o : Option ModelCode) (x : Entry) → fault_where d d.current x ≡ o → option_map_or (λ (code : ModelCode). Err code) o (done x) ≡ Ok e → (x ≡ e) × (fault_where d d.current x ≡ None)
    by None x none k = (same_ok x e k, none)
    by (Some code) x none k = absurd (cc)
