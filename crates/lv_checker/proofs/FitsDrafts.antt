-- A draft fits at every statement, and what is checked is well formed.
use Rattle.std.proofs.Common.{◌≡◌, ◌+◌, ◌-◌, ◌<◌, ◌≤◌, ℕ, zero, suc, Bool, true, false, not, ◌&&◌, ◌||◌, nat_eq, nat_lt, nat_le, List, [], ◌∷◌, ◌++◌, length, map, position, slice_get, if◌then◌else◌, Option, Some, None, is_some, option_map, take, drop, Result, Ok, Err, refl, sym, ap, ap₂, subst, ◌∙◌, arith}
use Rattle.std.specs.List.{list_all, list_any}
use Rattle.std.specs.Option.{option_map_or, option_and_then}
use Rattle.std.proofs.lemmas.Bool.{and_parts, and_from, or_parts, lt-ltb, le-leb, ltb-true, ltb-false, eqb-false, not-false}
use Rattle.std.proofs.lemmas.List.{map_push, take-append-drop}
use Rattle.std.proofs.lemmas.List.Folds.{list_all-append}
use Rattle.std.proofs.lemmas.Option.{slice_get-map}
use Rattle.lv_base.specs.declared.limits.TheConstants.{PARTS, VALUES, VARIABLES, MODEL_CLAUSES, PRICE}
use Rattle.lv_base.specs.declared.ids.VarId.{VarId}
use Rattle.lv_base.specs.Tree.{Tree}
use Rattle.lv_base.specs.declared.range.Range.{Range}
use Rattle.lv_base.specs.Fits.{fits, has_value}
use Rattle.lv_model.specs.declared.plant.Plant.{Plant}
use Rattle.lv_model.specs.declared.plant.Domain.{Domain}
use Rattle.lv_model.specs.declared.plant.ComponentType.{ComponentType}
use Rattle.lv_model.specs.declared.plant.Part.{Part}
use Rattle.lv_model.specs.declared.plant.Price.{Price}
use Rattle.lv_model.specs.declared.plant.Variable.{Variable}
use Rattle.lv_model.specs.Names.{part_named}
use Rattle.lv_model.specs.Ranges.{part_ranges, plant_ranges}
use Rattle.lv_model.specs.Lists.{part_width, variable_count, is_control, is_variable, controls_from, part_controls, controls}
use Rattle.lv_model.specs.Counts.{held, has_count, law_sizes, law_count, type_count, part_count, plant_count}
use Rattle.lv_model.specs.Denials.{held_type_count}
use Rattle.lv_model.specs.Prices.{is_price_of}
use Rattle.lv_model.specs.WellFormed.{name_fits, domain_fits, part_fits, price_fits, is_within, is_well_formed}
use Rattle.lv_model.proofs.Reading.{length-plant_ranges}
use Rattle.lv_reader.specs.declared.code.ModelCode.{ModelCode}
use Rattle.lv_reader.specs.declared.code.ModelCode.TheVariants.{UnknownName, NoFit, Misplaced, LimitPassed, NotEnded, NoPart}
use Rattle.lv_reader.specs.declared.statement.Statement.{Statement}
use Rattle.lv_reader.specs.declared.statement.Statement.TheVariants.{ModelLine, DomainLine, TypeLine, VariableLine, ModeLine, LawLine, InLine, StepLine, FaultLine, FaultsLine, RepairLine, EndLine, PartLine, PriceLine, VersionLine}
use Rattle.lv_reader.specs.declared.statement.NumberedStatement.{NumberedStatement}
use Rattle.lv_reader.specs.declared.statement.ModelText.{ModelText}
use Rattle.lv_reader.specs.Statements.{number_fits}
use Rattle.lv_reader.specs.Texts.{ReadsAs}
use Rattle.lv_model_entries.specs.declared.draft.Draft.{Draft}
use Rattle.lv_model_entries.specs.declared.draft.TypeDraft.{TypeDraft}
use Rattle.lv_model_entries.specs.declared.draft.Entry.{Entry}
use Rattle.lv_model_entries.specs.declared.draft.Entry.TheVariants.{Named, NewDomain, TypeBegins, NewVariable, NewMode, TypeLaw, ModeLaws, NewMove, NewMoves, TypeEnds, NewPart, SystemLaw, NewPrice}
use Rattle.lv_model_entries.specs.Places.{placed, variable_numbered, variable_place, part_of_name, type_place, mode_of_type, mode_place}
use Rattle.lv_model_entries.specs.Scopes.{variable_of_part, value_of_system}
use Rattle.lv_model_entries.specs.Entries.{system_formula, own_variable, is_control_of, has_control, priced_entry, outside_entry, entry_where}
use Rattle.lv_checker.specs.Faults.{fault_where, judged, in_use_inside, is_too_long_inside, passes_inside, in_use_outside, is_too_long_outside, passes_outside, is_long_name, share_of}
use Rattle.lv_checker.specs.Drafts.{empty, begun, with_type, with_inside, with_part, with_law, with_outside, with_where, with_entry, type_with, limited_size}
use Rattle.lv_checker.specs.Checking.{Checked, fine, faulty, checked_by, after, all_added, finished, checked}
use Rattle.lv_checker.specs.Caches.{CountsAreKept}
use Rattle.lv_checker.specs.Verdicts.{Verdict, IsVerdict, not_read, is_checked, accepted, refused, verdict_of, AcceptedIsWellFormed}
use Rattle.lv_checker.proofs.FitsLists.{chained, mapped, passed, placed_is}
use Rattle.lv_checker.proofs.FitsNames.{is_spelled, has_names, is_sound, statements_sound}
use Rattle.lv_checker.proofs.FitsScopes.{place_below, is_sized, parts_sized, system_value, system_formula_fits}
use Rattle.lv_checker.proofs.FitsTypes.{TypeFits, FitsInside, begun_fits, type_kept, ended_fits, ended_counts}
use Rattle.lv_checker.proofs.FitsEntries.{known_parts, ok_parts, if_ok, done, same_ok, NoFault, no_fault, name_from, inside_fits, judged_parts}
use Rattle.lv_checker.proofs.FitsPlants.{PlantFits, well_formed, ranges_same, sizes_same, count_same, same_with_type, domain_same, shares_same, domain_added, type_added}
use Rattle.lv_checker.proofs.FitsParts.{name_given, ranges_more, sizes_more, count_more, part_added, law_added, law_count_more, price_added, control_among, among_parts}

abbrev pub CurrentFits : List Domain → Option TypeDraft → Type 0
CurrentFits domains None = Unit {0}
CurrentFits domains (Some t) = TypeFits domains t

-- the plant so far fits, and what is kept beside it is what its lists say
pub record DraftFits (d : Draft) : Type 0 where
  pub lists : PlantFits d.plant
  pub ranges_are : d.ranges ≡ plant_ranges d.plant
  pub sizes_are : d.sizes ≡ law_sizes d.plant
  pub shares_are : d.shares ≡ map (held_type_count d.plant.domains) d.plant.types
  pub clauses_are : d.clauses ≡ plant_count d.plant
  pub current_fits : CurrentFits d.plant.domains d.current

pub empty_fits : DraftFits empty
empty_fits =
    record {
      lists = record {
        named = refl;
        each_domain = refl;
        each_type = refl;
        few_parts = omega arith;
        each_part = refl;
        numbered = refl;
        few_variables = omega arith;
        each_law = refl;
        each_price = refl;
        once = refl;
        type_counts = refl;
        law_counts = refl;
        few_clauses = omega arith;
      };
      ranges_are = refl;
      sizes_are = refl;
      shares_are = refl;
      clauses_are = refl;
      current_fits = tt;
    }

begun_draft : (d : Draft) → DraftFits d → DraftFits (record d { has_begun = true })
begun_draft d fact =
    record { lists = fact.lists; ranges_are = fact.ranges_are; sizes_are = fact.sizes_are; shares_are = fact.shares_are; clauses_are = fact.clauses_are; current_fits = fact.current_fits }

pub record NewPartFits (d : Draft) (p : Part) : Type 0 where
  pub fit : part_fits d.plant.types p ≡ true
  pub begins : p.first.0 ≡ length d.ranges
  pub few_parts : length d.plant.parts < PARTS
  pub few_variables : length d.ranges + part_width d.plant.types p ≤ VARIABLES
  pub few_clauses : d.clauses + share_of d p ≤ MODEL_CLAUSES

pub record NewLawFits (d : Draft) (f : Tree) : Type 0 where
  pub fit : fits d.ranges f ≡ true
  pub counts : has_count d.sizes true f ≡ true
  pub few_clauses : d.clauses + law_count d.sizes f ≤ MODEL_CLAUSES

pub record NewPriceFits (d : Draft) (x : Price) : Type 0 where
  pub fit : price_fits d.ranges (controls d.plant) x ≡ true
  pub new : list_any (is_price_of x.control.0 x.value.0) d.plant.prices ≡ false

-- what is known of an entry outside types
abbrev pub FitsOutside : Draft → Entry → Type 0
FitsOutside d (Named name) = name_fits name ≡ true
FitsOutside d (NewDomain x) = domain_fits x ≡ true
FitsOutside d (TypeBegins name) = name_fits name ≡ true
FitsOutside d (NewPart p) = NewPartFits d p
FitsOutside d (SystemLaw f) = NewLawFits d f
FitsOutside d (NewPrice x) = NewPriceFits d x
FitsOutside d entry = Unit {0}

share_is : (d : Draft) (p : Part) → d.shares ≡ map (held_type_count d.plant.domains) d.plant.types → share_of d p ≡ held (part_count d.plant.domains d.plant.types p)
share_is d p h =
    ap (λ (ns : List ℕ). option_map_or (λ (n : ℕ). n) (slice_get ns p.kind) 0) h
    ∙ ap (λ (o : Option ℕ). option_map_or (λ (n : ℕ). n) o 0) (slice_get-map (held_type_count d.plant.domains) d.plant.types p.kind)
    ∙ by (slice_get d.plant.types p.kind)
  where
    by : (o : Option ComponentType) → option_map_or (λ (n : ℕ). n) (option_map (held_type_count d.plant.domains) o) 0 ≡ held (option_map_or (type_count d.plant.domains) o 0)
    by None = refl
    by (Some t) = refl

module _ (d : Draft) (fact : DraftFits d) where
  variables_are : length d.ranges ≡ variable_count d.plant
  variables_are = ap (λ (rs : List Range). length rs) fact.ranges_are ∙ length-plant_ranges d.plant

  part_kept : (p : Part) → NewPartFits d p → DraftFits (with_part d p)
  part_kept p h =
      record {
        lists = part_added d.plant fact.lists p h.fit first h.few_parts room few;
        ranges_are = ap (λ (rs : List Range). rs ++ part_ranges d.plant.domains d.plant.types p) fact.ranges_are ∙ sym (ranges_more d.plant fact.lists p);
        sizes_are = ap (λ (ns : List ℕ). ns ++ map limited_size (part_ranges d.plant.domains d.plant.types p)) fact.sizes_are ∙ sym (sizes_more d.plant fact.lists p);
        shares_are = fact.shares_are;
        clauses_are = total;
        current_fits = fact.current_fits;
      }
    where
      share : share_of d p ≡ held (part_count d.plant.domains d.plant.types p)
      share = share_is d p fact.shares_are

      first : p.first.0 ≡ variable_count d.plant
      first = h.begins ∙ variables_are

      room : variable_count d.plant + part_width d.plant.types p ≤ VARIABLES
      room = let e = variables_are in let r = h.few_variables in omega (arith, e, r)

      few : plant_count d.plant + part_count d.plant.domains d.plant.types p ≤ MODEL_CLAUSES
      few = let e = share in let c = fact.clauses_are in let r = h.few_clauses in omega (arith, e, c, r)

      total : held (d.clauses + share_of d p) ≡ plant_count (record (d.plant) { parts = d.plant.parts ++ p ∷ [] })
      total = let e = share in let c = fact.clauses_are in let r = h.few_clauses in let m = count_more d.plant fact.lists p in omega (arith, e, c, r, m)

  law_kept : (f : Tree) → NewLawFits d f → DraftFits (with_law d f)
  law_kept f h =
      record {
        lists =
            law_added d.plant fact.lists f (subst (λ (rs : List Range). fits rs f ≡ true) fact.ranges_are h.fit) (subst (λ (ns : List ℕ). has_count ns true f ≡ true) fact.sizes_are h.counts) few;
        ranges_are = fact.ranges_are;
        sizes_are = fact.sizes_are;
        shares_are = fact.shares_are;
        clauses_are = total;
        current_fits = fact.current_fits;
      }
    where
      own : law_count d.sizes f ≡ law_count (law_sizes d.plant) f
      own = ap (λ (ns : List ℕ). law_count ns f) fact.sizes_are

      few : plant_count d.plant + law_count (law_sizes d.plant) f ≤ MODEL_CLAUSES
      few = let e = own in let c = fact.clauses_are in let r = h.few_clauses in omega (arith, e, c, r)

      total : held (d.clauses + law_count d.sizes f) ≡ plant_count (record (d.plant) { laws = d.plant.laws ++ f ∷ [] })
      total = let e = own in let c = fact.clauses_are in let r = h.few_clauses in let m = law_count_more d.plant fact.lists f in omega (arith, e, c, r, m)

  price_kept : (x : Price) → NewPriceFits d x → DraftFits (record d { plant = record (d.plant) { prices = d.plant.prices ++ x ∷ [] } })
  price_kept x h =
      record {
        lists = price_added d.plant fact.lists x (subst (λ (rs : List Range). price_fits rs (controls d.plant) x ≡ true) fact.ranges_are h.fit) h.new;
        ranges_are = fact.ranges_are;
        sizes_are = fact.sizes_are;
        shares_are = fact.shares_are;
        clauses_are = fact.clauses_are;
        current_fits = fact.current_fits;
      }

  domain_kept : (x : Domain) → d.current ≡ None → domain_fits x ≡ true → DraftFits (record d { plant = record (d.plant) { domains = d.plant.domains ++ x ∷ [] } })
  domain_kept x none h =
      record {
        lists = domain_added d.plant x fact.lists h;
        ranges_are = fact.ranges_are ∙ sym (ranges_same d.plant (d.plant.domains ++ x ∷ []) d.plant.types fact.lists (domain_same d.plant x fact.lists));
        sizes_are = fact.sizes_are ∙ sym (sizes_same d.plant (d.plant.domains ++ x ∷ []) d.plant.types fact.lists (domain_same d.plant x fact.lists));
        shares_are = fact.shares_are ∙ sym (shares_same d.plant x fact.lists);
        clauses_are = fact.clauses_are ∙ sym (count_same d.plant (d.plant.domains ++ x ∷ []) d.plant.types fact.lists (domain_same d.plant x fact.lists));
        current_fits = subst (λ (o : Option TypeDraft). CurrentFits (d.plant.domains ++ x ∷ []) o) (sym none) tt;
      }

  named_kept : (name : List ℕ) → name_fits name ≡ true → DraftFits (record d { plant = record (d.plant) { name = name } })
  named_kept name h =
      record {
        lists = name_given d.plant name fact.lists h;
        ranges_are = fact.ranges_are;
        sizes_are = fact.sizes_are;
        shares_are = fact.shares_are;
        clauses_are = fact.clauses_are;
        current_fits = fact.current_fits;
      }

  going : (t : TypeDraft) → TypeFits d.plant.domains t → DraftFits (record d { current = Some t })
  going t h =
      record { lists = fact.lists; ranges_are = fact.ranges_are; sizes_are = fact.sizes_are; shares_are = fact.shares_are; clauses_are = fact.clauses_are; current_fits = h }

  type_ended : (t : TypeDraft) → TypeFits d.plant.domains t → 1 ≤ length t.lists.modes → DraftFits (with_type d t)
  type_ended t h some =
      record {
        lists = type_added d.plant t.lists fact.lists (λ k. ended_fits d.plant.domains t k h some) (ended_counts d.plant.domains t h);
        ranges_are = fact.ranges_are ∙ sym (ranges_same d.plant d.plant.domains (d.plant.types ++ t.lists ∷ []) fact.lists (same_with_type d.plant.domains d.plant.types t.lists));
        sizes_are = fact.sizes_are ∙ sym (sizes_same d.plant d.plant.domains (d.plant.types ++ t.lists ∷ []) fact.lists (same_with_type d.plant.domains d.plant.types t.lists));
        shares_are =
            ap (λ (ns : List ℕ). ns ++ held (type_count d.plant.domains t.lists) ∷ []) fact.shares_are ∙ sym (map_push (held_type_count d.plant.domains) d.plant.types t.lists);
        clauses_are = fact.clauses_are ∙ sym (count_same d.plant d.plant.domains (d.plant.types ++ t.lists ∷ []) fact.lists (same_with_type d.plant.domains d.plant.types t.lists));
        current_fits = tt;
      }

  outside_kept : (e : Entry) → d.current ≡ None → FitsOutside d e → DraftFits (with_outside d e)
  outside_kept (Named name) none h = named_kept name h
  outside_kept (NewDomain x) none h = domain_kept x none h
  outside_kept (TypeBegins name) none h = going (begun name) (begun_fits d.plant.domains name h)
  outside_kept (NewPart p) none h = part_kept p h
  outside_kept (SystemLaw f) none h = law_kept f h
  outside_kept (NewPrice x) none h = price_kept x h
  outside_kept (NewVariable v) none h = fact
  outside_kept (NewMode name n) none h = fact
  outside_kept (TypeLaw f) none h = fact
  outside_kept (ModeLaws fs) none h = fact
  outside_kept (NewMove line m) none h = fact
  outside_kept (NewMoves line ms) none h = fact
  outside_kept TypeEnds none h = fact

  inside_kept : (t : TypeDraft) → TypeFits d.plant.domains t → (e : Entry) → FitsInside d.plant.domains t e → DraftFits (with_inside d t e)
  inside_kept t own TypeEnds h = type_ended t own h
  inside_kept t own (Named name) h = going t own
  inside_kept t own (NewDomain x) h = going t own
  inside_kept t own (TypeBegins name) h = going t own
  inside_kept t own (NewVariable v) h = going (type_with d.plant.domains t (NewVariable v)) (type_kept d.plant.domains t own (NewVariable v) h)
  inside_kept t own (NewMode name n) h = going (type_with d.plant.domains t (NewMode name n)) (type_kept d.plant.domains t own (NewMode name n) h)
  inside_kept t own (TypeLaw f) h = going (type_with d.plant.domains t (TypeLaw f)) (type_kept d.plant.domains t own (TypeLaw f) h)
  inside_kept t own (ModeLaws fs) h = going (type_with d.plant.domains t (ModeLaws fs)) (type_kept d.plant.domains t own (ModeLaws fs) h)
  inside_kept t own (NewMove line m) h = going (type_with d.plant.domains t (NewMove line m)) (type_kept d.plant.domains t own (NewMove line m) h)
  inside_kept t own (NewMoves line ms) h = going (type_with d.plant.domains t (NewMoves line ms)) (type_kept d.plant.domains t own (NewMoves line ms) h)
  inside_kept t own (NewPart p) h = going t own
  inside_kept t own (SystemLaw f) h = going t own
  inside_kept t own (NewPrice x) h = going t own

numbered_is : (n : ℕ) (x : VarId) → variable_numbered n ≡ Some x → x.0 ≡ n
numbered_is n x h = let one = mapped (λ k. record { 0 = k }) (placed n) x h in ap (λ (y : VarId). y.0) (sym one.2) ∙ sym (placed_is n one.0 one.1)

names_from : (names : List (List ℕ)) → list_all is_spelled names ≡ true → list_any is_long_name names ≡ false → list_all name_fits names ≡ true
names_from [] h k = refl
names_from (n ∷ ns) h k =
    let a = and_parts (is_spelled n) (list_all is_spelled ns) h in
    let b = or_parts (is_long_name n) (list_any is_long_name ns) k in
    and_from (name_fits n) (list_all name_fits ns) (name_from n a.0 b.0) (names_from ns a.1 b.1)

module _ (d : Draft) (fact : DraftFits d) where
  -- where nothing speaks against it, an entry fits
  abbrev Fitting : Entry → Type 0
  Fitting e = NoFault (in_use_outside d e) (is_too_long_outside d e) (passes_outside d e) → FitsOutside d e

  sized : list_all (is_sized d.plant.domains d.plant.types) d.ranges ≡ true
  sized = subst (λ (rs : List Range). list_all (is_sized d.plant.domains d.plant.types) rs ≡ true) (sym fact.ranges_are) (parts_sized d.plant.domains d.plant.types d.plant.parts)

  -- the control that a price names is one of the plant's
  control_found : (p : Part) (k : ℕ) (word : List ℕ) (x : VarId) → slice_get d.plant.parts k ≡ Some p → variable_of_part d.plant.types word p ≡ Some x → has_control d.plant.types word p ≡ true
      → list_any (is_variable x.0) (controls d.plant) ≡ true
  control_found p k word x here found own =
      let one = chained (λ (t : ComponentType). option_and_then (λ n. variable_numbered (p.first.0 + n)) (variable_place t.variables word)) (slice_get d.plant.types p.kind) x found in
      let two = chained (λ n. variable_numbered (p.first.0 + n)) (variable_place one.0.variables word) x one.2 in
      let number : x.0 ≡ p.first.0 + two.0 = numbered_is (p.first.0 + two.0) x two.2 in
      let mine : is_control_of one.0 word ≡ true = sym (ap (λ (o : Option ComponentType). option_map_or (λ (t : ComponentType). is_control_of t word) o false) one.1) ∙ own in
      let class = passed (λ (v : Variable). is_control v.class) (option_and_then (own_variable one.0.variables) (variable_place one.0.variables word)) mine in
      let place : own_variable one.0.variables two.0 ≡ Some class.0 = sym (ap (λ (o : Option ℕ). option_and_then (own_variable one.0.variables) o) two.1) ∙ class.1 in
      among_parts (is_variable x.0) (part_controls d.plant.types) d.plant.parts k p here
      (subst (λ (o : Option ComponentType). list_any (is_variable x.0) (option_map_or (λ (t : ComponentType). controls_from (p.first.0 + 1) t.variables) o []) ≡ true) (sym one.1)
      (by two.0 number class.0 place class.2 one.0.variables refl))
    where
      by : (n : ℕ) → x.0 ≡ p.first.0 + n → (v : Variable) → {vs : List Variable} → own_variable vs n ≡ Some v → is_control v.class ≡ true → (us : List Variable) → us ≡ vs → list_any (is_variable x.0) (controls_from (p.first.0 + 1) us) ≡ true
      by zero e v at h us is = absurd (cc)
      by (suc n) e v {vs} at h us is =
          let out : nat_eq (suc n) 0 ≡ false = grind arith in
          let back : suc n - 1 ≡ n = omega arith in
          let there : slice_get vs n ≡ Some v = sym (ap₂ (λ (b : Bool) (k : ℕ). if b then None else slice_get vs k) out back) ∙ at in
          let same : p.first.0 + 1 + n ≡ x.0 = omega (arith, e) in
          subst (λ (k : ℕ). list_any (is_variable k) (controls_from (p.first.0 + 1) us) ≡ true) same
          (control_among (p.first.0 + 1) us n v (ap (λ (ws : List Variable). slice_get ws n) is ∙ there) h)

  outside_fits : (s : Statement) (e : Entry) → outside_entry d s ≡ Ok e → has_names s ≡ true → number_fits s ≡ true → Fitting e
  unfolding outside_entry
  outside_fits (ModelLine name) e h named number =
      let one = if_first d.has_begun (Named name) e h in
      subst (λ (x : Entry). Fitting x) one (λ free. name_from name named free.within)
    where
      if_first : (b : Bool) (x e : Entry) → (if b then Err Misplaced else done x) ≡ Ok e → x ≡ e
      if_first true x e h = absurd (cc)
      if_first false x e h = same_ok x e h
  outside_fits (DomainLine name values) e h named number =
      subst (λ (x : Entry). Fitting x) (same_ok (NewDomain (record { name = name; values = values })) e h)
      (λ free.
      let own = and_parts (is_spelled name) (nat_lt 0 (length values) && list_all is_spelled values) named in
      let rest = and_parts (nat_lt 0 (length values)) (list_all is_spelled values) own.1 in
      let limits = or_parts (nat_lt VALUES (length values)) (is_long_name name || list_any is_long_name values) free.within in
      let long = or_parts (is_long_name name) (list_any is_long_name values) limits.1 in
      let some : 0 < length values = ltb-true 0 (length values) rest.0 in
      and_from (name_fits name) (is_within 1 (length values) VALUES && list_all name_fits values) (name_from name own.0 long.0)
      (and_from (is_within 1 (length values) VALUES) (list_all name_fits values)
      (and_from (nat_le 1 (length values)) (nat_le (length values) VALUES) (le-leb 1 (length values) (omega (arith, some))) (le-leb (length values) VALUES (ltb-false VALUES (length values) limits.0)))
      (names_from values rest.1 long.1)))
  outside_fits (TypeLine name) e h named number =
      subst (λ (x : Entry). Fitting x) (same_ok (TypeBegins name) e h) (λ free. name_from name named free.within)
  outside_fits (LawLine f) e h named number =
      let one = ok_parts (system_formula d f) (λ g. Ok (SystemLaw g)) e h in
      subst (λ (x : Entry). Fitting x) (same_ok (SystemLaw one.0) e one.2)
      (λ free.
      record {
        fit = system_formula_fits d sized f one.0 one.1;
        counts = not-false (has_count d.sizes true one.0) free.short;
        few_clauses = ltb-false MODEL_CLAUSES (d.clauses + law_count d.sizes one.0) free.within;
      })
  outside_fits (PartLine name kind start) e h named number =
      let one = known_parts (type_place d.plant.types kind) UnknownName _ e h in
      let two = known_parts (mode_of_type d.plant.types one.0 start) UnknownName _ e one.2 in
      let three = known_parts (variable_numbered (length d.ranges)) LimitPassed (λ x. Ok (NewPart (record { name = name; kind = one.0; start = two.0; first = x }))) e two.2 in
      let p : Part = record { name = name; kind = one.0; start = two.0; first = three.0 } in
      let there = chained (λ (t : ComponentType). mode_place t start) (slice_get d.plant.types one.0) two.0 two.1 in
      let below = place_below there.0.modes start two.0 there.2 in
      subst (λ (x : Entry). Fitting x) (same_ok (NewPart (record { name = name; kind = one.0; start = two.0; first = three.0 })) e three.2)
      (λ free.
      let a = or_parts (not (nat_lt (length d.plant.parts) PARTS)) _ free.within in
      let b = or_parts (nat_lt VARIABLES (length d.ranges + part_width d.plant.types (record { name = name; kind = one.0; start = two.0; first = three.0 }))) _ a.1 in
      let c = or_parts (nat_lt MODEL_CLAUSES (d.clauses + share_of d (record { name = name; kind = one.0; start = two.0; first = three.0 }))) (is_long_name name) b.1 in
      record {
        fit =
            and_from (name_fits name) _ (name_from name named c.1)
            (subst (λ (o : Option ComponentType). option_map_or (λ (t : ComponentType). nat_lt two.0.0 (length t.modes)) o false ≡ true) (sym there.1) (lt-ltb two.0.0 (length there.0.modes) below));
        begins = numbered_is (length d.ranges) three.0 three.1;
        few_parts = ltb-true (length d.plant.parts) PARTS (not-false (nat_lt (length d.plant.parts) PARTS) a.0);
        few_variables = ltb-false VARIABLES (length d.ranges + part_width d.plant.types (record { name = name; kind = one.0; start = two.0; first = three.0 })) b.0;
        few_clauses = ltb-false MODEL_CLAUSES (d.clauses + share_of d (record { name = name; kind = one.0; start = two.0; first = three.0 })) c.0;
      })
  outside_fits (PriceLine part control value cost) e h named number =
      let one = known_parts (part_of_name d.plant.parts part) UnknownName _ e h in
      let two = known_parts (variable_of_part d.plant.types control one.0) UnknownName _ e one.2 in
      let three = if_ok (has_control d.plant.types control one.0) _ NoFit e two.2 in
      let four = known_parts (value_of_system d two.0 value) NoFit (λ v. priced_entry v two.0 cost) e three.1 in
      let five = if_ok (nat_lt 0 four.0.0) (done (NewPrice (record { control = two.0; value = four.0; cost = record { 0 = cost } }))) NoFit e four.2 in
      let place = chained (slice_get d.plant.parts) (position (part_named part) d.plant.parts) one.0 one.1 in
      subst (λ (x : Entry). Fitting x) (same_ok (NewPrice (record { control = two.0; value = four.0; cost = record { 0 = cost } })) e five.1)
      (λ free.
      record {
        fit =
            and_from (list_any (is_variable two.0.0) (controls d.plant)) _ (control_found one.0 place.0 control two.0 place.2 two.1 three.0)
            (and_from (has_value d.ranges two.0.0 four.0.0) _ (system_value d sized two.0 value four.0 four.1) (and_from (nat_lt 0 four.0.0) (nat_le cost PRICE) five.0 number));
        new = free.new;
      })
  outside_fits (VariableLine class name domain) e h named number = absurd (cc)
  outside_fits (ModeLine name) e h named number = absurd (cc)
  outside_fits (InLine mode f) e h named number = absurd (cc)
  outside_fits (StepLine source target f) e h named number = absurd (cc)
  outside_fits (FaultLine source target cost guard) e h named number = absurd (cc)
  outside_fits (FaultsLine target cost guard) e h named number = absurd (cc)
  outside_fits (RepairLine source target cost repair guard) e h named number = absurd (cc)
  outside_fits EndLine e h named number = absurd (cc)
  outside_fits (VersionLine n) e h named number = absurd (cc)

  where_kept : (o : Option TypeDraft) → d.current ≡ o → (s : Statement) (e : Entry) → entry_where d o s ≡ Ok e → fault_where d o e ≡ None → has_names s ≡ true → number_fits s ≡ true
      → DraftFits (with_where (record d { has_begun = true }) o e)
  where_kept None is s e h none named number =
      outside_kept (record d { has_begun = true }) (begun_draft d fact) e is
      (same_facts e (outside_fits s e h named number (no_fault (in_use_outside d e) (is_too_long_outside d e) (passes_outside d e) none)))
    where
      same_facts : (e : Entry) → FitsOutside d e → FitsOutside (record d { has_begun = true }) e
      same_facts (Named name) h = h
      same_facts (NewDomain x) h = h
      same_facts (TypeBegins name) h = h
      same_facts (NewPart p) h = record { fit = h.fit; begins = h.begins; few_parts = h.few_parts; few_variables = h.few_variables; few_clauses = h.few_clauses }
      same_facts (SystemLaw f) h = record { fit = h.fit; counts = h.counts; few_clauses = h.few_clauses }
      same_facts (NewPrice x) h = record { fit = h.fit; new = h.new }
      same_facts (NewVariable v) h = h
      same_facts (NewMode name n) h = h
      same_facts (TypeLaw f) h = h
      same_facts (ModeLaws fs) h = h
      same_facts (NewMove line m) h = h
      same_facts (NewMoves line ms) h = h
      same_facts TypeEnds h = h
  where_kept (Some t) is s e h none named number =
      inside_kept (record d { has_begun = true }) (begun_draft d fact) t (subst (λ (o : Option TypeDraft). CurrentFits d.plant.domains o) is fact.current_fits) e
      (inside_fits d.plant.domains t s e h named number (no_fault (in_use_inside t e) (is_too_long_inside t e) (passes_inside t e) none))

  entry_kept : (s : Statement) (e : Entry) → judged d s ≡ Ok e → has_names s ≡ true → number_fits s ≡ true → DraftFits (with_entry d e)
  entry_kept s e h named number =
      let two = judged_parts d s e h in
      where_kept d.current refl s e two.0 two.1 named number

all_fit : (d : Draft) (ss : List NumberedStatement) (end : Draft) → DraftFits d → list_all is_sound ss ≡ true → all_added d ss ≡ fine end → DraftFits end
all_fit d [] end fact sound h = let e : d ≡ end = cc h in subst (λ (x : Draft). DraftFits x) e fact
all_fit d (s ∷ ss) end fact sound h = by (judged d s.statement) refl h (λ e f k. all_fit (with_entry d e) ss end f two.1 k)
  where
    two : (has_names s.statement && number_fits s.statement ≡ true) × (list_all is_sound ss ≡ true)
    two = and_parts (has_names s.statement && number_fits s.statement) (list_all is_sound ss) sound

    own : (has_names s.statement ≡ true) × (number_fits s.statement ≡ true)
    own = and_parts (has_names s.statement) (number_fits s.statement) two.0

    by : (r : Result Entry ModelCode) → judged d s.statement ≡ r → after (checked_by r s.line (λ entry. fine (with_entry d entry))) (λ e. all_added e ss) ≡ fine end
        → ((e : Entry) → DraftFits (with_entry d e) → all_added (with_entry d e) ss ≡ fine end → DraftFits end) → DraftFits end
    by (Ok e) is h rest = rest e (entry_kept d fact s.statement e is own.0 own.1) h
    by (Err code) is h rest = absurd (cc)

-- what is kept is what is counted, behind any of the statements
pub counts_kept : CountsAreKept
counts_kept bytes text n d reads added =
    let sound = statements_sound reads.statements in
    let front =
    and_parts (list_all is_sound (take n text.statements)) (list_all is_sound (drop n text.statements))
    (sym (list_all-append is_sound (take n text.statements) (drop n text.statements)) ∙ ap (list_all is_sound) (take-append-drop n text.statements) ∙ sound)
    in
    let fact = all_fit empty (take n text.statements) d empty_fits front.0 added in
    record { ranges = fact.ranges_are; sizes = fact.sizes_are; shares = fact.shares_are; clauses = fact.clauses_are }

checked_well : (bytes : List ℕ) (text : ModelText) (d : Draft) → ReadsAs bytes text → all_added empty text.statements ≡ fine d → nat_eq (length d.plant.parts) 0 ≡ false → is_well_formed d.plant ≡ true
checked_well bytes text d reads added some =
    let fact = all_fit empty text.statements d empty_fits (statements_sound reads.statements) added in
    well_formed d.plant fact.lists (by (length d.plant.parts) (eqb-false (length d.plant.parts) 0 some))
  where
    by : (n : ℕ) → (n ≡ 0 → ⊥) → 1 ≤ n
    by zero f = absurd (f refl)
    by (suc n) f = omega arith

-- what a draft comes to
finished_parts : (lines : ℕ) (d : Draft) (plant : Plant) → finished lines d ≡ fine plant → (nat_eq (length d.plant.parts) 0 ≡ false) × (d.plant ≡ plant)
finished_parts lines d plant h = by (is_some d.current) (nat_eq (length d.plant.parts) 0) refl h
  where
    by : (a b : Bool) → nat_eq (length d.plant.parts) 0 ≡ b → (if a then faulty NotEnded (lines + 1) else (if b then faulty NoPart (lines + 1) else fine d.plant)) ≡ fine plant
        → (nat_eq (length d.plant.parts) 0 ≡ false) × (d.plant ≡ plant)
    by true b e h = absurd (cc)
    by false true e h = absurd (cc)
    by false false e h = let same : d.plant ≡ plant = cc h in (e, same)

pub text_well : (bytes : List ℕ) (text : ModelText) (plant : Plant) → ReadsAs bytes text → (c : Checked Draft) → all_added empty text.statements ≡ c → after c (finished text.lines) ≡ fine plant
    → is_well_formed plant ≡ true
text_well bytes text plant reads (fine d) added h =
    let two = finished_parts text.lines d plant h in
    subst (λ (p : Plant). is_well_formed p ≡ true) two.1 (checked_well bytes text d reads added two.0)
text_well bytes text plant reads (faulty code line) added h = absurd (cc)

checked_is : (text : ModelText) → checked text ≡ after (all_added empty text.statements) (finished text.lines)
unfolding checked
checked_is text = refl

accepted_found : (c : Checked Plant) (plant : Plant) → accepted plant ≡ verdict_of c → c ≡ fine plant
accepted_found (fine q) plant h = let same : q ≡ plant = cc h in ap (λ (p : Plant). fine p) same
accepted_found (faulty code line) plant h = absurd (cc)

not_refused : (w : Verdict) (plant : Plant) (code : ModelCode) (line : ℕ) → w ≡ accepted plant → w ≡ refused code line → ⊥
not_refused w plant code line a b = absurd (cc)

pub accepted_well : AcceptedIsWellFormed
accepted_well bytes plant v = by v refl
  where
    by : {w : Verdict} → IsVerdict bytes w → w ≡ accepted plant → is_well_formed plant ≡ true
    by {w} (not_read code line why e) is = absurd (not_refused w plant code line is e)
    by (is_checked text reads e) is =
        text_well bytes text plant reads (all_added empty text.statements) refl (sym (checked_is text) ∙ accepted_found (checked text) plant (sym is ∙ e))
