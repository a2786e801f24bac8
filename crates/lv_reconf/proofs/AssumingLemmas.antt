-- Literals that are assumed one after the other, and what they say together.
use Rattle.std.proofs.Common.{◌≡◌, ◌+◌, ◌<◌, ◌≤◌, ℕ, zero, suc, Bool, true, false, ◌&&◌, ◌||◌, not, nat_eq, List, [], ◌∷◌, ◌++◌, length, map, drop, get_or, slice_get, slice_index_or, refl, sym, subst, ap, ap₂, ◌∙◌, arith, IsTrue}
use Rattle.std.specs.List.{list_all, list_any}
use Rattle.std.specs.Option.{option_map_or}
use Rattle.std.proofs.lemmas.Bool.{and_parts, and_from, ltb-true, eqb-true}
use Rattle.std.proofs.lemmas.List.{drop_more, drop_all, length-map}
use Rattle.std.proofs.lemmas.List.Folds.{list_all-append}
use Rattle.lv_base.specs.declared.ids.Lit.{Lit}
use Rattle.lv_base.specs.declared.ids.ValId.{ValId}
use Rattle.lv_base.specs.declared.ids.VarId.{VarId}
use Rattle.lv_base.specs.declared.search.Pair.{Pair}
use Rattle.lv_clauses.specs.Literals.{is_clause, in_range, same_var, distinct, lit_holds}
use Rattle.lv_base.specs.declared.range.Range.{Range}
use Rattle.lv_base.specs.Fits.{has_value}
use Rattle.lv_base.specs.Tree.{number_of}
use Rattle.lv_model.specs.declared.plant.Plant.{Plant}
use Rattle.lv_model.specs.declared.plant.Part.{Part}
use Rattle.lv_model.specs.Ranges.{plant_ranges}
use Rattle.lv_model.specs.Lists.{sizes, controls}
use Rattle.lv_compile.specs.Booleans.{booleans_now, value_literal, bool_count}
use Rattle.lv_compile.specs.FormulaClauses.{size_of}
use Rattle.lv_compile.proofs.BooleanLemmas.{is_there}
use Rattle.lv_search.proofs.lv_boxes.RankedMemberLemmas.{one_test}
use Rattle.lv_system.specs.Encoding.{truth_in}
use Rattle.lv_system.proofs.LiteralLemmas.{value_true}
use Rattle.lv_meaning.specs.Commands.{control_sizes}
use Rattle.lv_meaning.specs.Ranges.{modes_fit}
use Rattle.lv_meaning.specs.Recovers.{has_modes, has_control, has_controls}
use Rattle.lv_reconf.specs.Assuming.{AreAssumed, HasMore, AssumesSoFar, Assumes, control_literal, pair_fits}
use Rattle.lv_reconf.proofs.NarrowingLemmas.{and_true, and_in_turn, value_has_bool}

or_parts : (a b : Bool) → (a || b) ≡ false → (a ≡ false) × (b ≡ false)
or_parts true b h = absurd (cc h)
or_parts false b h = (refl, h)

other_way : (x y : ℕ) → nat_eq x y ≡ false → not (nat_eq y x) ≡ true
other_way x y e = let f : nat_eq y x ≡ false = grind (arith, e) in ap not f

distinct_more : (xs : List Lit) (l : Lit) → distinct xs ≡ true → list_any (same_var l) xs ≡ false → distinct (xs ++ l ∷ []) ≡ true
distinct_more [] l apart none = refl
distinct_more (x ∷ xs) l apart none =
    let two = and_parts (list_all (λ (m : Lit). not (same_var x m)) xs) (distinct xs) apart in
    let others = or_parts (same_var l x) (list_any (same_var l) xs) none in
    and_from (list_all (λ (m : Lit). not (same_var x m)) (xs ++ l ∷ [])) (distinct (xs ++ l ∷ []))
    (list_all-append (λ (m : Lit). not (same_var x m)) xs (l ∷ [])
    ∙ and_from (list_all (λ (m : Lit). not (same_var x m)) xs) (not (same_var x l) && true) two.0 (and_true (not (same_var x l)) ∙ other_way l.var.0 x.var.0 others.0))
    (distinct_more xs l two.1 others.1)

clause_more : (bools : ℕ) (xs : List Lit) (l : Lit) → is_clause bools xs ≡ true → in_range bools l ≡ true → list_any (same_var l) xs ≡ false → is_clause bools (xs ++ l ∷ []) ≡ true
clause_more bools xs l clause ranged none =
    let two = and_parts (list_all (in_range bools) xs) (distinct xs) clause in
    and_from (list_all (in_range bools) (xs ++ l ∷ [])) (distinct (xs ++ l ∷ []))
    (list_all-append (in_range bools) xs (l ∷ []) ∙ and_from (list_all (in_range bools) xs) (in_range bools l && true) two.0 (and_true (in_range bools l) ∙ ranged))
    (distinct_more xs l two.1 none)

same_literal : (m l : Lit) → m.var.0 ≡ l.var.0 → m.sign ≡ l.sign → m ≡ l
same_literal m l e s = λ i. record { var = record { 0 = e i }; sign = s i }

module _ (values : List Bool) where
  -- a positive literal of a boolean that stands among positive literals is one of them
  repeated_holds : (xs : List Lit) (l : Lit) → l.sign ≡ true → list_any (same_var l) xs ≡ true → list_all (λ (m : Lit). m.sign) xs ≡ true → list_all (lit_holds values) xs ≡ true → lit_holds values l ≡ true
  repeated_holds [] l sign any positive holds = absurd (cc any)
  repeated_holds (x ∷ xs) l sign any positive holds = by (same_var l x) refl any (λ more. repeated_holds xs l sign more two.1 held.1)
    where
      two : (x.sign ≡ true) × (list_all (λ (m : Lit). m.sign) xs ≡ true)
      two = and_parts x.sign (list_all (λ (m : Lit). m.sign) xs) positive

      held : (lit_holds values x ≡ true) × (list_all (lit_holds values) xs ≡ true)
      held = and_parts (lit_holds values x) (list_all (lit_holds values) xs) holds

      by : (b : Bool) → same_var l x ≡ b → (b || list_any (same_var l) xs) ≡ true → (list_any (same_var l) xs ≡ true → lit_holds values l ≡ true) → lit_holds values l ≡ true
      by true e any rest = ap (lit_holds values) (same_literal l x (eqb-true l.var.0 x.var.0 e) (sign ∙ sym two.0)) ∙ held.0
      by false e any rest = rest any

pub has_it : (bools : ℕ) (xs : List Lit) (l : Lit) → l.sign ≡ true → AreAssumed bools xs → list_any (same_var l) xs ≡ true → HasMore bools xs xs l
has_it bools xs l sign assumed any =
    record {
      assumed = assumed;
      says =
          λ values.
          one_test (list_all (lit_holds values) xs) (list_all (lit_holds values) xs && lit_holds values l)
          (λ h. and_from (list_all (lit_holds values) xs) (lit_holds values l) h (repeated_holds values xs l sign any assumed.positive h))
          (λ h. (and_parts (list_all (lit_holds values) xs) (lit_holds values l) h).0);
    }

pub has_new : (bools : ℕ) (xs new : List Lit) (l : Lit) → l.sign ≡ true → AreAssumed bools xs → in_range bools l ≡ true → list_any (same_var l) xs ≡ false → new ≡ xs ++ l ∷ [] → HasMore bools xs new l
has_new bools xs new l sign assumed ranged none is =
    record {
      assumed = record {
        clause = subst (λ (ys : List Lit). IsTrue (is_clause bools ys)) (sym is) (clause_more bools xs l assumed.clause ranged none);
        positive =
            ap (list_all (λ (m : Lit). m.sign)) is
            ∙ list_all-append (λ (m : Lit). m.sign) xs (l ∷ [])
            ∙ and_from (list_all (λ (m : Lit). m.sign) xs) (l.sign && true) assumed.positive (and_true l.sign ∙ sign);
      };
      says =
          λ values.
          ap (list_all (lit_holds values)) is ∙ list_all-append (lit_holds values) xs (l ∷ []) ∙ ap (λ b. list_all (lit_holds values) xs && b) (and_true (lit_holds values l));
    }

module _ (plant : Plant) where
  pub value_assumed : (old new : List Lit) (x v : ℕ) (l : Lit) → v < size_of (booleans_now plant) x → l ≡ value_literal (booleans_now plant) x v true → HasMore (bool_count plant) old new l
      → Assumes plant old new (λ a. nat_eq (number_of a x) v)
  value_assumed old new x v l below is more =
      record {
        assumed = more.assumed;
        exact = λ values a code. more.says values ∙ ap (λ b. list_all (lit_holds values) old && b) (ap (lit_holds values) is ∙ value_true (truth_in values) (booleans_now plant) a code x v below);
      }

  pub assumes_start : (old : List Lit) (whole : List ValId → Bool) → AreAssumed (bool_count plant) old → AssumesSoFar plant old old whole whole
  assumes_start old whole assumed = record { assumed = assumed; exact = λ values a code. refl }

  pub assumes_by : (old mid new : List Lit) (before after whole fact : List ValId → Bool) → AssumesSoFar plant old mid before whole → Assumes plant mid new fact
      → ((a : List ValId) → before a ≡ (fact a && after a)) → AssumesSoFar plant old new after whole
  assumes_by old mid new before after whole fact so_far more splits =
      record {
        assumed = more.assumed;
        exact =
            λ values a code.
            ap (λ t. t && after a) (more.exact values a code)
            ∙ and_in_turn (list_all (lit_holds values) mid) (fact a) (after a)
            ∙ ap (λ t. list_all (lit_holds values) mid && t) (sym (splits a))
            ∙ so_far.exact values a code;
      }

  pub assumes_end : (old new : List Lit) (left whole : List ValId → Bool) → AssumesSoFar plant old new left whole → ((a : List ValId) → left a ≡ true) → Assumes plant old new whole
  assumes_end old new left whole so_far none =
      record {
        assumed = so_far.assumed;
        exact = λ values a code. sym (and_true (list_all (lit_holds values) new)) ∙ ap (λ t. list_all (lit_holds values) new && t) (sym (none a)) ∙ so_far.exact values a code;
      }

  pub assumes_both : (old mid new : List Lit) (one other : List ValId → Bool) → Assumes plant old mid one → Assumes plant mid new other → Assumes plant old new (λ a. one a && other a)
  assumes_both old mid new one other first second =
      record {
        assumed = second.assumed;
        exact =
            λ values a code.
            second.exact values a code ∙ ap (λ t. t && other a) (first.exact values a code) ∙ and_in_turn (list_all (lit_holds values) old) (one a) (other a);
      }

-- modes that fit

pub modes_long : (rs : List Range) (ps : List Part) (vs : List ValId) → modes_fit rs ps vs ≡ true → length vs ≡ length ps
modes_long rs [] [] h = refl
modes_long rs [] (v ∷ vs) h = absurd (cc h)
modes_long rs (p ∷ ps) [] h = absurd (cc h)
modes_long rs (p ∷ ps) (v ∷ vs) h = ap suc (modes_long rs ps vs ((and_parts (has_value rs p.first.0 v.0) (modes_fit rs ps vs) h).1))

pub mode_fits : (rs : List Range) (ps : List Part) (vs : List ValId) (k : ℕ) (d : Part) (e : ValId) → modes_fit rs ps vs ≡ true → k < length ps → has_value rs (get_or ps k d).first.0 (get_or vs k e).0 ≡ true
mode_fits rs [] vs k d e h below = absurd (omega (arith, below))
mode_fits rs (p ∷ ps) [] k d e h below = absurd (cc h)
mode_fits rs (p ∷ ps) (v ∷ vs) zero d e h below = (and_parts (has_value rs p.first.0 v.0) (modes_fit rs ps vs) h).0
mode_fits rs (p ∷ ps) (v ∷ vs) (suc k) d e h below = mode_fits rs ps vs k d e ((and_parts (has_value rs p.first.0 v.0) (modes_fit rs ps vs) h).1) (omega (arith, below))

module _ (plant : Plant) (vs : List ValId) (fit : modes_fit (plant_ranges plant) plant.parts vs ≡ true) where
  abbrev pub modes_left : ℕ → List ValId → Bool
  modes_left k = has_modes (drop k plant.parts) (drop k vs)

  pub mode_there : (k : ℕ) (p : Part) (e : ValId) (parts : List Part) → parts ≡ plant.parts → k < length parts → p ≡ get_or parts k p → (get_or vs k e).0 < size_of (booleans_now plant) p.first.0
  mode_there k p e parts same below at =
      let less : k < length plant.parts = subst (λ (ps : List Part). k < length ps) same below in
      let here : p ≡ get_or plant.parts k p = at ∙ ap (λ (ps : List Part). get_or ps k p) same in
      value_has_bool plant p.first.0 (get_or vs k e).0
      (ap (λ (q : Part). has_value (plant_ranges plant) q.first.0 (get_or vs k e).0) here ∙ mode_fits (plant_ranges plant) plant.parts vs k p e fit less)

  pub mode_more : (old mid new : List Lit) (k : ℕ) (p : Part) (e : ValId) (parts : List Part) → parts ≡ plant.parts → k < length parts → p ≡ get_or parts k p
      → AssumesSoFar plant old mid (modes_left k) (modes_left 0) → Assumes plant mid new (λ a. nat_eq (number_of a p.first.0) (get_or vs k e).0) → AssumesSoFar plant old new (modes_left (k + 1)) (modes_left 0)
  mode_more old mid new k p e parts same below at so_far more =
      let less : k < length plant.parts = subst (λ (ps : List Part). k < length ps) same below in
      let here : p ≡ get_or plant.parts k p = at ∙ ap (λ (ps : List Part). get_or ps k p) same in
      let long : length vs ≡ length plant.parts = modes_long (plant_ranges plant) plant.parts vs fit in
      let parts_are : drop k plant.parts ≡ p ∷ drop (k + 1) plant.parts = drop_more plant.parts k p less ∙ ap (λ (y : Part). y ∷ drop (k + 1) plant.parts) (sym here) in
      let modes_are : drop k vs ≡ get_or vs k e ∷ drop (k + 1) vs = drop_more vs k e (omega (arith, less, long)) in
      assumes_by plant old mid new (modes_left k) (modes_left (k + 1)) (modes_left 0) (λ a. nat_eq (number_of a p.first.0) (get_or vs k e).0) so_far more
      (λ a. ap₂ (λ (ps : List Part) (ws : List ValId). has_modes ps ws a) parts_are modes_are)

  pub all_modes : (k : ℕ) (parts : List Part) → parts ≡ plant.parts → length parts ≤ k → (a : List ValId) → modes_left k a ≡ true
  all_modes k parts same past a =
      let done : length plant.parts ≤ k = subst (λ (ps : List Part). length ps ≤ k) same past in
      let long : length vs ≡ length plant.parts = modes_long (plant_ranges plant) plant.parts vs fit in
      ap₂ (λ (ps : List Part) (ws : List ValId). has_modes ps ws a) (drop_all k plant.parts done) (drop_all k vs (omega (arith, done, long)))

-- controls

size_in_list : (f : VarId → ℕ) (cs : List VarId) (k : ℕ) (d : VarId) → k < length cs → slice_index_or (map f cs) k 0 ≡ f (get_or cs k d)
size_in_list f [] k d below = absurd (omega (arith, below))
size_in_list f (c ∷ cs) zero d below = refl
size_in_list f (c ∷ cs) (suc k) d below = size_in_list f cs k d (omega (arith, below))

pub control_at : (cs : List VarId) (a : List ValId) (p : Pair) (d : VarId) → p.slot < length cs → has_control cs a p ≡ nat_eq (number_of a (get_or cs p.slot d).0) p.choice
control_at cs a p d below = at cs p.slot below
  where
    at : (xs : List VarId) (k : ℕ) → k < length xs → option_map_or (λ (c : VarId). nat_eq (number_of a c.0) p.choice) (slice_get xs k) false ≡ nat_eq (number_of a (get_or xs k d).0) p.choice
    at [] k below = absurd (omega (arith, below))
    at (x ∷ xs) zero below = refl
    at (x ∷ xs) (suc k) below = at xs k (omega (arith, below))

module _ (plant : Plant) where
  pub slot_there : (p : Pair) (cs : List VarId) → cs ≡ controls plant → pair_fits plant p ≡ true → p.slot < length cs
  slot_there p cs same fits =
      let less : p.choice < slice_index_or (control_sizes plant) p.slot 0 = ltb-true p.choice (slice_index_or (control_sizes plant) p.slot 0) fits in
      let within : p.slot < length (control_sizes plant) = is_there (control_sizes plant) p.slot p.choice less in
      let long : length (control_sizes plant) ≡ length (controls plant) = length-map (controls plant) (λ (c : VarId). slice_index_or (sizes plant) c.0 0) in
      let as_long : length cs ≡ length (controls plant) = ap length same in
      omega (arith, within, long, as_long)

  pub value_there : (p : Pair) (cs : List VarId) (d : VarId) → cs ≡ controls plant → pair_fits plant p ≡ true → p.choice < size_of (booleans_now plant) (get_or cs p.slot d).0
  value_there p cs d same fits =
      let less : p.choice < slice_index_or (control_sizes plant) p.slot 0 = ltb-true p.choice (slice_index_or (control_sizes plant) p.slot 0) fits in
      let size : slice_index_or (control_sizes plant) p.slot 0 ≡ slice_index_or (sizes plant) (get_or (controls plant) p.slot d).0 0 =
      size_in_list (λ (c : VarId). slice_index_or (sizes plant) c.0 0) (controls plant) p.slot d (slot_there p (controls plant) refl fits)
      in
      subst (λ (xs : List VarId). p.choice < slice_index_or (sizes plant) (get_or xs p.slot d).0 0) (sym same) (omega (arith, less, size))

  pub control_assumed : (old new : List Lit) (p : Pair) (l : Lit) → pair_fits plant p ≡ true → l ≡ control_literal plant p → HasMore (bool_count plant) old new l
      → Assumes plant old new (λ a. has_control (controls plant) a p)
  control_assumed old new p l fits is more =
      let d : VarId = record { 0 = 0 } in
      let one : Assumes plant old new (λ a. nat_eq (number_of a (get_or (controls plant) p.slot d).0) p.choice) =
      value_assumed plant old new (get_or (controls plant) p.slot d).0 p.choice l (value_there p (controls plant) d refl fits) is more
      in
      record {
        assumed = one.assumed;
        exact = λ values a code. one.exact values a code ∙ ap (λ b. list_all (lit_holds values) old && b) (sym (control_at (controls plant) a p d (slot_there p (controls plant) refl fits)));
      }

  pub control_more : (old mid new : List Lit) (p : Pair) (left rest all : List Pair) → left ≡ p ∷ rest
      → AssumesSoFar plant old mid (λ a. has_controls (controls plant) a left) (λ a. has_controls (controls plant) a all) → Assumes plant mid new (λ a. has_control (controls plant) a p)
      → AssumesSoFar plant old new (λ a. has_controls (controls plant) a rest) (λ a. has_controls (controls plant) a all)
  control_more old mid new p left rest all is so_far more =
      assumes_by plant old mid new (λ a. has_controls (controls plant) a left) (λ a. has_controls (controls plant) a rest) (λ a. has_controls (controls plant) a all)
      (λ a. has_control (controls plant) a p) so_far more (λ a. ap (λ (ps : List Pair). has_controls (controls plant) a ps) is)
