-- What the solver says of steps that are to end with a value; and values that are seen twice.
use Rattle.std.proofs.Common.{◌≡◌, ◌+◌, ◌<◌, ◌≤◌, ℕ, zero, suc, Bool, true, false, ◌&&◌, ◌||◌, List, [], ◌∷◌, ◌++◌, length, drop, get_or, Some, refl, sym, subst, ap, ap₂, ◌∙◌, arith, ◌⊎◌, inl, inr}
use Rattle.std.specs.List.{list_all, list_any}
use Rattle.std.proofs.lemmas.Bool.{and_parts, and_from, cases_eq}
use Rattle.std.proofs.lemmas.List.{drop_more, drop_all}
use Rattle.std.proofs.lemmas.List.Folds.{list_all-append}
use Rattle.lv_base.specs.declared.ids.Lit.{Lit}
use Rattle.lv_base.specs.declared.ids.ValId.{ValId}
use Rattle.lv_base.specs.declared.search.Pair.{Pair}
use Rattle.lv_clauses.specs.Literals.{in_range, lit_holds}
use Rattle.lv_clauses.specs.ClauseMap.{ClauseMap, slot_holds, satisfies}
use Rattle.lv_sat.specs.declared.answer.Answer.{Answer}
use Rattle.lv_sat.specs.declared.answer.Answer.TheVariants.{Sat, Unsat}
use Rattle.lv_sat.specs.Answers.{Answers, IsModel, IsRefutation, IsSatisfied}
use Rattle.lv_sat.specs.lv_clauses.declared.log.Step.{Step}
use Rattle.lv_model.specs.declared.plant.Plant.{Plant}
use Rattle.lv_model.specs.declared.state.State.{State}
use Rattle.lv_model.specs.Lists.{controls}
use Rattle.lv_model.specs.Meaning.{is_step, is_nominal}
use Rattle.lv_compile.specs.Booleans.{booleans_next, bool_count, value_literal}
use Rattle.lv_compile.specs.FormulaClauses.{size_of}
use Rattle.lv_meaning.specs.declared.facts.Observation.{Observation}
use Rattle.lv_meaning.specs.Facts.{agrees, meets}
use Rattle.lv_meaning.specs.Search.{some_below}
use Rattle.lv_meaning.specs.Recovers.{has_modes, has_controls, some_nominal_step}
use Rattle.lv_system.specs.Encoding.{truth_in}
use Rattle.lv_system.proofs.LiteralLemmas.{next_in_range, value_true}
use Rattle.lv_reconf.specs.Narrowing.{Asks}
use Rattle.lv_reconf.specs.Assuming.{AreAssumed, Assumes, HasMore}
use Rattle.lv_reconf.specs.Tests.{two_pass}
use Rattle.lv_reconf.proofs.NarrowingLemmas.{and_in_turn}
use Rattle.lv_reconf.proofs.AskingLemmas.{model_is_step, refuted}

alone : (b : Bool) → ((b || false) && true) ≡ b
alone true = refl
alone false = refl

module _ (plant : Plant) (present : List Observation) (ends : List ValId → Bool) (set : ClauseMap) (lits more : List Lit) (s : State) (pairs : List Pair) (asks : Asks plant present ends set)
    (assumes : Assumes plant [] lits (λ a. has_modes plant.parts s.modes a && has_controls (controls plant) a pairs)) (l : Lit)
    (adds : (bools : ℕ) → AreAssumed bools lits → in_range bools l ≡ true → HasMore bools lits more l)
    (o : Observation) (below : o.val.0 < size_of (booleans_next plant) o.var.0) (is : l ≡ value_literal (booleans_next plant) o.var.0 o.val.0 true) where
  has : HasMore (bool_count plant) lits more l
  has = adds (bool_count plant) assumes.assumed (ap (in_range (bool_count plant)) is ∙ next_in_range plant true o.var.0 o.val.0 below)

  -- the clauses with one more, that the literal is true
  abbrev narrow : ClauseMap
  narrow = record { bools = set.bools; slots = set.slots ++ Some (l ∷ []) ∷ [] }

  says : (values : List Bool) → satisfies values narrow.slots ≡ (satisfies values set.slots && lit_holds values l)
  says values = list_all-append (slot_holds values) set.slots (Some (l ∷ []) ∷ []) ∙ ap (λ b. satisfies values set.slots && b) (alone (lit_holds values l))

  asks_narrow : Asks plant present (λ b. ends b && agrees b o) narrow
  asks_narrow =
      record {
        bools = asks.bools;
        decodes = λ values h. asks.decodes values (and_parts (satisfies values set.slots) (lit_holds values l) (sym (says values) ∙ h)).0;
        exact =
            λ values a b ms code.
            says values
            ∙ ap₂ (λ (c d : Bool). c && d) (asks.exact values a b ms code) (ap (lit_holds values) is ∙ value_true (truth_in values) (booleans_next plant) b code.next o.var.0 o.val.0 below)
            ∙ and_in_turn ((is_step plant a b ms && meets a present) && is_nominal plant ms) (ends b) (agrees b o);
      }

  to_narrow : (values : List Bool) → IsModel set more values → IsModel narrow lits values
  to_narrow values m =
      let two = and_parts (list_all (lit_holds values) lits) (lit_holds values l) (sym (has.says values) ∙ m.all_assumptions) in
      record { len = m.len; all_clauses = says values ∙ and_from (satisfies values set.slots) (lit_holds values l) m.all_clauses two.1; all_assumptions = two.0 }

  from_narrow : (values : List Bool) → IsModel narrow lits values → IsModel set more values
  from_narrow values m =
      let two = and_parts (satisfies values set.slots) (lit_holds values l) (sym (says values) ∙ m.all_clauses) in
      record { len = m.len; all_clauses = two.0; all_assumptions = has.says values ∙ and_from (list_all (lit_holds values) lits) (lit_holds values l) m.all_assumptions two.1 }

  module _ (given : List Lit) (same : given ≡ more) (answer : Answer) (told : Answers set given answer) where
    pub shown_sat : (values : List Bool) (log : List Step) → answer ≡ Sat values log → true ≡ some_nominal_step plant present s pairs (λ b. ends b && agrees b o)
    shown_sat values log is_sat =
        let found : IsSatisfied set given values log = subst (λ (x : Answer). Answers set given x) is_sat told in
        sym (model_is_step plant present (λ b. ends b && agrees b o) narrow lits s pairs asks_narrow assumes values
        (to_narrow values (subst (λ (ls : List Lit). IsModel set ls values) same found.model)))

    pub shown_unsat : (core : List Lit) (log : List Step) → answer ≡ Unsat core log → false ≡ some_nominal_step plant present s pairs (λ b. ends b && agrees b o)
    shown_unsat core log is_unsat =
        let none : IsRefutation set given core log = subst (λ (x : Answer). Answers set given x) is_unsat told in
        sym (refuted plant present (λ b. ends b && agrees b o) narrow lits s pairs asks_narrow assumes
        (λ values m. none.none values (subst (λ (ls : List Lit). IsModel set ls values) (sym same) (from_narrow values m))))

-- along items: whether one passed, and what is left
module _ {X : Type 0} (p : X → Bool) (xs : List X) (i : ℕ) where
  next : (x : X) → i < length xs → x ≡ get_or xs i x → drop i xs ≡ x ∷ drop (i + 1) xs
  next x below at = drop_more xs i x below ∙ ap (λ (y : X). y ∷ drop (i + 1) xs) (sym at)

  abbrev with_rest : Bool → List X → Bool
  with_rest once ys = (once && list_any p ys) || two_pass p ys

  here : (x : X) (once shown : Bool) → i < length xs → x ≡ get_or xs i x → shown ≡ p x
      → with_rest once (drop i xs) ≡ ((once && (shown || list_any p (drop (i + 1) xs))) || ((shown && list_any p (drop (i + 1) xs)) || two_pass p (drop (i + 1) xs)))
  here x once shown below at is =
      ap (with_rest once) (next x below at) ∙ ap (λ (b : Bool). (once && (b || list_any p (drop (i + 1) xs))) || ((b && list_any p (drop (i + 1) xs)) || two_pass p (drop (i + 1) xs))) (sym is)

  pub twice_goes : (x : X) (once shown total : Bool) → i < length xs → x ≡ get_or xs i x → shown ≡ p x → (shown && once) ≡ false → with_rest once (drop i xs) ≡ total
      → with_rest (once || shown) (drop (i + 1) xs) ≡ total
  twice_goes x once shown total below at is not_both so_far = by once shown not_both (list_any p (drop (i + 1) xs)) (two_pass p (drop (i + 1) xs)) ∙ sym (here x once shown below at is) ∙ so_far
    where
      by : (o s : Bool) → (s && o) ≡ false → (a t : Bool) → (((o || s) && a) || t) ≡ ((o && (s || a)) || ((s && a) || t))
      by true true none a t = absurd (cc none)
      by true false none a t = refl
      by false true none a t = refl
      by false false none a t = refl

  pub twice_found : (x : X) (once shown total : Bool) → i < length xs → x ≡ get_or xs i x → shown ≡ p x → (shown && once) ≡ true → with_rest once (drop i xs) ≡ total → true ≡ total
  twice_found x once shown total below at is both so_far = by once shown both (list_any p (drop (i + 1) xs)) (two_pass p (drop (i + 1) xs)) ∙ sym (here x once shown below at is) ∙ so_far
    where
      by : (o s : Bool) → (s && o) ≡ true → (a t : Bool) → true ≡ ((o && (s || a)) || ((s && a) || t))
      by true true both a t = refl
      by true false both a t = absurd (cc both)
      by false true both a t = absurd (cc both)
      by false false both a t = absurd (cc both)

  pub twice_ends : (once total : Bool) → length xs ≤ i → with_rest once (drop i xs) ≡ total → false ≡ total
  twice_ends once total past so_far = by once ∙ sym (ap (with_rest once) (drop_all i xs past)) ∙ so_far
    where
      by : (o : Bool) → false ≡ ((o && false) || false)
      by true = refl
      by false = refl

-- some number below a bound passes
module _ (q : ℕ → Bool) where
  pub below_more : (n : ℕ) → q n ≡ false → some_below n q ≡ false → some_below (n + 1) q ≡ false
  below_more n none before =
      let more : suc n ≡ n + 1 = omega arith in
      subst (λ m. some_below m q ≡ false) more (ap (λ b. b || some_below n q) none ∙ before)

  pub below_found : (n v : ℕ) → v < n → q v ≡ true → some_below n q ≡ true
  below_found zero v less passes = absurd (omega (arith, less))
  below_found (suc n) v less passes = by (cases_eq v n) (below_found n v)
    where
      or_true : (b : Bool) → (b || true) ≡ true
      or_true true = refl
      or_true false = refl

      by : (v ≡ n) ⊎ (v ≡ n → ⊥) → (v < n → q v ≡ true → some_below n q ≡ true) → (q n || some_below n q) ≡ true
      by (inl same) later = ap (λ b. b || some_below n q) (ap q (sym same) ∙ passes)
      by (inr other) later = ap (λ b. q n || b) (later (omega (arith, less, other)) passes) ∙ or_true (q n)

pub and_false : (a b : Bool) → b ≡ false → (a && b) ≡ false
and_false true b e = e
and_false false b e = refl
