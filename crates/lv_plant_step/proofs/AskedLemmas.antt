-- The literals of what is asked are true exactly where a step is as asked.
use Rattle.std.proofs.Common.{◌≡◌, ◌<◌, ℕ, zero, suc, Bool, true, false, ◌&&◌, List, [], ◌∷◌, length, map, get_or, refl, sym, subst, ap, ap₂, ◌∙◌, arith, All}
use Rattle.std.specs.List.{list_all}
use Rattle.std.proofs.lemmas.Bool.{and_parts, ltb-true}
use Rattle.std.proofs.lemmas.List.Elements.{All-cons, All-append, All-nil, All-tail}
use Rattle.std.proofs.lemmas.List.Folds.{list_all-append}
use Rattle.lv_base.specs.declared.ids.Lit.{Lit}
use Rattle.lv_base.specs.declared.ids.ValId.{ValId}
use Rattle.lv_base.specs.declared.ids.MoveId.{MoveId}
use Rattle.lv_clauses.specs.Literals.{lit_holds}
use Rattle.lv_model.specs.declared.plant.Plant.{Plant}
use Rattle.lv_model.specs.declared.plant.Part.{Part}
use Rattle.lv_model.specs.lv_base.declared.range.Range.{Range}
use Rattle.lv_model.specs.lv_base.Fits.{has_value}
use Rattle.lv_model.specs.Ranges.{plant_ranges}
use Rattle.lv_model.specs.Lists.{sizes}
use Rattle.lv_meaning.specs.declared.facts.Observation.{Observation}
use Rattle.lv_meaning.specs.Facts.{meets, now_facts, agrees, HasValue}
use Rattle.lv_meaning.specs.Ranges.{modes_fit}
use Rattle.lv_meaning.specs.Recovers.{has_modes}
use Rattle.lv_system.specs.lv_compile.Booleans.{booleans_now, bool_count}
use Rattle.lv_system.specs.Encoding.{truth_in}
use Rattle.lv_system.proofs.LiteralLemmas.{now_in_range}
use Rattle.lv_ident.specs.Literals.{observed_literal, observed_literals, plant_choices}
use Rattle.lv_ident.proofs.MeaningLemmas.{observed_hold}
use Rattle.lv_plant_step.specs.declared.asked.Asked.{Asked}
use Rattle.lv_plant_step.specs.PlantSteps.{is_as_asked, AskedFits}
use Rattle.lv_plant_step.specs.Literals.{mode_facts, begin_facts, move_literals, asked_literals}
use Rattle.lv_plant_step.specs.Assuming.{Assumption, holds, IsLit, SaysMore}
use Rattle.lv_plant_step.specs.Finding.{Encodes, Asks}
use Rattle.lv_plant_step.proofs.NamedLemmas.{moves_as_named, moves_are_lits}

-- modes that fit

pub modes_long : (rs : List Range) (ps : List Part) (vs : List ValId) → modes_fit rs ps vs ≡ true → length vs ≡ length ps
modes_long rs [] [] h = refl
modes_long rs [] (v ∷ vs) h = absurd (cc h)
modes_long rs (p ∷ ps) [] h = absurd (cc h)
modes_long rs (p ∷ ps) (v ∷ vs) h = ap suc (modes_long rs ps vs ((and_parts (has_value rs p.first.0 v.0) (modes_fit rs ps vs) h).1))

modes_met : (a : List ValId) (rs : List Range) (ps : List Part) (vs : List ValId) → modes_fit rs ps vs ≡ true → meets a (mode_facts ps vs) ≡ has_modes ps vs a
modes_met a rs [] [] h = refl
modes_met a rs [] (v ∷ vs) h = absurd (cc h)
modes_met a rs (p ∷ ps) [] h = absurd (cc h)
modes_met a rs (p ∷ ps) (v ∷ vs) h =
    ap (λ b. agrees a (record { var = p.first; val = v }) && b) (modes_met a rs ps vs ((and_parts (has_value rs p.first.0 v.0) (modes_fit rs ps vs) h).1))

-- a value that a variable has by its range has a boolean
below_size : (rs : List Range) (x v : ℕ) → has_value rs x v ≡ true → v < get_or (map (λ (r : Range). r.size) rs) x 0
below_size [] x v h = absurd (cc h)
below_size (r ∷ rs) zero v h = ltb-true v r.size h
below_size (r ∷ rs) (suc x) v h = below_size rs x v h

modes_have : (plant : Plant) (ps : List Part) (vs : List ValId) → modes_fit (plant_ranges plant) ps vs ≡ true → All (HasValue (sizes plant)) (mode_facts ps vs)
modes_have plant [] vs h = All-nil (HasValue (sizes plant))
modes_have plant (p ∷ ps) [] h = All-nil (HasValue (sizes plant))
modes_have plant (p ∷ ps) (v ∷ vs) h =
    let two = and_parts (has_value (plant_ranges plant) p.first.0 v.0) (modes_fit (plant_ranges plant) ps vs) h in
    All-cons (HasValue (sizes plant)) (record { var = p.first; val = v }) (mode_facts ps vs) (record { below = below_size (plant_ranges plant) p.first.0 v.0 two.0 }) (modes_have plant ps vs two.1)

module _ (plant : Plant) (asked : Asked) (fit : AskedFits plant asked) where
  pub begin_have : All (HasValue (sizes plant)) (begin_facts plant asked)
  begin_have = All-append (HasValue (sizes plant)) (now_facts plant asked.facts) (mode_facts plant.parts asked.modes) fit.in_range.now (modes_have plant plant.parts asked.modes fit.modes)

  observed_lits : (os : List Observation) → All (HasValue (sizes plant)) os → All (IsLit (bool_count plant)) (observed_literals (booleans_now plant) os)
  observed_lits [] have = All-nil (IsLit (bool_count plant))
  observed_lits (o ∷ os) have =
      All-cons (IsLit (bool_count plant)) (observed_literal (booleans_now plant) o) (observed_literals (booleans_now plant) os)
      (record { below = now_in_range plant true o.var.0 o.val.0 (have 0 o (omega arith)).below }) (observed_lits os (All-tail (HasValue (sizes plant)) o os have))

  pub asked_are_lits : (lits : List Lit) → lits ≡ asked_literals plant asked → (bools : ℕ) → bools ≡ bool_count plant → All (IsLit bools) lits
  asked_are_lits lits are bools count =
      subst (λ (n : ℕ). All (IsLit n) lits) (sym count)
      (subst (λ (ls : List Lit). All (IsLit (bool_count plant)) ls) (sym are)
      (All-append (IsLit (bool_count plant)) (observed_literals (booleans_now plant) (begin_facts plant asked)) (move_literals plant.types (plant_choices plant) 0 plant.parts asked.faults)
      (observed_lits (begin_facts plant asked) begin_have) (moves_are_lits plant plant.types 0 plant.parts asked.faults refl fit.faults)))

  asked_hold : (values : List Bool) (a b : List ValId) (ms : List MoveId) → Encodes plant values a b ms → list_all (lit_holds values) (asked_literals plant asked) ≡ is_as_asked plant asked a ms
  asked_hold values a b ms code =
      list_all-append (lit_holds values) (observed_literals (booleans_now plant) (begin_facts plant asked)) (move_literals plant.types (plant_choices plant) 0 plant.parts asked.faults)
      ∙ ap₂ (λ (p q : Bool). p && q)
      (observed_hold (truth_in values) (booleans_now plant) a code.now (begin_facts plant asked) begin_have
      ∙ list_all-append (agrees a) (now_facts plant asked.facts) (mode_facts plant.parts asked.modes)
      ∙ ap (λ t. meets a (now_facts plant asked.facts) && t) (modes_met a (plant_ranges plant) plant.parts asked.modes fit.modes))
      (moves_as_named (truth_in values) (plant_choices plant) ms code.choice plant.types 0 plant.parts asked.faults refl fit.faults)

  -- what is assumed where all that is asked is, and nothing else
  pub asks_all : (s new : Assumption) (lits : List Lit) (bools : ℕ) → bools ≡ bool_count plant → s ≡ record { bools = bools; lits = []; has_clash = false } → lits ≡ asked_literals plant asked
      → SaysMore s new (λ values. list_all (lit_holds values) lits) → Asks plant asked [] new
  asks_all s new lits bools count fresh are more =
      record {
        bools = more.bools ∙ ap (λ (x : Assumption). x.bools) fresh ∙ count;
        says =
            λ values a b ms code.
            more.says values
            ∙ ap₂ (λ (p q : Bool). p && q) (ap (holds values) fresh) (ap (list_all (lit_holds values)) are ∙ asked_hold values a b ms code)
            ∙ sym (and_true (is_as_asked plant asked a ms));
      }
    where
      and_true : (b : Bool) → (b && true) ≡ b
      and_true true = refl
      and_true false = refl
