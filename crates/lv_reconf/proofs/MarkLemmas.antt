-- What is assumed of literals of which only the marked ones are asked for.
use Rattle.std.proofs.Common.{◌≡◌, ◌<◌, ℕ, Bool, true, false, ◌&&◌, ◌||◌, not, List, [], ◌∷◌, ◌++◌, length, filter, get_or, cond, refl, sym, ap, ◌∙◌}
use Rattle.std.specs.List.{list_all}
use Rattle.std.proofs.lemmas.Bool.{and_parts, and_from}
use Rattle.std.proofs.lemmas.List.Folds.{list_all-append}
use Rattle.std.proofs.lemmas.List.Sums.{AllPass-from_list_all}
use Rattle.lv_base.specs.declared.ids.Lit.{Lit}
use Rattle.lv_base.specs.declared.ids.ValId.{ValId}
use Rattle.lv_base.specs.declared.search.Pair.{Pair}
use Rattle.lv_clauses.specs.Literals.{lit_holds}
use Rattle.lv_clauses.specs.Marks.{Marks, is_marked}
use Rattle.lv_model.specs.declared.plant.Plant.{Plant}
use Rattle.lv_model.specs.Lists.{controls}
use Rattle.lv_compile.specs.Booleans.{booleans_now}
use Rattle.lv_compile.specs.Laws.{Encode}
use Rattle.lv_system.specs.Encoding.{truth_in}
use Rattle.lv_system.proofs.LiteralLemmas.{value_true}
use Rattle.lv_meaning.specs.Recovers.{has_modes, has_control, has_controls}
use Rattle.lv_reconf.specs.Assuming.{AddsOne, AddsControls, MarkedHold, Assumes, control_literal, marked_controls, pair_fits, pairs_fit}
use Rattle.lv_reconf.proofs.AssumingLemmas.{control_at, slot_there, value_there}

pub adds_itself : (xs : List Lit) (l : Lit) → AddsOne xs xs l
adds_itself xs l = record { each = λ test all one. all }

pub adds_new : (xs new : List Lit) (l : Lit) → new ≡ xs ++ l ∷ [] → AddsOne xs new l
adds_new xs new l is =
    record { each = λ test all one. ap (list_all test) is ∙ list_all-append test xs (l ∷ []) ∙ and_from (list_all test xs) (test l && true) all (and_from (test l) true one refl) }

pub adds_none : (plant : Plant) (xs : List Lit) (pairs : List Pair) → AddsControls plant xs xs pairs
adds_none plant xs pairs = record { each = λ test all each. all }

pub adds_control : (plant : Plant) (old mid new : List Lit) (pairs : List Pair) (i : ℕ) (d : Pair) → i < length pairs → AddsControls plant old mid pairs
    → AddsOne mid new (control_literal plant (get_or pairs i d)) → AddsControls plant old new pairs
adds_control plant old mid new pairs i d within so_far more =
    record { each = λ test all each. more.each test (so_far.each test all each) (AllPass-from_list_all (λ (p : Pair). test (control_literal plant p)) pairs each i d within) }

module _ (plant : Plant) (marks : Marks) (values : List Bool) where
  -- a literal that is marked holds
  abbrev holds_marked : Lit → Bool
  holds_marked l = not (is_marked marks l) || lit_holds values l

  holding : (t b : Bool) → b ≡ true → (not t || b) ≡ true
  holding true b h = h
  holding false b h = refl

  all_holding : (ls : List Lit) → list_all (lit_holds values) ls ≡ true → list_all holds_marked ls ≡ true
  all_holding [] h = refl
  all_holding (l ∷ ls) h =
      let two = and_parts (lit_holds values l) (list_all (lit_holds values) ls) h in
      and_from (holds_marked l) (list_all holds_marked ls) (holding (is_marked marks l) (lit_holds values l) two.0) (all_holding ls two.1)

  marked_hold : (ls : List Lit) → list_all holds_marked ls ≡ true → list_all (lit_holds values) (filter (is_marked marks) ls) ≡ true
  marked_hold [] h = refl
  marked_hold (l ∷ ls) h = by (is_marked marks l) (and_parts (holds_marked l) (list_all holds_marked ls) h).0 (marked_hold ls (and_parts (holds_marked l) (list_all holds_marked ls) h).1)
    where
      by : (b : Bool) → (not b || lit_holds values l) ≡ true → list_all (lit_holds values) (filter (is_marked marks) ls) ≡ true
          → list_all (lit_holds values) (cond b (l ∷ filter (is_marked marks) ls) (filter (is_marked marks) ls)) ≡ true
      by true one rest = and_from (lit_holds values l) (list_all (lit_holds values) (filter (is_marked marks) ls)) one rest
      by false one rest = rest

  module _ (a : List ValId) (code : Encode (truth_in values) (booleans_now plant) a) where
    control_holds : (p : Pair) → pair_fits plant p ≡ true → has_control (controls plant) a p ≡ true → lit_holds values (control_literal plant p) ≡ true
    control_holds p fits has =
        value_true (truth_in values) (booleans_now plant) a code (get_or (controls plant) p.slot (record { 0 = 0 })).0 p.choice (value_there plant p (controls plant) (record { 0 = 0 }) refl fits)
        ∙ sym (control_at (controls plant) a p (record { 0 = 0 }) (slot_there plant p (controls plant) refl fits))
        ∙ has

    pairs_pass : (ps : List Pair) → pairs_fit plant ps ≡ true → has_controls (controls plant) a (marked_controls plant marks ps) ≡ true
        → list_all (λ (p : Pair). holds_marked (control_literal plant p)) ps ≡ true
    pairs_pass [] fit has = refl
    pairs_pass (p ∷ ps) fit has =
        let two = and_parts (pair_fits plant p) (pairs_fit plant ps) fit in
        by (is_marked marks (control_literal plant p)) refl two.0 has (pairs_pass ps two.1)
      where
        by : (b : Bool) → is_marked marks (control_literal plant p) ≡ b → pair_fits plant p ≡ true
            → has_controls (controls plant) a (cond b (p ∷ marked_controls plant marks ps) (marked_controls plant marks ps)) ≡ true
            → (has_controls (controls plant) a (marked_controls plant marks ps) ≡ true → list_all (λ (q : Pair). holds_marked (control_literal plant q)) ps ≡ true)
            → list_all (λ (q : Pair). holds_marked (control_literal plant q)) (p ∷ ps) ≡ true
        by true e here h rest =
            let parts = and_parts (has_control (controls plant) a p) (has_controls (controls plant) a (marked_controls plant marks ps)) h in
            and_from (holds_marked (control_literal plant p)) (list_all (λ (q : Pair). holds_marked (control_literal plant q)) ps)
            (holding (is_marked marks (control_literal plant p)) (lit_holds values (control_literal plant p)) (control_holds p here parts.0)) (rest parts.1)
        by false e here h rest =
            and_from (holds_marked (control_literal plant p)) (list_all (λ (q : Pair). holds_marked (control_literal plant q)) ps)
            (ap (λ b. not b || lit_holds values (control_literal plant p)) e) (rest h)

pub all_marked_hold : (plant : Plant) (modes : List ValId) (pairs : List Pair) (mid new : List Lit) → pairs_fit plant pairs ≡ true → Assumes plant [] mid (has_modes plant.parts modes)
    → AddsControls plant mid new pairs → MarkedHold plant modes pairs new
all_marked_hold plant modes pairs mid new fit assumes adds =
    record {
      each =
          λ marks values a code begins commanded.
          marked_hold plant marks values new
          (adds.each (holds_marked plant marks values) (all_holding plant marks values mid (assumes.exact values a code ∙ begins)) (pairs_pass plant marks values a code pairs fit commanded));
    }
