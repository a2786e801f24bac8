-- What observations and pairs say of truth values that encode an assignment and a full choice.
use Rattle.std.proofs.Common.{◌≡◌, ℕ, Bool, true, nat_eq, nat_lt, ◌&&◌, List, [], ◌∷◌, length, get_or, refl, sym, ap, ap₂, ◌∙◌, arith, All, ◌<◌, false}
use Rattle.std.specs.List.{list_all}
use Rattle.std.proofs.lemmas.Bool.{lt-ltb}
use Rattle.std.proofs.lemmas.List.Elements.{All-tail}
use Rattle.lv_base.specs.declared.ids.ValId.{ValId}
use Rattle.lv_base.specs.declared.ids.MoveId.{MoveId}
use Rattle.lv_base.specs.declared.search.Pair.{Pair}
use Rattle.lv_compile.specs.Booleans.{Booleans}
use Rattle.lv_compile.specs.Laws.{literal_is_true, Encode, EncodeMoves}
use Rattle.lv_compile.proofs.BooleanLemmas.{is_there}
use Rattle.lv_system.specs.Choices.{Choices}
use Rattle.lv_system.proofs.LiteralLemmas.{value_true, choice_true}
use Rattle.lv_meaning.specs.declared.facts.Observation.{Observation}
use Rattle.lv_meaning.specs.Facts.{meets, HasValue}
use Rattle.lv_meaning.specs.Possible.{extends}
use Rattle.lv_asking.specs.Literals.{observed_literals, pair_literals, HasMove}

module _ (truth : ℕ → Bool) where
  -- what was observed is true exactly where the assignment agrees
  pub observed_hold : (b : Booleans) (a : List ValId) → Encode truth b a → (os : List Observation) → All (HasValue b.sizes) os
      → list_all (literal_is_true truth) (observed_literals b os) ≡ meets a os
  observed_hold b a code [] have = refl
  observed_hold b a code (o ∷ os) have =
      ap₂ (λ (p q : Bool). p && q) (value_true truth b a code o.var.0 o.val.0 (have 0 o (omega arith)).below) (observed_hold b a code os (All-tail (HasValue b.sizes) o os have))

  -- what pairs say is true exactly where the full choice extends them
  pub pairs_hold : (c : Choices) (ms : List MoveId) → EncodeMoves truth c.first c.counts ms → (ps : List Pair) → All (HasMove c.counts) ps
      → list_all (literal_is_true truth) (pair_literals c ps) ≡ extends ms ps
  pairs_hold c ms code [] have = refl
  pairs_hold c ms code (p ∷ ps) have =
      let below = (have 0 p (omega arith)).below in
      let there : p.slot < length c.counts = is_there c.counts p.slot p.choice below in
      let each : length ms ≡ length c.counts = code.each in
      let within : nat_lt p.slot (length ms) ≡ true = lt-ltb p.slot (length ms) (omega (arith, there, each)) in
      ap₂ (λ (a b : Bool). a && b)
      (choice_true truth c ms code p.slot p.choice below ∙ sym (ap (λ b. b && nat_eq (get_or ms p.slot (record { 0 = 0 })).0 p.choice) within ∙ true_first (nat_eq (get_or ms p.slot (record { 0 = 0 })).0 p.choice)))
      (pairs_hold c ms code ps (All-tail (HasMove c.counts) p ps have))
    where
      true_first : (b : Bool) → (true && b) ≡ b
      true_first true = refl
      true_first false = refl
