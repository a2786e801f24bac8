-- The literals of facts are of booleans of values.
use Rattle.std.proofs.Common.{ℕ, ◌+◌, ◌≤◌, List, [], ◌∷◌, refl, arith, All}
use Rattle.std.specs.List.{sum}
use Rattle.std.proofs.lemmas.List.Elements.{All-tail, All-cons, All-append}
use Rattle.lv_model.specs.declared.plant.Plant.{Plant}
use Rattle.lv_compile.specs.Booleans.{Booleans, booleans_now, booleans_next, first_choice}
use Rattle.lv_compile.proofs.BooleanLemmas.{is_there, among_all}
use Rattle.lv_meaning.specs.declared.facts.Observation.{Observation}
use Rattle.lv_meaning.specs.declared.facts.Facts.{Facts}
use Rattle.lv_meaning.specs.Facts.{now_facts, HasValue, FactsInRange}
use Rattle.lv_asking.specs.Literals.{observed_literal, observed_literals, IsPositive}
use Rattle.lv_ident.specs.Literals.{fact_literals}

module _ (plant : Plant) where
  -- what facts say is of booleans of values
  pub observed_positive : (b : Booleans) (bound : ℕ) → b.first + sum b.sizes ≤ bound → (os : List Observation) → All (HasValue b.sizes) os → All (IsPositive bound) (observed_literals b os)
  observed_positive b bound few [] have = λ k d below. absurd (omega (arith, below))
  observed_positive b bound few (o ∷ os) have =
      let has = (have 0 o (omega arith)).below in
      let among = among_all b.sizes o.var.0 (is_there b.sizes o.var.0 o.val.0 has) in
      All-cons (IsPositive bound) (observed_literal b o) (observed_literals b os) (record { sign = refl; below = omega (arith, has, among, few) })
      (observed_positive b bound few os (All-tail (HasValue b.sizes) o os have))

  pub facts_positive : (facts : Facts) → FactsInRange plant facts → All (IsPositive (first_choice plant)) (fact_literals plant facts)
  facts_positive facts fit =
      All-append (IsPositive (first_choice plant)) (observed_literals (booleans_now plant) (now_facts plant facts)) (observed_literals (booleans_next plant) facts.next)
      (observed_positive (booleans_now plant) (first_choice plant) (omega arith) (now_facts plant facts) fit.now)
      (observed_positive (booleans_next plant) (first_choice plant) (omega arith) facts.next fit.next)
