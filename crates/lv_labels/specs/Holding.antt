-- The facts of one question after another, as claims: what is claimed is what was asked about last.
use Rattle.std.specs.Prelude.{◌≡◌, ◌<◌, ◌≤◌, ◌+◌, ◌-◌, ◌^◌, ℕ, List, ◌++◌, length, map, take, drop, All, Option, IsTrue}
use Rattle.lv_base.specs.declared.ids.Lit.{Lit}
use Rattle.lv_model.specs.declared.plant.Plant.{Plant}
use Rattle.lv_model.specs.declared.state.State.{State}
use Rattle.lv_meaning.specs.declared.facts.Facts.{Facts}
use Rattle.lv_meaning.specs.declared.facts.Observation.{Observation}
use Rattle.lv_meaning.specs.Facts.{now_facts, FactsFit}
use Rattle.lv_compile.specs.Booleans.{booleans_now}
use Rattle.lv_compile.specs.FormulaClauses.{size_of}
use Rattle.lv_reply.specs.declared.labels.Label.{Label}
use Rattle.lv_reply.specs.declared.labels.Moment.{Moment}
use Rattle.lv_reply.specs.declared.labels.Moment.TheVariants.{Now, Next}
use Rattle.lv_labels.specs.declared.values.Values.{Values}
use Rattle.lv_labels.specs.Values.{booleans_at}
use Rattle.lv_labels.specs.Literals.{values_of, mode_variables}
use Rattle.lv_labels.specs.Labels.{label_literal}
use Rattle.lv_labels.specs.Claims.{Claims, IsClaiming}
use Rattle.lv_labels.specs.Modes.{are_values, modes_in}

-- that a variable has the value that it was observed to have
abbrev pub claim_at : Moment → Observation → Label
claim_at moment o = record { moment = moment; var = o.var; val = o.val }

-- the controls' values and the present observations before the step, the next observations after it
abbrev pub fact_claims : Plant → Facts → List Label
fact_claims plant facts = map (claim_at Now) (now_facts plant facts) ++ map (claim_at Next) facts.next

abbrev pub claim_literals : Plant → List Label → List Lit
claim_literals plant claims = map (label_literal plant) claims

-- a claim of a value that the variable has
pub record IsClaimIn (values : Values) (x : Label) : Type 0 where
  pub below : x.val.0 < size_of (booleans_at values x.moment) x.var.0

-- so many claims can be counted twice
abbrev pub CLAIMS : ℕ
CLAIMS = 2 ^ 30

-- facts of the plant, few enough, each of a value that its variable has
pub record AreFactsIn (plant : Plant) (facts : Facts) : Type 0 where
  pub fit : FactsFit plant facts
  pub claims : All (IsClaimIn (values_of plant)) (fact_claims plant facts)
  pub few : length (fact_claims plant facts) ≤ CLAIMS

-- the claims before a place came in place of those before it
pub record AreTurned (to : ℕ) (before now : List Label) (old new : Claims) : Type 0 where
  pub values : new.values ≡ old.values
  pub modes : new.modes ≡ old.modes
  pub claiming : (plant : Plant) (literals : List Lit) → length before + length now + length literals < 2 ^ 32 - 1
      → IsClaiming plant (claim_literals plant before ++ literals) old
      → IsClaiming plant (claim_literals plant (take to now) ++ (claim_literals plant (drop to before) ++ literals)) new

-- if a state is given, each part's type has the mode that the part has in it
abbrev pub HasOwnModes : Plant → Option State → Type 0
HasOwnModes plant of = IsTrue (are_values (booleans_now plant) (mode_variables plant) (modes_in of))

-- just these are claimed
pub record IsHolding (plant : Plant) (claimed : List Label) (c : Claims) : Type 0 where
  pub claims : IsClaiming plant (claim_literals plant claimed) c
  pub within : All (IsClaimIn (values_of plant)) claimed
  pub few : length claimed ≤ CLAIMS
