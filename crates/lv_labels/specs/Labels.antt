-- What propagation alone finds: the values of variables whose literals are in the unit closure of the model's clauses and of
-- literals assumed.
use Rattle.std.specs.Prelude.{◌≡◌, ℕ, ◌+◌, Bool, true, List, [], ◌∷◌, ◌++◌, map, filter, Some}
use Rattle.std.specs.List.{range_with_len}
use Rattle.lv_base.specs.declared.ids.Lit.{Lit}
use Rattle.lv_clauses.specs.Closure.{InClosure, IsContradictory}
use Rattle.lv_ltms.specs.System.{in_list}
use Rattle.lv_model.specs.declared.plant.Plant.{Plant}
use Rattle.lv_model.specs.Lists.{sizes}
use Rattle.lv_compile.specs.ModelClauses.{model_clauses}
use Rattle.lv_reply.specs.declared.labels.Label.{Label}
use Rattle.lv_reply.specs.declared.labels.Moment.{Moment}
use Rattle.lv_reply.specs.declared.labels.Moment.TheVariants.{Now, Next}
use Rattle.lv_labels.specs.declared.labelling.Labelling.{Labelling}
use Rattle.lv_labels.specs.declared.labelling.Labelling.TheVariants.{Contradiction, Labels}
use Rattle.lv_labels.specs.Literals.{value_at}

abbrev pub label_of : Moment → ℕ → ℕ → Label
label_of moment x v = record { moment = moment; var = record { 0 = x }; val = record { 0 = v } }

-- each value of a variable that has so many
abbrev pub value_labels : Moment → ℕ → ℕ → List Label
value_labels moment x n = map (label_of moment x) (range_with_len 0 n)

-- of variables that have so many values each, the first of which has this number
abbrev pub labels_from : Moment → ℕ → List ℕ → List Label
labels_from moment x [] = []
labels_from moment x (n ∷ ns) = value_labels moment x n ++ labels_from moment (x + 1) ns

-- each value of each variable before the step, then after it
abbrev pub all_labels : Plant → List Label
all_labels plant = labels_from Now 0 (sizes plant) ++ labels_from Next 0 (sizes plant)

abbrev pub label_literal : Plant → Label → Lit
label_literal plant x = value_at plant x.moment x.var.0 x.val.0

-- the literal is in the unit closure of the model's clauses and these literals
abbrev pub IsFound : Plant → List Lit → Lit → Type 0
IsFound plant literals l = InClosure (map Some (model_clauses plant)) (in_list literals) l

-- that closure is contradictory
abbrev pub IsRefutedBy : Plant → List Lit → Type 0
IsRefutedBy plant literals = IsContradictory (map Some (model_clauses plant)) (in_list literals)

-- the closure isn't contradictory, a test tells what is in it, and the labels are those whose literals pass the test, in order
pub record AreFound (plant : Plant) (literals : List Lit) (labels : List Label) : Type 0 where
  pub consistent : ¬ IsRefutedBy plant literals
  pub has : Lit → Bool
  pub sound : (l : Lit) → has l ≡ true → IsFound plant literals l
  pub complete : (l : Lit) → IsFound plant literals l → has l ≡ true
  pub listed : labels ≡ filter (λ (x : Label). has (label_literal plant x)) (all_labels plant)

abbrev pub IsLabelling : Plant → List Lit → Labelling → Type 0
IsLabelling plant literals Contradiction = IsRefutedBy plant literals
IsLabelling plant literals (Labels labels) = AreFound plant literals labels
