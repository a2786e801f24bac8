-- Unit propagation as a function: literals are added to those that are true one by one, each forced by a clause, until no clause forces
-- another.
use Rattle.std.specs.Prelude.{ℕ, zero, suc, Bool, true, false, not, ◌&&◌, ◌||◌, if◌then◌else◌, List, [], ◌∷◌, ◌++◌, length, filter, find, Option, None, Some}
use Rattle.std.specs.List.{list_all, list_any}
use Rattle.std.specs.Option.{option_or}
use Rattle.lv_base.specs.declared.ids.Lit.{Lit}
use Rattle.lv_clauses.specs.Literals.{neg}
use Rattle.lv_ltms.specs.Trail.{same_lit}
use Rattle.lv_ltms.specs.System.{in_list}
use Rattle.lv_model.specs.declared.plant.Plant.{Plant}
use Rattle.lv_compile.specs.FormulaClauses.{Clauses}
use Rattle.lv_compile.specs.ModelClauses.{model_clauses}
use Rattle.lv_reply.specs.declared.labels.Label.{Label}
use Rattle.lv_labels.specs.declared.labelling.Labelling.{Labelling}
use Rattle.lv_labels.specs.declared.labelling.Labelling.TheVariants.{Contradiction, Labels}
use Rattle.lv_labels.specs.Labels.{all_labels, label_literal}

-- the clause's other literals are false
abbrev pub is_forced : List Lit → List Lit → Lit → Bool
is_forced known c l = list_all (λ (m : Lit). same_lit m l || in_list known (neg m)) c

-- and the literal isn't known yet
abbrev pub is_news : List Lit → List Lit → Lit → Bool
is_news known c l = not (in_list known l) && is_forced known c l

-- what the clause adds, if anything
abbrev pub unit_of : List Lit → List Lit → Option Lit
unit_of known c = find (is_news known c) c

-- what the first clause adds that adds anything
abbrev pub next_unit : Clauses → List Lit → Option Lit
next_unit [] known = None
next_unit (c ∷ cs) known = option_or (unit_of known c) (next_unit cs known)

-- goes on with the literal that was added, or ends
abbrev pub after : Option Lit → List Lit → (List Lit → List Lit) → List Lit
after None known more = known
after (Some l) known more = more (l ∷ known)

-- with at most so many literals added
abbrev pub grown : ℕ → Clauses → List Lit → List Lit
grown zero cs known = known
grown (suc n) cs known = after (next_unit cs known) known (grown n cs)

abbrev pub all_literals : Clauses → List Lit
all_literals [] = []
all_literals (c ∷ cs) = c ++ all_literals cs

-- the unit closure of the clauses and of literals assumed: no more literals are added than stand in the clauses
abbrev pub closure : Clauses → List Lit → List Lit
closure cs assumed = grown (length (all_literals cs)) cs assumed

abbrev pub is_empty : List Lit → Bool
is_empty [] = true
is_empty (l ∷ ls) = false

-- a literal is known with its negation, or a clause is empty
abbrev pub is_contradictory : Clauses → List Lit → Bool
is_contradictory cs known = list_any is_empty cs || list_any (λ (l : Lit). in_list known (neg l)) known

-- that there is a contradiction, or the labels whose literals are known
abbrev pub labelling_by : Plant → Clauses → List Lit → Labelling
labelling_by plant cs known = if is_contradictory cs known then Contradiction else Labels (filter (λ (x : Label). in_list known (label_literal plant x)) (all_labels plant))

-- what propagation finds of the model's clauses and the literals
unfoldable pub labelling : Plant → List Lit → Labelling
labelling plant literals = labelling_by plant (model_clauses plant) (closure (model_clauses plant) literals)
