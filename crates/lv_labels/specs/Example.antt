-- Unit closures and labellings, computed. Booleans, variables and values count from 0.
use Rattle.std.specs.Prelude.{◌≡◌, true, false, [], ◌∷◌}
use Rattle.lv_compile.specs.Examples.{holds, fails}
use Rattle.lv_compile.specs.FormulaClauses.{Clauses}
use Rattle.lv_compile.specs.Valve.{valve}
use Rattle.lv_reply.specs.declared.labels.Moment.TheVariants.{Now, Next}
use Rattle.lv_labels.specs.declared.labelling.Labelling.TheVariants.{Contradiction, Labels}
use Rattle.lv_labels.specs.Labels.{label_of}
use Rattle.lv_labels.specs.Finding.{closure, is_contradictory, labelling}

-- the first holds, the second follows from it, and of two more at least one holds
abbrev pub chain : Clauses
chain = (holds 0 ∷ []) ∷ (fails 0 ∷ holds 1 ∷ []) ∷ (holds 2 ∷ holds 3 ∷ []) ∷ []

-- the second fails too
abbrev pub broken : Clauses
broken = (fails 1 ∷ []) ∷ chain

pub record ClosureExample : Type 0 where
  pub follows : closure chain [] ≡ holds 1 ∷ holds 0 ∷ []
  pub consistent : is_contradictory chain (closure chain []) ≡ false
  pub last_left : closure chain (fails 2 ∷ []) ≡ holds 3 ∷ holds 1 ∷ holds 0 ∷ fails 2 ∷ []
  pub both_signs : closure broken [] ≡ holds 1 ∷ fails 0 ∷ holds 0 ∷ fails 1 ∷ []
  pub contradictory : is_contradictory broken (closure broken []) ≡ true
  pub repeated : closure ((holds 0 ∷ holds 0 ∷ []) ∷ []) [] ≡ holds 0 ∷ []
  pub all_false : closure ((holds 0 ∷ holds 1 ∷ []) ∷ []) (fails 0 ∷ fails 1 ∷ []) ≡ holds 1 ∷ holds 0 ∷ fails 0 ∷ fails 1 ∷ []
  pub empty_clause : is_contradictory ([] ∷ []) (closure ([] ∷ []) []) ≡ true

-- of the valve whose inflow is present; commanded to open, and closed, it lets nothing out
pub record ValveLabelling : Type 0 where
  pub inflow : labelling valve [] ≡ Labels (label_of Now 2 1 ∷ label_of Next 2 1 ∷ [])
  pub closed : labelling valve (holds 5 ∷ holds 0 ∷ []) ≡ Labels (label_of Now 0 0 ∷ label_of Now 1 1 ∷ label_of Now 2 1 ∷ label_of Now 3 0 ∷ label_of Next 2 1 ∷ [])
  pub flows_out : labelling valve (holds 10 ∷ holds 0 ∷ []) ≡ Contradiction
