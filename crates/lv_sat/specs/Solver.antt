-- What a solver is seen as: its clauses, and what it refuted last.
use Rattle.std.specs.Prelude.{Option, Some}
use Rattle.lv_clauses.specs.ClauseMap.{ClauseMap}
use Rattle.lv_sat.specs.declared.answer.Answer.{Answer}
use Rattle.lv_sat.specs.declared.answer.Answer.TheVariants.{Sat, Unsat}
use Rattle.lv_sat.specs.declared.answer.Refutation.{Refutation}
use Rattle.lv_sat.specs.Answers.{IsRefutation}

-- the clauses present, and the last refutation, unless a clause was taken away since
pub record SolverValue : Type 0 where
  pub set : ClauseMap
  pub refuted : Option Refutation

-- it refutes its own core, and with it all assumptions that hold the core
abbrev pub Refutes : ClauseMap → Refutation → Type 0
Refutes set r = IsRefutation set r.core r.core r.log

-- the last refutation once this is answered: the answer, or else the one before
abbrev pub last_refuted : Option Refutation → Answer → Option Refutation
last_refuted before (Sat values log) = before
last_refuted before (Unsat core log) = Some (record { core = core; log = log })
