-- what is left fits the marks exactly where the clause is one over the booleans, and denying it leads to the same
use Rattle.std.proofs.Common.{◌≡◌, length, drop}
use Rattle.lv_clauses.specs.Literals.{is_clause}
use Rattle.lv_clauses.specs.Following.{denied}
use Rattle.lv_refcheck.proofs.DenialLemmas.{fits}
use Rattle.lv_refcheck.proofs.pass.deny.Given as goal

abbrev pub invariant-loop-lit : goal.invariant-loop-lit
invariant-loop-lit l =
    record {
      clause : fits l.marks (drop l.lit-index l.clause) ≡ is_clause (length l.fn.marks) l.clause;
      denied : denied l.marks (drop l.lit-index l.clause) ≡ denied l.fn.marks l.clause;
      len : length l.marks ≡ length l.fn.marks;
    }
