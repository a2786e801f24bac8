-- a clause is false or without literals, or what is marked is closed
use Rattle.std.proofs.Common.{sym, subst}
use Rattle.lv_ltms.specs.System.{System, IsRefuted, IsWholeTrail}
use Rattle.lv_ltms.proofs.SystemLemmas.{some_refutes, consistent, whole_trail}
use Rattle.lv_ltms.proofs.ltms.Ltms.status.Goals as goal

pub returns-then-has_false-clause-status : goal.returns-then-has_false-clause-status
returns-then-has_false-clause-status c = subst IsRefuted c.self.view_is (some_refutes c.self.invariant (sym c.if-has_false.ensures))

pub returns-else-has_false-clause-status : goal.returns-else-has_false-clause-status
returns-else-has_false-clause-status c = subst (λ (s : System). ¬ IsRefuted s) c.self.view_is (consistent c.self.invariant (sym c.if-has_false.ensures))

pub returns-then-has_false-clause-trail : goal.returns-then-has_false-clause-trail
returns-then-has_false-clause-trail c = subst (λ (s : System). ¬ IsRefuted s → IsWholeTrail s) c.self.view_is (whole_trail c.self.invariant)

pub returns-else-has_false-clause-trail : goal.returns-else-has_false-clause-trail
returns-else-has_false-clause-trail c = subst (λ (s : System). ¬ IsRefuted s → IsWholeTrail s) c.self.view_is (whole_trail c.self.invariant)
