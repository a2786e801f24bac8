-- the trail is that of the clauses and assumptions present
use Rattle.std.proofs.Common.{subst}
use Rattle.lv_ltms.specs.System.{System, IsRefuted, IsWholeTrail}
use Rattle.lv_ltms.proofs.SystemLemmas.{whole_trail}
use Rattle.lv_ltms.proofs.ltms.Ltms.reason.Goals as goal

pub returns-clause-trail : goal.returns-clause-trail
returns-clause-trail c = subst (λ (s : System). ¬ IsRefuted s → IsWholeTrail s) c.self.view_is (whole_trail c.self.invariant) c.requires
