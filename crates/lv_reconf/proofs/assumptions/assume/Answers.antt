-- a literal of the same boolean is the same, since both are positive
use Rattle.std.proofs.Common.{sym, ◌∙◌}
use Rattle.lv_reconf.proofs.AssumingLemmas.{has_it, has_new}
use Rattle.lv_reconf.proofs.MarkLemmas.{adds_itself, adds_new}
use Rattle.lv_reconf.proofs.assumptions.assume.Goals as goal

pub returns-then-has_boolean-clause-says : goal.returns-then-has_boolean-clause-says
returns-then-has_boolean-clause-says c =
    λ bools assumed ranged. has_it bools c.args.lits.now.items c.args.lit c.requires assumed (rw (← c.as_slice.ensures.value) (sym c.has_boolean.ensures ∙ c.if-has_boolean.true))

pub returns-clause-adds : goal.returns-clause-adds
returns-clause-adds c = adds_new c.args.lits.now.items c.push.new.self.items c.args.lit c.in_ok-push.ensures.items

pub returns-clause-says : goal.returns-clause-says
returns-clause-says c =
    λ bools assumed ranged.
    has_new bools c.args.lits.now.items c.push.new.self.items c.args.lit c.requires assumed ranged (rw (← c.as_slice.ensures.value) (sym c.has_boolean.ensures ∙ c.if-has_boolean.false))
    c.in_ok-push.ensures.items

pub returns-then-has_boolean-clause-adds : goal.returns-then-has_boolean-clause-adds
returns-then-has_boolean-clause-adds c = adds_itself c.args.lits.now.items c.args.lit
