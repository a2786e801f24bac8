-- a literal joins the marks where its boolean is free, and is there otherwise
use Rattle.std.proofs.Common.{◌≡◌, ◌<◌, true, sym, subst}
use Rattle.lv_clauses.specs.Literals.{in_range}
use Rattle.lv_clauses.specs.Marks.{Marks, is_free}
use Rattle.lv_clauses.proofs.LiteralLemmas.{and_right}
use Rattle.lv_labels.specs.Assuming.{Joins}
use Rattle.lv_labels.proofs.AssumeLemmas.{joins_free, joins_held, over_more, true_more, held}
use Rattle.lv_labels.proofs.assuming.assume_one.Goals as goal

pub returns-in_ok-push-clause-over : goal.returns-in_ok-push-clause-over
returns-in_ok-push-clause-over c =
    λ base over.
    let free : is_free c.args.ltms.now.assumed c.args.lit ≡ true = and_right (in_range c.args.ltms.now.bools c.args.lit) (is_free c.args.ltms.now.assumed c.args.lit) (sym c.if-can_assume.ensures) in
    over_more base c.args.added.now.items c.push.new.self.items c.args.ltms.now c.assume.new.self.assumed c.args.lit c.requires.positive.whole c.requires.claim.within free c.assume.ensures.changed c.in_ok-push.ensures.items over

pub returns-in_ok-push-clause-joins : goal.returns-in_ok-push-clause-joins
returns-in_ok-push-clause-joins c =
    let free : is_free c.args.ltms.now.assumed c.args.lit ≡ true = and_right (in_range c.args.ltms.now.bools c.args.lit) (is_free c.args.ltms.now.assumed c.args.lit) (sym c.if-can_assume.ensures) in
    subst (λ (ms : Marks). Joins c.args.ltms.now.assumed c.args.lit ms) (sym c.assume.ensures.changed)
    (joins_free c.args.ltms.now.assumed c.args.lit (subst (λ n. c.args.lit.var.0 < n) (sym c.requires.positive.whole) c.requires.claim.within) free)

pub returns-in_ok-push-clause-positive : goal.returns-in_ok-push-clause-positive
returns-in_ok-push-clause-positive c =
    let free : is_free c.args.ltms.now.assumed c.args.lit ≡ true = and_right (in_range c.args.ltms.now.bools c.args.lit) (is_free c.args.ltms.now.assumed c.args.lit) (sym c.if-can_assume.ensures) in
    true_more c.args.ltms.now c.assume.new.self c.args.lit c.requires.positive c.requires.claim.positive c.requires.claim.within free c.assume.ensures.changed c.assume.ensures.bools

pub returns-else-can_assume-clause-joins : goal.returns-else-can_assume-clause-joins
returns-else-can_assume-clause-joins c =
    joins_held c.args.ltms.now c.args.lit c.requires.positive c.requires.claim.positive
    (held c.args.ltms.now c.args.lit c.requires.claim.within (sym c.if-can_assume.ensures))
