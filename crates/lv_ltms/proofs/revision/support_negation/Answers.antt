-- the negation is looked at, or needs none
use Rattle.std.proofs.Common.{subst}
use Rattle.lv_clauses.specs.Marks.{is_marked}
use Rattle.lv_ltms.specs.Revising.{GetsSupport}
use Rattle.lv_ltms.proofs.SupportLemmas.{turned_by, turned_never}
use Rattle.lv_ltms.proofs.revision.support_negation.Goals as goal

pub returns-then-not-both : goal.returns-then-not-both
returns-then-not-both c =
    λ all upright among.
    turned_never (is_marked c.args.grounds.assumed.now) c.args.grounds.near.now c.args.grounds.far.now c.args.both all c.args.labels.now c.args.lit c.requires.labels.agrees c.requires.against c.if-not-both.true (upright c.if-not-both.true) among

pub returns : goal.returns
returns c =
    λ all upright among.
    turned_by (is_marked c.args.grounds.assumed.now) c.args.grounds.near.now c.args.grounds.far.now c.args.both all c.args.labels.now c.support.new.labels c.args.lit
    (subst (GetsSupport (is_marked c.args.grounds.assumed.now) c.args.grounds.near.now c.args.grounds.far.now c.args.labels.now c.support.new.labels) c.negation.ensures c.support.ensures)
