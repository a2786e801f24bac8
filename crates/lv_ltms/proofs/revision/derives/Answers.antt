-- a clause of two literals is seen by what it watches
use Rattle.std.proofs.Common.{◌&&◌, sym, ap₂, ◌∙◌}
use Rattle.lv_base.specs.declared.ids.Lit.{Lit}
use Rattle.lv_clauses.specs.ClauseMap.{clause_at}
use Rattle.lv_clauses.specs.Marks.{is_marked}
use Rattle.lv_ltms.specs.Watching.{lit_at}
use Rattle.lv_ltms.specs.Revising.{is_other_or_false}
use Rattle.lv_ltms.proofs.PairLemmas.{both_derive}
use Rattle.lv_ltms.proofs.revision.derives.Goals as goal

pub returns-then-is_pair : goal.returns-then-is_pair
returns-then-is_pair c =
    c.are_both_false_but.ensures
    ∙ ap₂ (λ (a b : Lit). is_other_or_false (is_marked c.args.marks.now) c.args.lit a && is_other_or_false (is_marked c.args.marks.now) c.args.lit b) c.lit.ensures c.lit-then-is_pair.ensures
    ∙ both_derive (is_marked c.args.marks.now) c.args.lit (lit_at c.args.grounds.near.now c.args.id.0) (lit_at c.args.grounds.far.now c.args.id.0) (clause_at c.args.grounds.arena.now c.args.id.0) (c.requires.pairs.both c.args.id.0) (sym c.is_pair.ensures ∙ c.if-is_pair.true)
