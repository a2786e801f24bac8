-- one conflict more
use Rattle.std.proofs.Common.{List, sym, ◌∙◌, subst}
use Rattle.std.specs.Prelude.{IsTrue}
use Rattle.lv_search_bans.specs.declared.bans.Choices.{Choices}
use Rattle.lv_search_bans.specs.Bans.{sets_rise}
use Rattle.lv_search_bans.proofs.BanLemmas.{pairs_rise, bans_more}
use Rattle.lv_search_bans.proofs.bans.rows_of.Goals as goal

pub put-requires : goal.put-requires
put-requires c = subst (λ (ss : List Choices). IsTrue (sets_rise ss)) (sym (c.as_slice.ensures.value ∙ c.in_ok-write_sets.ensures)) (subst (λ b. IsTrue b) (sym (pairs_rise 0 c.pairs.result.now)) c.pairs.ensures.rising)

pub loop-conflict-preserved : goal.loop-conflict-preserved
loop-conflict-preserved c =
    bans_more c.args.conflicts.now c.loop-conflict.conflict-index c.conflict-item.result c.pairs.result.now c.as_slice.result.now c.loop-conflict.rows.items c.put.new.bans.items c.loop-conflict-test.true
    (c.pairs.ensures.pairs ∙ c.conflict-item.is) (c.as_slice.ensures.value ∙ c.in_ok-write_sets.ensures) c.loop-conflict.invariant c.in_ok-put.ensures
