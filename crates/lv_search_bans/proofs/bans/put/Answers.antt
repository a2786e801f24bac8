-- one that took them in
use Rattle.std.proofs.Common.{List, refl, subst}
use Rattle.std.specs.Prelude.{slice_set}
use Rattle.lv_search_bans.specs.declared.bans.Choices.{Choices}
use Rattle.lv_search_bans.specs.Bans.{HasOneMore}
use Rattle.lv_search_bans.proofs.BanLemmas.{one_more-taken}
use Rattle.lv_search_bans.proofs.bans.put.Goals as goal

pub returns-then-take_in : goal.returns-then-take_in
returns-then-take_in c =
    subst (λ (bans : List (List Choices)). HasOneMore bans c.args.sets.now (slice_set c.loop-place.bans.items c.loop-place.place c.take_in.new.self)) c.loop-place.invariant
    (one_more-taken c.loop-place.bans.items _ c.loop-place.place c.args.sets.now c.index_mut.result.now c.take_in.new.self c.index_mut.result.now c.index_mut.ensures.value (c.if-take_in.ensures.taken refl) refl)
