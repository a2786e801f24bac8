-- the slots of a conflict rise
use Rattle.std.proofs.Common.{List, sym, subst}
use Rattle.std.specs.Prelude.{IsTrue}
use Rattle.lv_search_bans.specs.declared.bans.Choices.{Choices}
use Rattle.lv_search_bans.specs.Bans.{sets_rise}
use Rattle.lv_search_bans.proofs.BanLemmas.{pairs_rise}
use Rattle.lv_search_bans.proofs.bans.Ban.from_pairs.Goals as goal

pub invariant_of-result : goal.invariant_of-result
invariant_of-result c = subst (λ (ss : List Choices). IsTrue (sets_rise ss)) (sym c.in_ok-write_sets.ensures) (subst (λ b. IsTrue b) (sym (pairs_rise 0 c.args.pairs.now)) c.requires)
