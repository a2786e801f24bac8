use Rattle.std.proofs.Common.{◌∙◌}
use Rattle.lv_base.specs.Rank.{rank_key}
use Rattle.lv_base.proofs.OrderLemmas.{less_is_before}
use Rattle.lv_base.proofs.rank.Rank.before.Goals as goal

pub returns : goal.returns
returns c = c.is_lt.ensures ∙ less_is_before (rank_key c.args.self.now) (rank_key c.args.other.now) _ c.cmp.ensures
