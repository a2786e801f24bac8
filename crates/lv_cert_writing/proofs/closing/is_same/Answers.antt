-- ranks are one where they are compared by the same
use Rattle.std.proofs.Common.{◌∙◌}
use Rattle.lv_cert_writing.proofs.RankTest.{same_key}
use Rattle.lv_cert_writing.proofs.closing.is_same.Goals as goal

pub returns : goal.returns
returns c = c.eq.ensures ∙ same_key c.args.rank.now c.args.other.now
