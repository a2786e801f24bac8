-- no two of them differ
use Rattle.std.proofs.Common.{sym, ◌∙◌}
use Rattle.std.specs.Cmp.{booleans_Decides}
use Rattle.std.specs.Cmp.Lexicographic.{pointwise_decides}
use Rattle.lv_guide.proofs.remembered.are_same_marks.Goals as goal

pub returns : goal.returns
returns c told = (pointwise_decides booleans_Decides c.args.one.now c.args.other.now).0 (sym c.eq.ensures ∙ told)
