use Rattle.std.proofs.Common.{◌∙◌, sym}
use Rattle.lv_checker.proofs.checker.add_where.Goals as goal

pub add_going_on-requires : goal.add_going_on-requires
add_going_on-requires c = sym c.is_end.ensures ∙ c.if-is_end.false
