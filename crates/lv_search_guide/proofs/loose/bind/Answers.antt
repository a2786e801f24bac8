-- the choices of a conflict are taken out, or no member may contain it
use Rattle.std.proofs.Common.{refl, sym}
use Rattle.lv_search_guide.proofs.LooseLemmas.{bound_out, bound_not}
use Rattle.lv_search_guide.proofs.loose.bind.Goals as goal

pub returns-then-has_all : goal.returns-then-has_all
returns-then-has_all c conflicts are = bound_out conflicts c.args.pairs.now c.args.masks.now c.args.loose.now c.take_out.new.masks are c.take_out.ensures

pub returns-else-has_all : goal.returns-else-has_all
returns-else-has_all c conflicts are = bound_not conflicts c.args.pairs.now c.args.masks.now c.args.loose.now c.args.loose.now are (sym (rw c.if-has_all.false at c.has_all.ensures)) refl
