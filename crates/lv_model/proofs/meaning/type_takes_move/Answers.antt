-- the move's guard is one of its type's
use Rattle.std.proofs.Common.{length, sym}
use Rattle.lv_model.specs.WellFormed.{GuardReads}
use Rattle.lv_model.proofs.Reading.{All-at}
use Rattle.lv_model.proofs.meaning.type_takes_move.Goals as goal

pub may_go-requires-clause-guard : goal.may_go-requires-clause-guard
may_go-requires-clause-guard c =
    All-at (GuardReads (length c.args.a.now) c.args.base.0) c.args.t.now.moves c.args.mv.0 c.in-Some.m.now c.requires.guards (sym (rw c.as_slice-moves.ensures at c.in-Some.ensures.found))
