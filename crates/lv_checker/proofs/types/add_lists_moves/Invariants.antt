use Rattle.std.proofs.Common.{◌≡◌}
use Rattle.lv_checker.specs.Drafts.{with_moves_in_place}
use Rattle.lv_checker.proofs.types.add_lists_moves.Given as goal

-- the moves left, put among those that are there, make the whole
abbrev pub invariant-moves : goal.invariant-moves
invariant-moves l =
    record l.lists { moves = with_moves_in_place l.m-iterator.rest.items l.lists.moves }
    ≡ record (l.initial.lists) { moves = with_moves_in_place l.initial.m-iterator.rest.items l.initial.lists.moves }
