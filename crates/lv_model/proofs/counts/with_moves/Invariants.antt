-- what was counted and the moves that are left come to all moves
use Rattle.std.proofs.Common.{◌≡◌, ◌+◌, ◌≤◌, drop}
use Rattle.lv_base.specs.declared.limits.TheConstants.{MODEL_CLAUSES}
use Rattle.lv_model.specs.Counts.{held, moves_count}
use Rattle.lv_model.proofs.counts.with_moves.Given as goal

abbrev pub invariant-loop-others : goal.invariant-loop-others
invariant-loop-others l = record {
  rest : held (l.out + moves_count l.sizes l.moves l.others (drop l.others l.moves)) ≡ held (l.total + moves_count l.sizes l.moves 0 l.moves);
  held : l.out ≤ MODEL_CLAUSES + 1;
}
