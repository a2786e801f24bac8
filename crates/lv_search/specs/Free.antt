-- Candidates without those that contain a known conflict.
use Rattle.std.specs.Prelude.{Bool, not, List, filter}
use Rattle.lv_base.specs.declared.rank.Rank.{Rank}
use Rattle.lv_base.specs.declared.search.Pair.{Pair}
use Rattle.lv_boxes.specs.Walk.{is_ruled_out}

-- its choices contain no known conflict
abbrev pub is_free_rank : List (List Pair) → Rank → Bool
is_free_rank known r = not (is_ruled_out known r.choices)

-- those of the candidates that contain no known conflict
abbrev pub free_of : List (List Pair) → List Rank → List Rank
free_of known left = filter (is_free_rank known) left
