-- Ranks in order, none twice.
use Rattle.std.specs.Prelude.{Bool, true, ◌&&◌, ◌||◌, not, List, [], ◌∷◌}
use Rattle.std.specs.List.{list_all, list_any}
use Rattle.std.specs.BTreeSet.{insert_key}
use Rattle.lv_base.specs.declared.rank.Rank.{Rank}
use Rattle.lv_base.specs.Rank.{rank_cmp, ranks_before}

-- each ranks before all later ones
abbrev pub rises : List Rank → Bool
rises [] = true
rises (r ∷ rs) = list_all (ranks_before r) rs && rises rs

-- the ranks are the same, since neither ranks before the other
abbrev pub is_rank : Rank → Rank → Bool
is_rank r s = not (ranks_before r s || ranks_before s r)

-- the rank stands in the list
abbrev pub is_among : Rank → List Rank → Bool
is_among r rs = list_any (is_rank r) rs

-- ranks put in among ranks that are in order
abbrev pub put_in_order : List Rank → List Rank → List Rank
put_in_order sorted [] = sorted
put_in_order sorted (r ∷ rs) = put_in_order (insert_key rank_cmp sorted r) rs

-- the ranks in order
abbrev pub ranked : List Rank → List Rank
ranked rs = put_in_order [] rs
