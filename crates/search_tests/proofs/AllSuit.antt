-- Every candidate suits a trial that all suit.
use Rattle.std.proofs.Common.{◌≡◌, true, List, [], ◌∷◌, refl}
use Rattle.std.specs.List.{list_all}
use Rattle.lv_base.specs.declared.rank.Rank.{Rank}

pub all_suit_it : (rs : List Rank) → list_all (λ r. true) rs ≡ true
all_suit_it [] = refl
all_suit_it (r ∷ rs) = all_suit_it rs
