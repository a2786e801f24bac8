-- Why a candidate needs no place among the listed ones.
use Rattle.std.specs.Prelude.{◌≡◌, ℕ, Bool, true, nat_eq, ◌&&◌, ◌||◌, List, length, Option, None, if◌then◌else◌}
use Rattle.std.specs.List.{list_any}
use Rattle.lv_base.specs.declared.ids.Cost.{Cost}
use Rattle.lv_base.specs.declared.rank.Rank.{Rank}
use Rattle.lv_base.specs.declared.search.Pair.{Pair}
use Rattle.lv_boxes.specs.Members.{ZoneValue}
use Rattle.lv_base.specs.Rank.{ranks_before}
use Rattle.lv_boxes.specs.Ranked.{is_rank}
use Rattle.lv_boxes.specs.Groups.{alike_by}
use Rattle.lv_boxes.specs.Walk.{is_ruled_out}
use Rattle.lv_boxes.specs.RankedMembers.{ranks_in}
use Rattle.lv_cert_meaning.specs.Space.{is_behind}
use Rattle.lv_cert_meaning.specs.Judging.{last_of}

-- a listed candidate stands for the rank: it is that one, or it ranks before it and is alike
abbrev pub stands_for : Option (List (List ℕ)) → Rank → Rank → Bool
stands_for groups r q = is_rank r q || (alike_by groups r q && ranks_before q r)

-- it ranks behind the last that counts, or an excluded conflict is in it, or a listed candidate stands for it
abbrev pub is_explained : Option (List (List ℕ)) → Option Rank → List Rank → List (List Pair) → Rank → Bool
is_explained groups last listed excluded r = is_behind last r || (is_ruled_out excluded r.choices || list_any (stands_for groups r) listed)

-- so is each member of these zones
pub record AreExplained (groups : Option (List (List ℕ))) (slots : List (List Cost)) (zones : List ZoneValue) (last : Option Rank) (listed : List Rank) (excluded : List (List Pair)) : Type 0 where
  pub each : (r : Rank) → list_any (ranks_in slots r) zones ≡ true → is_explained groups last listed excluded r ≡ true

-- the last of the listed, where as many are listed as are wanted
abbrev pub last_if_full : ℕ → List Rank → Option Rank
last_if_full k listed = if nat_eq (length listed) k then last_of listed else None
