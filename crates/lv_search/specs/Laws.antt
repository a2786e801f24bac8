-- What the entries of a search are, and where its walk begins.
use Rattle.std.specs.Prelude.{◌≡◌, ℕ, Bool, true, List, [], Option}
use Rattle.std.specs.List.{list_any}
use Rattle.lv_base.specs.declared.ids.Cost.{Cost}
use Rattle.lv_base.specs.declared.rank.Rank.{Rank}
use Rattle.lv_base.specs.declared.search.Pair.{Pair}
use Rattle.lv_base.specs.declared.search.Candidate.{Candidate}
use Rattle.lv_boxes.specs.Members.{ZoneValue, is_member}
use Rattle.lv_boxes.specs.Ranked.{rises, is_among}
use Rattle.lv_boxes.specs.RankedMembers.{ranked_members, ranks_in}
use Rattle.lv_search.specs.Standing.{IsUnderWay}
use Rattle.lv_boxes.specs.Walk.{suit_all}

-- they rise; the ranks of the zones' members stand in them and no others; what all members pass they pass
pub record RankedMembersAreMembers : Type 0 where
  pub rising : (slots : List (List Cost)) (zones : List ZoneValue) → rises (ranked_members slots zones) ≡ true
  pub among : (slots : List (List Cost)) (zones : List ZoneValue) (r : Rank) → is_among r (ranked_members slots zones) ≡ list_any (ranks_in slots r) zones
  pub all : (slots : List (List Cost)) (zones : List ZoneValue) (suits : Candidate → Bool)
      → ((c : Candidate) → list_any (λ zone. is_member slots zone c) zones ≡ true → suits c ≡ true) → suit_all suits (ranked_members slots zones) ≡ true

abbrev pub StartIsUnderWay : Type 0
StartIsUnderWay = (suits fits : Candidate → Bool) (reason : Candidate → List Pair) (k : ℕ) (groups : Option (List (List ℕ))) (entries : List Rank)
    → IsUnderWay suits fits reason entries (record { k = k; groups = groups; listed = []; kept = []; left = entries })
