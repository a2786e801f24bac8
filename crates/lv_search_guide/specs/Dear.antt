-- What a box keeps where choices are taken out that are too dear.
use Rattle.std.specs.Prelude.{◌≡◌, ℕ, ◌<◌, ◌≤◌, true, List, sum}
use Rattle.lv_base.specs.declared.ids.Cost.{Cost}
use Rattle.lv_base.specs.declared.search.Pair.{Pair}
use Rattle.lv_boxes.specs.Members.{choices_cost}
use Rattle.lv_search_bans.specs.Boxes.{is_free}

-- no other free members, all old ones that cost less than this, and no choice more
pub record KeepsUnder (slots : List (List Cost)) (conflicts : List (List Pair)) (under : ℕ) (old new : List ℕ) : Type 0 where
  pub inside : (choices : List ℕ) → is_free slots conflicts new choices ≡ true → is_free slots conflicts old choices ≡ true
  pub keeps : (choices : List ℕ) → is_free slots conflicts old choices ≡ true → choices_cost slots choices < under → is_free slots conflicts new choices ≡ true
  pub less : sum new ≤ sum old
