-- The conflicts that a window keeps: impossible, minimal, and none has all choices of another.
use Rattle.std.proofs.Common.{◌≡◌, ℕ, true, not, List, []}
use Rattle.std.specs.List.{list_all}
use Rattle.lv_base.specs.declared.rank.Rank.{Rank}
use Rattle.lv_model.specs.declared.plant.Plant.{Plant}
use Rattle.lv_boxes.specs.Walk.{none_alike}
use Rattle.lv_boxes.specs.WalkLaws.{each_is_needed, none_in_another}
use Rattle.lv_search.proofs.DeletedReasons as deleted
use Rattle.lv_meaning.specs.declared.facts.Facts.{Facts}
use Rattle.lv_meaning.proofs.Reasons.{own_pairs}
use Rattle.lv_window.specs.Possible.{is_possible_over}
use Rattle.lv_window.specs.Walk.{window_walk}
use Rattle.lv_window.specs.Lawful.{part_over, monotone_over}

module _ (plant : Plant) (steps : List Facts) (k budget : ℕ) (ranks : List Rank) where
  pub kept_apart : none_in_another (window_walk plant steps k budget ranks).kept ≡ true
  kept_apart = deleted.kept_apart (is_possible_over plant steps) (monotone_over plant steps) (part_over plant steps) (own_pairs []) none_alike k budget ranks

  pub kept_impossible : list_all (λ conflict. not (is_possible_over plant steps conflict)) (window_walk plant steps k budget ranks).kept ≡ true
  kept_impossible = deleted.kept_impossible (is_possible_over plant steps) (monotone_over plant steps) (part_over plant steps) (own_pairs []) none_alike k budget ranks

  pub kept_needed : list_all (each_is_needed (is_possible_over plant steps) []) (window_walk plant steps k budget ranks).kept ≡ true
  kept_needed = deleted.kept_needed (is_possible_over plant steps) (monotone_over plant steps) (part_over plant steps) (own_pairs []) none_alike k budget ranks
