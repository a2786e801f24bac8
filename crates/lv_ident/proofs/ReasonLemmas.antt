-- The reasons of a diagnosis: of full choices, impossible, minimal, and none has all choices of another.
use Rattle.std.proofs.Common.{◌≡◌, ℕ, Bool, true, not, List, []}
use Rattle.std.specs.List.{list_all}
use Rattle.lv_base.specs.declared.rank.Rank.{Rank}
use Rattle.lv_base.specs.Choices.{pairs_of}
use Rattle.lv_model.specs.declared.plant.Plant.{Plant}
use Rattle.lv_model.specs.Lists.{move_counts}
use Rattle.lv_boxes.specs.WalkLaws.{each_is_needed, none_in_another}
use Rattle.lv_search.proofs.DeletedReasons as deleted
use Rattle.lv_meaning.specs.declared.facts.Facts.{Facts}
use Rattle.lv_meaning.specs.Possible.{is_possible}
use Rattle.lv_meaning.specs.Diagnosis.{diagnosis_walk}
use Rattle.lv_meaning.specs.Targets.{are_alike}
use Rattle.lv_meaning.specs.PossibleLaws.{are_below}
use Rattle.lv_meaning.proofs.Possibility.{part_possible}
use Rattle.lv_meaning.proofs.Reasons.{is_monotone, own_pairs}
use Rattle.lv_asking.proofs.FullLemmas.{full_is_partial as full_of_counts}
use Rattle.lv_ident.specs.Literals.{IsPartial}

-- the pairs of a full choice are moves of their parts, part by part
pub full_is_partial : (plant : Plant) (cs : List ℕ) → are_below (move_counts plant) cs ≡ true → IsPartial plant (pairs_of cs)
full_is_partial plant = full_of_counts (move_counts plant)

module _ (plant : Plant) (facts : Facts) (k budget : ℕ) (distinct : Bool) (ranks : List Rank) where
  pub kept_apart_law : none_in_another (diagnosis_walk plant facts k distinct budget ranks).kept ≡ true
  kept_apart_law = deleted.kept_apart (is_possible plant facts) (is_monotone plant facts) (part_possible plant facts) (own_pairs []) (are_alike distinct plant) k budget ranks

  pub kept_impossible_law : list_all (λ conflict. not (is_possible plant facts conflict)) (diagnosis_walk plant facts k distinct budget ranks).kept ≡ true
  kept_impossible_law = deleted.kept_impossible (is_possible plant facts) (is_monotone plant facts) (part_possible plant facts) (own_pairs []) (are_alike distinct plant) k budget ranks

  pub kept_needed_law : list_all (each_is_needed (is_possible plant facts) []) (diagnosis_walk plant facts k distinct budget ranks).kept ≡ true
  kept_needed_law = deleted.kept_needed (is_possible plant facts) (is_monotone plant facts) (part_possible plant facts) (own_pairs []) (are_alike distinct plant) k budget ranks
