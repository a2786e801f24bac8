-- what is left of the mask, without the others of the choices that are left, has the group alone
use Rattle.std.proofs.Common.{◌≡◌, drop}
use Rattle.lv_boxes.specs.Masks.{without_others, only_group}
use Rattle.lv_boxes.proofs.mask.only_group.Given as goal

abbrev pub invariant-loop-choice : goal.invariant-loop-choice
invariant-loop-choice l = without_others l.left l.group l.choice (drop l.choice l.groups) ≡ only_group l.mask l.groups l.group
