-- marks by labels are a part
use Rattle.std.proofs.Common.{List, Bool, true, ◌≡◌, subst, sym}
use Rattle.lv_search_parts.specs.Slots.{is_inside}
use Rattle.lv_search_parts.specs.Parts.{IsPart}
use Rattle.lv_search_parts.specs.Labels.{is_listed}
use Rattle.lv_search_parts.proofs.LabelLemmas.{part_by_labels}
use Rattle.lv_search_parts.proofs.labels.part_with.Goals as goal

pub returns-then-is_inside : goal.returns-then-is_inside
returns-then-is_inside c conflicts slots are =
    record {
      part = subst (λ (marks : List Bool). IsPart conflicts slots marks) (sym c.in_ok-marks.ensures) (part_by_labels (is_listed c.as_slice.result.now) conflicts slots c.args.labels.now are);
      inside = sym (subst (λ (marks : List Bool). true ≡ is_inside marks c.args.pairs.now) c.deref.ensures.value (rw c.if-is_inside.true at c.is_inside.ensures));
    }
