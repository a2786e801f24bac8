-- a zone that lacks all choices of a slot has no members
use Rattle.std.proofs.Common.{ℕ, ◌≤◌, nat_eq, List, length, sym, ◌∙◌, ap, subst}
use Rattle.std.specs.List.{list_any}
use Rattle.lv_guide.proofs.NearLemmas.{none_if_empty, long_near}
use Rattle.lv_guide.proofs.near.first_near.Goals as goal

pub returns-then-has_empty-clause-least : goal.returns-then-has_empty-clause-least
returns-then-has_empty-clause-least c =
    none_if_empty c.args.grid.now c.args.zone.now c.args.known.now
    (ap (λ (masks : List ℕ). list_any (λ mask. nat_eq mask 0) masks) (sym c.masks.ensures) ∙ sym (rw c.if-has_empty.true at c.has_empty.ensures))

pub unsettled-requires : goal.unsettled-requires
unsettled-requires c =
    subst (λ (n : ℕ). n ≤ 4096)
    (sym (ap (λ (xs : List ℕ). length xs) c.as_slice-2.ensures ∙ long_near c.args.grid.now c.args.zone.now c.args.known.now c.args.near.now c.requires))
    c.slots-slots.ensures.few
