-- what is told of the zone with fewer choices is told of the zone
use Rattle.std.proofs.Common.{ℕ, ◌≤◌, ◌∙◌, nat_eq, List, ap, sym, subst}
use Rattle.std.specs.List.{list_any}
use Rattle.lv_guide.proofs.NearLemmas.{long_near, near_less, none_if_empty, none_narrowed, none_less}
use Rattle.lv_guide.proofs.beside.first_beside.Goals as goal

pub returns-then-has_empty : goal.returns-then-has_empty
returns-then-has_empty c =
    none_if_empty c.args.grid.now c.args.zone.now c.args.known.now
    (ap (λ (masks : List ℕ). list_any (λ mask. nat_eq mask 0) masks) (sym c.masks.ensures) ∙ sym (rw c.if-has_empty.true at c.has_empty.ensures))

pub without_ends-requires : goal.without_ends-requires
without_ends-requires c = subst (λ (n : ℕ). n ≤ 4096) (sym (long_near c.args.grid.now c.args.zone.now c.args.known.now c.args.near.now c.requires.near)) c.slots-slots.ensures.few

pub first_by_some-requires-clause-near : goal.first_by_some-requires-clause-near
first_by_some-requires-clause-near c = near_less c.args.grid.now c.args.zone.now c.in-Some.less c.args.known.now c.args.near.now (rw c.in-Some.is at c.in_ok-less.ensures) c.requires.near

pub returns-in-Some-2 : goal.returns-in-Some-2
returns-in-Some-2 c = record { narrowed = rw c.in-Some.is at c.in_ok-less.ensures; first = rw c.in-Some-2.is at c.in_ok-rank-in-Some.ensures }

pub returns-in-None-2 : goal.returns-in-None-2
returns-in-None-2 c =
    none_less c.args.grid.now c.args.zone.now c.in-Some.less c.args.known.now (rw c.in-Some.is at c.in_ok-less.ensures) (rw c.in-None-2.is at c.in_ok-rank-in-Some.ensures)

pub returns-in-None : goal.returns-in-None
returns-in-None c = none_narrowed c.args.grid.now c.args.zone.now c.args.known.now (rw c.in-None.is at c.in_ok-less.ensures)
