-- the part settled anew, put into what was the first
use Rattle.std.proofs.Common.{ℕ, List, length, ◌∙◌, sym, ap}
use Rattle.lv_base.specs.declared.ids.Cost.{Cost}
use Rattle.lv_boxes.specs.Members.{choices_cost}
use Rattle.lv_search_parts.specs.Slots.{put_in}
use Rattle.lv_search_guide.proofs.SlotLemmas.{length-put_in}
use Rattle.lv_guide.proofs.NearLemmas.{long_near, apart_near, none_anew, first_anew}
use Rattle.lv_guide.proofs.near.settled_anew.Goals as goal

pub put_in-requires-clause-long : goal.put_in-requires-clause-long
put_in-requires-clause-long c =
    c.requires.part.part.long
    ∙ sym (long_near c.args.grid.now c.args.zone.now c.args.known.now c.args.near.now c.requires.first)
    ∙ sym (ap (λ (xs : List ℕ). length xs) c.as_slice.ensures)

pub cost_of-cost-requires-clause-long : goal.cost_of-cost-requires-clause-long
cost_of-cost-requires-clause-long c =
    ap (λ (xs : List ℕ). length xs) (c.as_slice-in-Some.ensures.value ∙ c.in_ok-choices-in-Some.ensures)
    ∙ length-put_in c.args.marks.now c.as_slice-inner.result.now c.as_slice.result.now
    ∙ ap (λ (xs : List ℕ). length xs) c.as_slice.ensures
    ∙ long_near c.args.grid.now c.args.zone.now c.args.known.now c.args.near.now c.requires.first
    ∙ sym (ap (λ (rows : List (List Cost)). length rows) c.slots-slots.ensures.slots)

pub returns-in_ok-choices-in-Some-clause-least : goal.returns-in_ok-choices-in-Some-clause-least
returns-in_ok-choices-in-Some-clause-least c =
    first_anew c.args.grid.now c.args.zone.now c.args.known.now c.args.near.now c.args.marks.now
    (apart_near c.args.grid.now c.args.zone.now c.args.known.now c.args.near.now c.args.marks.now c.requires.first c.requires.part.part.whole) c.requires.part c.requires.long c.in-Some.member
    (rw c.in-Some.is at c.in_ok-member.ensures.first) c.in_ok-choices-in-Some.choices.items
    (c.in_ok-choices-in-Some.ensures ∙ (λ i. put_in c.args.marks.now (c.as_slice-inner.ensures i) (c.as_slice.ensures i)))
    (record { cost = c.cost_of-cost.result; choices = c.from_vec-choices.result })
    (λ i. record {
      cost = (c.cost_of-cost.ensures.cost ∙ (λ j. choices_cost (c.slots-slots.ensures.slots j) (c.as_slice-in-Some.ensures.value j))) i;
      choices = c.from_vec-choices.ensures i;
    })
    c.rank_of.result c.rank_of.ensures

pub returns-in-None-clause-least : goal.returns-in-None-clause-least
returns-in-None-clause-least c =
    none_anew c.args.grid.now c.args.zone.now c.args.known.now c.args.near.now c.args.marks.now
    (apart_near c.args.grid.now c.args.zone.now c.args.known.now c.args.near.now c.args.marks.now c.requires.first c.requires.part.part.whole) c.requires.part c.requires.long
    (rw c.in-None.is at c.in_ok-member.ensures.first)
