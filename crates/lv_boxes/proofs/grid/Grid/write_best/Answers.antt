-- the sum of the cheapest choices is the cost of the least member beyond the base, and what is written is that member
use Rattle.std.proofs.Common.{◌≡◌, ◌∙◌, None, Some, ap, sym, refl}
use Rattle.std.specs.Option.{is_none, option_map}
use Rattle.lv_boxes.specs.Members.{choices_cost}
use Rattle.lv_boxes.specs.Least.{cheapest_choices}
use Rattle.lv_boxes.proofs.LeastLemmas.{sum_none, sum_some, written_is_least, written_costs}
use Rattle.lv_boxes.proofs.grid.Grid.write_best.Goals as goal

pub returns-in_err-sum-clause-none : goal.returns-in_err-sum-clause-none
returns-in_err-sum-clause-none c =
    let sum : None ≡ option_map (choices_cost c.args.self.now) (cheapest_choices c.args.self.now c.args.zone.now.masks) = cc (c.in_err-sum.ensures.sum, c.as_slice.ensures, c.masks.ensures, c.self.view_is) in
    ap is_none c.from_residual.ensures ∙ sym (sum_none c.args.self.now c.args.zone.now.masks sum)

pub returns-clause-none : goal.returns-clause-none
returns-clause-none c =
    let sum : Some c.in_ok-sum.sum ≡ option_map (choices_cost c.args.self.now) (cheapest_choices c.args.self.now c.args.zone.now.masks) = cc (c.in_ok-sum.ensures.sum, c.as_slice.ensures, c.masks.ensures, c.self.view_is) in
    sym (sum_some c.args.self.now c.args.zone.now.masks c.in_ok-sum.sum sum)

pub returns-clause-member : goal.returns-clause-member
returns-clause-member c =
    let written : Some c.write_least.new.out ≡ cheapest_choices c.args.self.now c.args.zone.now.masks = cc (c.in_ok-sum.ensures.written, c.as_slice.ensures, c.masks.ensures, c.self.view_is) in
    written_is_least c.args.self.now c.args.zone.now c.write_least.new.out written

pub returns-clause-cost : goal.returns-clause-cost
returns-clause-cost c =
    let sum : Some c.in_ok-sum.sum ≡ option_map (choices_cost c.args.self.now) (cheapest_choices c.args.self.now c.args.zone.now.masks) = cc (c.in_ok-sum.ensures.sum, c.as_slice.ensures, c.masks.ensures, c.self.view_is) in
    let written : Some c.write_least.new.out ≡ cheapest_choices c.args.self.now c.args.zone.now.masks = cc (c.in_ok-sum.ensures.written, c.as_slice.ensures, c.masks.ensures, c.self.view_is) in
    rw (c.base.ensures.base, written_costs c.args.self.now c.args.zone.now.masks c.in_ok-sum.sum c.write_least.new.out sum written) refl
