-- the sum of the cheapest choices is the cost of the least member beyond the base
use Rattle.std.proofs.Common.{◌≡◌, ◌∙◌, None, Some, ap, sym}
use Rattle.std.specs.Option.{is_none, option_map}
use Rattle.lv_boxes.specs.Members.{choices_cost}
use Rattle.lv_boxes.specs.Least.{cheapest_choices}
use Rattle.lv_boxes.proofs.LeastLemmas.{sum_none, sum_some, sum_is_least_cost}
use Rattle.lv_boxes.proofs.grid.Grid.best.Goals as goal

pub returns-in_err-cost-clause-none : goal.returns-in_err-cost-clause-none
returns-in_err-cost-clause-none c =
    let sum : None ≡ option_map (choices_cost c.args.self.now) (cheapest_choices c.args.self.now c.args.zone.now.masks) = cc (c.in_err-cost.ensures.sum, c.as_slice.ensures, c.masks.ensures, c.self.view_is) in
    ap is_none c.from_residual.ensures ∙ sym (sum_none c.args.self.now c.args.zone.now.masks sum)

pub returns-clause-none : goal.returns-clause-none
returns-clause-none c =
    let sum : Some c.in_ok-cost.cost ≡ option_map (choices_cost c.args.self.now) (cheapest_choices c.args.self.now c.args.zone.now.masks) = cc (c.in_ok-cost.ensures.sum, c.as_slice.ensures, c.masks.ensures, c.self.view_is) in
    sym (sum_some c.args.self.now c.args.zone.now.masks c.in_ok-cost.cost sum)

pub returns-clause-cost : goal.returns-clause-cost
returns-clause-cost c =
    let sum : Some c.in_ok-cost.cost ≡ option_map (choices_cost c.args.self.now) (cheapest_choices c.args.self.now c.args.zone.now.masks) = cc (c.in_ok-cost.ensures.sum, c.as_slice.ensures, c.masks.ensures, c.self.view_is) in
    rw c.base.ensures.base (sum_is_least_cost c.args.self.now c.args.zone.now c.in_ok-cost.cost sum)
