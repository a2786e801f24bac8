-- one value more
use Rattle.std.proofs.Common.{ℕ, [], ap, arith}
use Rattle.lv_compile.proofs.OneOfLemmas.{numbered_more}
use Rattle.lv_search_zones.specs.Commands.{value_cost}
use Rattle.lv_search_zones.proofs.commands.value_costs.Goals as goal

pub loop-value-preserved : goal.loop-value-preserved
loop-value-preserved c =
    numbered_more (value_cost c.args.model.now c.args.control.0) [] c.loop-value.costs.items c.push.new.self.items 0 c.loop-value.value c.loop-value.value c.price.result c.loop-value.invariant
    c.in_ok-push.ensures.items (ap (λ (n : ℕ). record { 0 = n }) c.price.ensures) (omega arith)
