-- the solver asks for steps that end with the goal false
use Rattle.std.proofs.Common.{true, not, sym, subst}
use Rattle.lv_base.specs.Tree.{truth_of}
use Rattle.lv_reconf.specs.Assuming.{CommandedValue}
use Rattle.lv_reconf.specs.Narrowing.{Asks}
use Rattle.lv_reconf.proofs.commanded.Commanded.misses.Goals as goal

pub returns : goal.returns
returns c =
    λ present asks.
    c.some_steps.ensures.answer present (λ b. not (truth_of b 0 c.args.goal.now))
    (subst (λ (v : CommandedValue). Asks v.plant present (λ b. not (truth_of b 0 c.args.goal.now)) c.in_ok-solver.solver.set) c.self.view_is
    (c.in_ok-solver.ensures.asks present (subst (λ (v : CommandedValue). Asks v.plant present (λ b. true) c.args.plain.now.set) (sym c.self.view_is) asks)))
