-- what is asked tells what is possible over the steps
use Rattle.std.proofs.Common.{List, ℕ, length, subst, sym}
use Rattle.std.specs.Result.{IfOk}
use Rattle.lv_compile.specs.WindowLaws.{counts_of}
use Rattle.lv_asking.specs.Asking.{AskingValue, IsPartial, IsReason}
use Rattle.lv_window.specs.Possible.{is_possible_over}
use Rattle.lv_window.specs.Trial.{WindowTrialValue, TellsWindow}
use Rattle.lv_window.proofs.trial.WindowTrial.reason_of.Goals as goal

pub reason-requires : goal.reason-requires
reason-requires c =
    subst (λ (ns : List ℕ). IsPartial ns c.args.pairs.now) (sym c.self.invariant.1.counts)
    (subst (λ (t : WindowTrialValue). IsPartial (counts_of t.plant (length t.steps)) c.args.pairs.now) (sym c.self.view_is) c.requires)

pub invariant_of-self : goal.invariant_of-self
invariant_of-self c = (c.self.invariant.0, subst (λ (a : AskingValue). TellsWindow c.self.inside.model.now c.self.inside.steps a) (sym c.reason.ensures.same) c.self.invariant.1)

pub returns-clause-reason : goal.returns-clause-reason
returns-clause-reason c =
    subst (λ (t : WindowTrialValue). IfOk c.reason.result (IsReason (is_possible_over t.plant t.steps) c.args.pairs.now)) c.self.view_is
    (c.reason.ensures.reason (is_possible_over c.self.inside.model.now c.self.inside.steps) c.self.invariant.1.decides)
