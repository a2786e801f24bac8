-- what is asked tells what is possible under the facts
use Rattle.std.proofs.Common.{◌≡◌, subst, sym}
use Rattle.std.specs.Result.{IfOk}
use Rattle.lv_asking.specs.Asking.{AskingValue, IsPartial as IsPartialOf}
use Rattle.lv_system.specs.Choices.{Choices}
use Rattle.lv_meaning.specs.Possible.{is_possible}
use Rattle.lv_ident.specs.Literals.{IsPartial}
use Rattle.lv_ident.specs.Trial.{TrialValue, IsTrial}
use Rattle.lv_ident.proofs.trial.IdentTrial.possible.Goals as goal

pub possible-requires : goal.possible-requires
possible-requires c =
    subst (λ (n : Choices). IsPartialOf n.counts c.args.pairs.now) (sym c.self.invariant.tells.choices) (subst (λ (t : TrialValue). IsPartial t.plant c.args.pairs.now) (sym c.self.view_is) c.requires)

pub invariant_of-self : goal.invariant_of-self
invariant_of-self c = subst (λ (a : AskingValue). IsTrial c.self.inside.model.now c.self.inside.facts c.self.inside.after a) (sym c.possible.ensures.same) c.self.invariant

pub returns-clause-answer : goal.returns-clause-answer
returns-clause-answer c =
    subst (λ (t : TrialValue). IfOk c.possible.result (λ answer. answer ≡ is_possible t.plant t.facts c.args.pairs.now)) c.self.view_is
    (c.possible.ensures.answer (is_possible c.self.inside.model.now c.self.inside.facts) c.self.invariant.tells.decides)
