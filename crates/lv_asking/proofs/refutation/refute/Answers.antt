-- a model that was kept answers, or else the solver, whose solutions are kept
use Rattle.std.proofs.Common.{[], ◌∷◌, ◌++◌, Bool, List, All, subst, ap, sym, ◌∙◌}
use Rattle.lv_sat.specs.Answers.{IsModel}
use Rattle.lv_asking.specs.Refutation.{latest}
use Rattle.lv_asking.proofs.SolutionLemmas.{found_again, model_of_assumed, latest_are}
use Rattle.lv_asking.proofs.refutation.refute.Goals as goal

pub returns-then-has-clause-answer : goal.returns-then-has-clause-answer
returns-then-has-clause-answer c = found_again c.args.solver.now c.args.chosen.now c.args.assumed.now c.args.solutions.now c.requires.solutions (sym c.has.ensures.answer ∙ c.if-has.true)

pub returns-in_ok-keep-in-Values-clause-solutions : goal.returns-in_ok-keep-in-Values-clause-solutions
returns-in_ok-keep-in-Values-clause-solutions c =
    let told : IsModel c.args.solver.now (c.args.chosen.now ++ c.args.assumed.now) c.in-Values.values = rw c.in-Values.is at c.in_ok-values.ensures.answer in
    subst (λ (solutions : List (List Bool)). All (IsModel c.args.solver.now c.args.assumed.now) solutions)
    (ap (λ (solutions : List (List Bool)). latest (solutions ++ c.in-Values.values ∷ [])) (sym c.has.ensures.same) ∙ sym c.in_ok-keep-in-Values.ensures.ok)
    (latest_are c.args.solver.now c.args.assumed.now c.args.solutions.now c.in-Values.values c.requires.solutions
    (model_of_assumed c.args.solver.now c.args.chosen.now c.args.assumed.now c.in-Values.values told))
