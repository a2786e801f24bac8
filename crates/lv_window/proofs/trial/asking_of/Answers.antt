-- the clauses are those of the steps, and what is known is of booleans of values
use Rattle.std.proofs.Common.{◌≡◌, ℕ, ap, ◌∙◌, sym}
use Rattle.std.proofs.lemmas.Result.{IfOk-weaker}
use Rattle.lv_clauses.specs.Literals.{is_clause}
use Rattle.lv_compile.specs.Booleans.{Booleans}
use Rattle.lv_window.proofs.KnownLemmas.{all_known_positive}
use Rattle.lv_window.proofs.TrialLemmas.{first_is, choices_fit, tells_window}
use Rattle.lv_window.proofs.trial.asking_of.Goals as goal

pub each_once-requires : goal.each_once-requires
each_once-requires c =
    let at = c.first.ensures ∙ ap (λ (b : Booleans). b.first) c.as_values.ensures in
    all_known_positive c.args.model.now c.args.steps.now c.first.result
    (first_is c.args.model.now c.args.steps.now c.args.system.now c.requires.system c.in_ok-choices.choices (c.in_ok-choices.ensures ∙ c.choices.ensures) c.first.result at)
    c.requires.fits c.as_slice.result.now (c.as_slice.ensures.value ∙ c.in_ok-literals.ensures)

pub new-requires-clause-clause : goal.new-requires-clause-clause
new-requires-clause-clause c =
    let at : c.first.result ≡ c.in_ok-choices.choices.first = c.first.ensures ∙ ap (λ (b : Booleans). b.first) c.as_values.ensures in
    ap (λ (n : ℕ). is_clause n c.in_ok-assumed.assumed.items) (sym at) ∙ c.in_ok-assumed.ensures.clause

pub new-requires-clause-fit : goal.new-requires-clause-fit
new-requires-clause-fit c =
    choices_fit c.args.model.now c.args.steps.now c.args.system.now c.requires.system c.in_ok-choices.choices (c.in_ok-choices.ensures ∙ c.choices.ensures) c.clauses.result.now c.clauses.ensures

pub returns : goal.returns
returns c =
    IfOk-weaker c.new.result _ _
    (λ a told. tells_window c.args.model.now c.args.steps.now c.args.system.now c.requires.system (rw c.plant-plant.ensures.plant at c.plant-plant.ensures.well_formed) c.requires.some c.requires.fits
    c.in_ok-choices.choices (c.in_ok-choices.ensures ∙ c.choices.ensures) c.clauses.result.now c.clauses.ensures c.first.result c.as_slice.result.now (c.as_slice.ensures.value ∙ c.in_ok-literals.ensures)
    c.in_ok-assumed.assumed.items c.in_ok-assumed.ensures a told)
    c.new.ensures
