-- the solver's clauses are satisfied as the plant's are, and the facts are of booleans of values
use Rattle.std.proofs.Common.{◌≡◌, ℕ, sym, subst, ap, ◌∙◌}
use Rattle.lv_clauses.specs.Literals.{is_clause}
use Rattle.lv_compile.specs.Booleans.{Booleans}
use Rattle.lv_asking.specs.Asking.{AskingValue}
use Rattle.lv_ident.specs.Trial.{TellsFacts, IsSolverOf}
use Rattle.lv_ident.proofs.TrialLemmas.{first_is, choices_fit, same_numbering, tells_facts, facts_asked}
use Rattle.lv_ident.proofs.trial.asking_of.Goals as goal

pub each_once-requires : goal.each_once-requires
each_once-requires c =
    let at = c.first.ensures ∙ ap (λ (b : Booleans). b.first) c.as_values.ensures in
    facts_asked c.args.model.now c.args.facts.now c.requires.in_range c.first.result
    (first_is c.args.model.now c.args.system.now c.requires.system c.in_ok-choices.choices (c.in_ok-choices.ensures ∙ c.choices.ensures) c.first.result at) c.as_slice.result.now
    (c.as_slice.ensures.value ∙ c.in_ok-literals.ensures)

pub of-requires-clause-clause : goal.of-requires-clause-clause
of-requires-clause-clause c =
    let at : c.first.result ≡ c.in_ok-choices.choices.first = c.first.ensures ∙ ap (λ (b : Booleans). b.first) c.as_values.ensures in
    ap (λ (n : ℕ). is_clause n c.in_ok-assumed.assumed.items) (sym at) ∙ c.in_ok-assumed.ensures.clause

pub of-requires-clause-fit : goal.of-requires-clause-fit
of-requires-clause-fit c =
    let own = c.in_ok-solver.ensures in
    choices_fit c.args.model.now own.system own.system_of c.in_ok-choices.choices
    (same_numbering c.args.model.now c.args.system.now own.system c.requires.system own.system_of c.in_ok-choices.choices (c.in_ok-choices.ensures ∙ c.choices.ensures)) c.in_ok-solver.solver own.models

pub returns-clause-tells : goal.returns-clause-tells
returns-clause-tells c =
    let own = c.in_ok-solver.ensures in
    subst (λ (a : AskingValue). TellsFacts c.args.model.now c.args.facts.now a) (sym c.of.ensures)
    (tells_facts c.args.model.now (rw c.plant-plant.ensures.plant at c.plant-plant.ensures.well_formed) own.system own.system_of c.args.facts.now c.requires.in_range c.in_ok-choices.choices
    (same_numbering c.args.model.now c.args.system.now own.system c.requires.system own.system_of c.in_ok-choices.choices (c.in_ok-choices.ensures ∙ c.choices.ensures)) c.in_ok-solver.solver own.models
    c.first.result c.as_slice.result.now (c.as_slice.ensures.value ∙ c.in_ok-literals.ensures) c.in_ok-assumed.assumed.items c.in_ok-assumed.ensures)

pub returns-clause-solver : goal.returns-clause-solver
returns-clause-solver c = subst (λ (a : AskingValue). IsSolverOf c.args.model.now a.set) (sym c.of.ensures) c.in_ok-solver.ensures
