-- what is assumed says the literal already, or contradicts it, or it is asked for too
use Rattle.std.proofs.Common.{◌≡◌, Some, None, [], subst, sym, ap, ◌∙◌}
use Rattle.std.specs.List.{find}
use Rattle.std.proofs.lemmas.List.Elements.{All-cons, All-nil}
use Rattle.lv_clauses.specs.Noted.{is_of}
use Rattle.lv_asking.specs.Asking.{AskingValue, IsFresh}
use Rattle.lv_asking.proofs.BesideLemmas.{none_is, said_already, contradicted, answer_beside}
use Rattle.lv_asking.proofs.asking.Asking.possible_beside.Goals as goal

pub ask-requires-clause-more : goal.ask-requires-clause-more
ask-requires-clause-more c =
    let none : find (is_of c.args.lit.var.0) c.self.inside.assumed.items ≡ None =
    sym (c.first_of.ensures ∙ ap (find (is_of c.args.lit.var.0)) c.as_slice.ensures.value) ∙ sym c.copied.ensures ∙ c.in-None.is
    in
    All-cons (IsFresh c.args.self.now) c.args.lit []
    (record { below = c.requires.below; unassumed = subst (λ (v : AskingValue). find (is_of c.args.lit.var.0) v.assumed ≡ None) c.self.view_is none }) (All-nil (IsFresh c.args.self.now))

pub returns-in_ok-ask-in-None-clause-answer : goal.returns-in_ok-ask-in-None-clause-answer
returns-in_ok-ask-in-None-clause-answer c =
    λ possible decides.
    none_is c.in_ok-ask-in-None.field-0 c.is_none.result c.is_none.ensures
    ∙ answer_beside c.args.self.now c.args.lit possible decides c.args.pairs.now c.requires.partial.moves c.in_ok-ask-in-None.field-0 c.in_ok-ask-in-None.ensures.answer

pub returns-then-assumed-lit-clause-answer : goal.returns-then-assumed-lit-clause-answer
returns-then-assumed-lit-clause-answer c =
    let found : find (is_of c.args.lit.var.0) c.self.inside.assumed.items ≡ Some c.in-Some.assumed =
    sym (c.first_of.ensures ∙ ap (find (is_of c.args.lit.var.0)) c.as_slice.ensures.value) ∙ sym c.copied.ensures ∙ c.in-Some.is
    in
    λ possible decides.
    c.possible.ensures.answer possible
    (said_already c.args.self.now c.args.lit possible decides c.in-Some.assumed
    (subst (λ (v : AskingValue). find (is_of c.args.lit.var.0) v.assumed ≡ Some c.in-Some.assumed) c.self.view_is found) c.if-assumed-lit.true)

pub returns-else-assumed-lit-clause-answer : goal.returns-else-assumed-lit-clause-answer
returns-else-assumed-lit-clause-answer c =
    let found : find (is_of c.args.lit.var.0) c.self.inside.assumed.items ≡ Some c.in-Some.assumed =
    sym (c.first_of.ensures ∙ ap (find (is_of c.args.lit.var.0)) c.as_slice.ensures.value) ∙ sym c.copied.ensures ∙ c.in-Some.is
    in
    λ possible decides.
    sym
    (contradicted c.args.self.now c.args.lit possible decides c.args.pairs.now c.requires.partial.moves c.in-Some.assumed
    (subst (λ (v : AskingValue). find (is_of c.args.lit.var.0) v.assumed ≡ Some c.in-Some.assumed) c.self.view_is found) c.if-assumed-lit.false)
