-- the tracked state of the number, if there is one
use Rattle.std.proofs.Common.{◌≡◌, ◌-◌, Some, List, slice_get, sym, ap, ◌∙◌}
use Rattle.std.specs.Option.{option_copied}
use Rattle.std.proofs.lemmas.Result.{IfOk-weaker}
use Rattle.lv_model.specs.declared.state.TrackedState.{TrackedState}
use Rattle.lv_session.proofs.Labelling.{numbered_modes, numbered, no_such_number}
use Rattle.lv_session.proofs.labels.labels_from.Goals as goal

pub labelled-requires-clause-modes : goal.labelled-requires-clause-modes
labelled-requires-clause-modes c =
    let tracked : c.as_slice.result.now ≡ c.args.state.now.tracked = c.as_slice.ensures.states ∙ c.tracked.ensures in
    let here : slice_get c.args.state.now.tracked (c.args.n - 1) ≡ Some c.in-Some.s.now =
    ap (λ (ss : List TrackedState). slice_get ss (c.args.n - 1)) (sym tracked) ∙ sym c.numbered.ensures ∙ ap option_copied c.in-Some.is in
    numbered_modes c.args.compiled.now c.args.state.now c.args.n c.in-Some.s.now c.requires.state here

pub returns-in-Some-clause-reply : goal.returns-in-Some-clause-reply
returns-in-Some-clause-reply c =
    let tracked : c.as_slice.result.now ≡ c.args.state.now.tracked = c.as_slice.ensures.states ∙ c.tracked.ensures in
    let here : slice_get c.args.state.now.tracked (c.args.n - 1) ≡ Some c.in-Some.s.now =
    ap (λ (ss : List TrackedState). slice_get ss (c.args.n - 1)) (sym tracked) ∙ sym c.numbered.ensures ∙ ap option_copied c.in-Some.is in
    IfOk-weaker c.labelled.result _ _ (λ reply h. h ∙ numbered c.args.compiled.now c.args.state.now c.args.n c.in-Some.s.now here) c.labelled.ensures.reply

pub returns-in-None-clause-reply : goal.returns-in-None-clause-reply
returns-in-None-clause-reply c =
    let tracked : c.as_slice.result.now ≡ c.args.state.now.tracked = c.as_slice.ensures.states ∙ c.tracked.ensures in
    no_such_number c.args.compiled.now c.args.state.now c.args.n
    (ap (λ (ss : List TrackedState). slice_get ss (c.args.n - 1)) (sym tracked) ∙ sym c.numbered.ensures ∙ ap option_copied c.in-None.is)
