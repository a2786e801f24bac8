-- one step more is copied
use Rattle.std.proofs.Common.{◌≡◌, ◌+◌, ◌++◌, ◌∷◌, [], List, drop, ap, ap₂, ◌∙◌}
use Rattle.lv_base.specs.declared.ids.Lit.{Lit}
use Rattle.lv_clauses.specs.declared.log.Hint.{Hint}
use Rattle.lv_clauses.specs.declared.log.Step.{Step}
use Rattle.lv_sat.proofs.RefutedLemmas.{copied_more}
use Rattle.lv_sat.proofs.copying.copy_log.Goals as goal

pub loop-place-preserved : goal.loop-place-preserved
loop-place-preserved c =
    let pushed : c.push.new.self ≡ c.loop-place.copy ++ c.step-step.result.now ∷ [] =
    c.in_ok-push.ensures.added
    ∙ ap₂ (λ (clause : List Lit) (hints : List Hint). c.loop-place.copy ++ record { clause = clause; hints = hints } ∷ []) c.as_slice.ensures c.as_slice-in-loop-place.ensures in
    ap (λ (steps : List Step). steps ++ drop (c.loop-place.place + 1) c.args.log.now) pushed ∙ copied_more c.loop-place.copy c.args.log.now c.loop-place.place c.step-step.result.now c.step-step.ensures c.loop-place.invariant
