-- the first are turned, and the others claimed before those before are taken back
use Rattle.std.proofs.Common.{◌+◌, ◌<◌, ◌^◌, ◌++◌, List, length, subst}
use Rattle.std.proofs.lemmas.List.{take_rest}
use Rattle.lv_base.specs.declared.ids.Lit.{Lit}
use Rattle.lv_model.specs.declared.plant.Plant.{Plant}
use Rattle.lv_reply.specs.declared.labels.Label.{Label}
use Rattle.lv_labels.specs.Claims.{IsClaiming}
use Rattle.lv_labels.specs.Holding.{claim_literals}
use Rattle.lv_labels.proofs.HoldingLemmas.{turned_all}
use Rattle.lv_labels.proofs.labeller.turn_all.Goals as goal

pub returns-clause-claiming : goal.returns-clause-claiming
returns-clause-claiming c =
    let at = c.turn_first-at.result in
    turned_all at c.args.before.now c.args.now.now c.args.labels.now c.turn_first-at.new.labels c.claim_all.new.labels c.release_all.new.labels
    c.turn_first-at.ensures.before c.turn_first-at.ensures.now c.turn_first-at.ensures.turned
    (subst (λ (xs : List Label). (p : Plant) (ls : List Lit) → length xs + length ls < 2 ^ 32 → IsClaiming p ls c.turn_first-at.new.labels → IsClaiming p (claim_literals p xs ++ ls) c.claim_all.new.labels)
    (take_rest c.args.now.now at) c.claim_all.ensures.claiming)
    (subst (λ (xs : List Label). (p : Plant) (ls : List Lit) → IsClaiming p (claim_literals p xs ++ ls) c.claim_all.new.labels → IsClaiming p ls c.release_all.new.labels)
    (take_rest c.args.before.now at) c.release_all.ensures.claiming)
