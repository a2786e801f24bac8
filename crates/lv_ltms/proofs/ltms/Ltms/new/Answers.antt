-- a new system has nothing to derive
use Rattle.std.proofs.Common.{rules, vec_capacity, ap}
use Rattle.lv_ltms.specs.declared.propagation.Progress.{Progress}
use Rattle.lv_ltms.proofs.KeepLemmas.{new_kept}
use Rattle.lv_ltms.proofs.ltms.Ltms.new.Goals as goal

pub invariant_of-result : goal.invariant_of-result
invariant_of-result c =
    new_kept c.args.bools (vec_capacity c.in_ok-new.field-0.fallen) c.in_ok-vec.field-0.items c.in_ok-new.field-0.arena c.in_ok-new.field-0.near c.in_ok-new.field-0.far c.in_ok-new.field-0.labels
    c.in_ok-new.field-0.progress.done c.in_ok-new.field-0.progress.conflict c.in_ok-new.field-0.empty c.in_ok-new.ensures.room (search rules)
    c.in_ok-new.ensures.arena c.in_ok-new.ensures.near c.in_ok-new.ensures.far c.in_ok-new.ensures.labels (ap (λ (p : Progress). p.done) c.in_ok-new.ensures.progress) (ap (λ (p : Progress). p.conflict) c.in_ok-new.ensures.progress) c.in_ok-new.ensures.empty
