-- the zones of the first step, with masks for the later ones behind
use Rattle.std.proofs.Common.{◌∙◌}
use Rattle.std.proofs.lemmas.Result.{IfOk-weaker}
use Rattle.lv_window.specs.Longer.{all_longer}
use Rattle.lv_window.proofs.StepLemmas.{zones_are_longer}
use Rattle.lv_window.proofs.zones.window_zones.Goals as goal

pub returns : goal.returns
returns c =
    let own = c.as_slice.ensures.value ∙ c.in_ok-own.ensures in
    let more = c.as_slice-2.ensures.value ∙ c.in_ok-more.ensures in
    IfOk-weaker c.all_longer.result _ _ (λ out told. told ∙ (λ i. all_longer (more i) (own i)) ∙ zones_are_longer c.args.model.now c.args.later 0 c.args.tracked.now) c.all_longer.ensures
