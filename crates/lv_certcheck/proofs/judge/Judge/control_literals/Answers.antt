-- each value is one that its control has
use Rattle.std.proofs.Common.{◌≡◌, ◌∙◌, ◌<◌, true, List, map, slice_index_or, sym, subst}
use Rattle.lv_base.specs.declared.ids.VarId.{VarId}
use Rattle.lv_model.specs.Lists.{sizes, controls}
use Rattle.lv_search_zones.specs.lv_compile.Booleans.{Booleans}
use Rattle.lv_search_zones.specs.lv_compile.FormulaClauses.{size_of}
use Rattle.lv_cert_meaning.specs.Fitting.{are_values}
use Rattle.lv_certcheck.specs.Settings.{plant_of}
use Rattle.lv_certcheck.proofs.GivingLemmas.{control_below}
use Rattle.lv_certcheck.proofs.judge.Judge.control_literals.Goals as goal

pub lit_of-requires : goal.lit_of-requires
lit_of-requires c =
    let plant = plant_of c.args.self.now.setting in
    let items : c.deref-control-items.result.now ≡ controls plant = c.deref-control-items.ensures.value ∙ c.requires.setting.counts_are.controls_are in
    let below =
    control_below (sizes plant) c.deref-control-items.result.now c.args.values.now c.loop-k.k (record { 0 = 0 }) (record { 0 = 0 })
    (subst (λ (cs : List VarId). are_values (map (λ (x : VarId). slice_index_or (sizes plant) x.0 0) cs) c.args.values.now ≡ true) (sym items) c.requires.values) c.loop-k-test.true in
    subst (λ (b : Booleans). (slice_index_or c.args.values.now c.loop-k.k (record { 0 = 0 })).0 < size_of b (slice_index_or c.deref-control-items.result.now c.loop-k.k (record { 0 = 0 })).0)
    (sym c.requires.setting.system_is.before) below
