-- a command set has a value for each control, and there are no more controls than variables
use Rattle.std.proofs.Common.{◌≡◌, ◌<◌, true, List, ℕ, length, refl, sym, subst, ap, ◌∙◌}
use Rattle.std.proofs.lemmas.Result.{IfOk-weaker}
use Rattle.lv_base.specs.declared.search.Pair.{Pair}
use Rattle.lv_base.specs.Choices.{pairs_of}
use Rattle.lv_model.specs.Lists.{controls}
use Rattle.lv_reconf.specs.Assuming.{pairs_fit}
use Rattle.lv_reconf.specs.Trying.{ReachingValue}
use Rattle.lv_search_zones.proofs.ControlLemmas.{few_controls}
use Rattle.lv_reconf.proofs.JudgeLemmas.{values_fit, few_values}
use Rattle.lv_reconf.proofs.reaching.Reaching.values_of.Goals as goal

pub pairs_of-requires : goal.pairs_of-requires
pairs_of-requires c =
    subst (λ (us : List ℕ). length us < 4294967296) (sym c.as_slice.ensures)
    (few_values c.args.self.now.plant c.args.candidate.now.choices c.requires
    (few_controls c.args.self.now.plant c.plant-plant.result.now
    (c.plant-plant.ensures.plant ∙ c.model.ensures ∙ c.compiled.ensures ∙ ap (λ (r : ReachingValue). r.plant) c.self.view_is)
    c.plant-plant.ensures.few (controls c.args.self.now.plant) refl))

pub returns-clause-fit : goal.returns-clause-fit
returns-clause-fit c =
    IfOk-weaker c.pairs_of.result _ _
    (λ out told. subst (λ (ps : List Pair). pairs_fit c.args.self.now.plant ps ≡ true) (sym (told ∙ ap pairs_of c.as_slice.ensures)) (values_fit c.args.self.now.plant c.args.candidate.now.choices c.requires))
    c.pairs_of.ensures
