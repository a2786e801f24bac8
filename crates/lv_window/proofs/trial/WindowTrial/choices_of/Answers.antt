-- a trajectory has few choices, one for each part of each step
use Rattle.std.proofs.Common.{◌≡◌, ℕ, ◌<◌, ◌^◌, true, List, length, subst, sym, ap, ◌∙◌}
use Rattle.std.proofs.lemmas.Result.{IfOk-weaker}
use Rattle.lv_base.specs.declared.search.Pair.{Pair}
use Rattle.lv_base.specs.Choices.{pairs_of}
use Rattle.lv_compile.specs.WindowLaws.{counts_of}
use Rattle.lv_asking.specs.Asking.{IsPartial}
use Rattle.lv_asking.proofs.FullLemmas.{full_is_partial}
use Rattle.lv_meaning.specs.PossibleLaws.{are_below}
use Rattle.lv_window.specs.Trial.{WindowTrialValue}
use Rattle.lv_window.proofs.TrialLemmas.{few_choices}
use Rattle.lv_window.proofs.trial.WindowTrial.choices_of.Goals as goal

pub returns-clause-partial : goal.returns-clause-partial
returns-clause-partial c =
    IfOk-weaker c.pairs_of.result _ _
    (λ out told. subst (λ (ps : List Pair). IsPartial (counts_of c.args.self.now.plant (length c.args.self.now.steps)) ps) (sym (told ∙ ap pairs_of c.as_slice.ensures))
    (full_is_partial (counts_of c.args.self.now.plant (length c.args.self.now.steps)) c.args.candidate.now.choices c.requires))
    c.pairs_of.ensures

pub pairs_of-requires : goal.pairs_of-requires
pairs_of-requires c =
    subst (λ (cs : List ℕ). length cs < 2 ^ 32) (sym c.as_slice.ensures)
    (few_choices c.self.inside.model.now (rw c.plant-plant.ensures.plant at c.plant-plant.ensures.count) (length c.self.inside.steps) c.self.invariant.0 c.args.candidate.now.choices
    (subst (λ (t : WindowTrialValue). are_below (counts_of t.plant (length t.steps)) c.args.candidate.now.choices ≡ true) (sym c.self.view_is) c.requires))
