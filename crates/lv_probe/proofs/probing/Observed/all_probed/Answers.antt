-- no candidate is looked at at first; each turn tells anew what is told, with one candidate more
use Rattle.std.proofs.Common.{ℕ, ◌+◌, List, All, map, take, refl, sym, subst, ap, ◌∙◌}
use Rattle.lv_model.specs.Lists.{sizes, IsFew}
use Rattle.lv_ident.specs.Trial.{TrialValue}
use Rattle.lv_reply.specs.declared.probes.Probed.{Probed}
use Rattle.lv_probe.specs.Probing.{IsProbed, none_left, probed}
use Rattle.lv_probe.proofs.CountLemmas.{none_are_left, all_are_probed, told_anew}
use Rattle.lv_probe.proofs.probing.Observed.all_probed.Goals as goal

pub loop-at-init : goal.loop-at-init
loop-at-init c = record {
  probed =
      c.in_ok-out.ensures
      ∙ ap (λ (ns : List ℕ). map (none_left ns) c.args.self.now.variables.now) c.requires.values
      ∙ none_are_left c.args.trial.now.plant c.args.trial.now.facts c.args.self.now.variables.now;
  same = refl;
}

pub all_with_next_candidate-requires-clause-so_far : goal.all_with_next_candidate-requires-clause-so_far
all_with_next_candidate-requires-clause-so_far c =
    let few : All IsFew (sizes c.args.trial.now.plant) = subst (λ (ns : List ℕ). All IsFew ns) c.requires.values c.requires.few in
    let told = all_are_probed c.args.trial.now.plant c.args.trial.now.facts (take c.loop-at.at c.args.candidates.now) c.args.self.now.variables.now few in
    let out : All (IsProbed c.args.trial.now.plant c.args.trial.now.facts (take c.loop-at.at c.args.candidates.now)) c.as_slice.result.now =
    subst (λ (ps : List Probed). All (IsProbed c.args.trial.now.plant c.args.trial.now.facts (take c.loop-at.at c.args.candidates.now)) ps)
    (sym (c.as_slice.ensures.value ∙ c.loop-at.invariant.probed)) told
    in
    subst (λ (t : TrialValue). All (IsProbed t.plant t.facts (take c.loop-at.at c.args.candidates.now)) c.as_slice.result.now) (sym c.loop-at.invariant.same) out

pub loop-at-preserved : goal.loop-at-preserved
loop-at-preserved c =
    let plant = c.args.trial.now.plant in
    let facts = c.args.trial.now.facts in
    let more = take (c.loop-at.at + 1) c.args.candidates.now in
    record {
      probed =
          c.in_ok-out-2.ensures.probed
          ∙ ap (λ (t : TrialValue). map (λ (p : Probed). probed t.plant t.facts more p.var) c.as_slice.result.now) c.loop-at.invariant.same
          ∙ ap (λ (ps : List Probed). map (λ (p : Probed). probed plant facts more p.var) ps) (c.as_slice.ensures.value ∙ c.loop-at.invariant.probed)
          ∙ told_anew plant facts (take c.loop-at.at c.args.candidates.now) more c.args.self.now.variables.now;
      same = c.in_ok-out-2.ensures.same ∙ c.loop-at.invariant.same;
    }
