-- the candidates are those listed, the variables the observables
use Rattle.std.proofs.Common.{◌≡◌, ℕ, List, All, length, map, ap, ◌∙◌, sym, subst}
use Rattle.std.proofs.lemmas.Result.{IfOk-weaker}
use Rattle.lv_base.specs.declared.ids.VarId.{VarId}
use Rattle.lv_base.specs.declared.search.Candidate.{Candidate}
use Rattle.lv_model.specs.Lists.{sizes, IsVariable}
use Rattle.lv_meaning.specs.lv_boxes.Walk.{candidate_of}
use Rattle.lv_probe.specs.Probing.{IsFull, probed, all_probed, observables, observables_among}
use Rattle.lv_probe.proofs.probing.Probing.probe.Goals as goal

pub probed_in-requires-clause-full : goal.probed_in-requires-clause-full
probed_in-requires-clause-full c =
    subst (λ (candidates : List Candidate). All (IsFull c.args.self.now.model.now) candidates) (sym (c.as_slice-4.ensures.value ∙ c.in_ok-candidates.ensures)) c.requires.full

pub probed_in-requires-clause-there : goal.probed_in-requires-clause-there
probed_in-requires-clause-there c =
    subst (λ (n : ℕ). All (IsVariable n) c.as_slice-3.result.now) (ap (λ (ns : List ℕ). length ns) (c.as_slice.ensures.value ∙ sym c.as_slice-2.ensures.value))
    (subst (λ (variables : List VarId). All (IsVariable (length c.as_slice.result.now)) variables) (sym c.as_slice-3.ensures.value) c.in_ok-variables.ensures.there)

pub returns : goal.returns
unfolding all_probed
returns c =
    let count : length c.as_slice.result.now ≡ length (sizes c.args.self.now.model.now) = ap (λ (ns : List ℕ). length ns) (c.as_slice.ensures.value ∙ c.in_ok-values.ensures.sizes) in
    let variables : c.as_slice-3.result.now ≡ observables c.args.self.now.model.now =
    c.as_slice-3.ensures.value ∙ c.in_ok-variables.ensures.observables ∙ (λ i. observables_among (c.requires.kinds i) (count i))
    in
    let candidates : c.as_slice-4.result.now ≡ map candidate_of c.args.listed.now = c.as_slice-4.ensures.value ∙ c.in_ok-candidates.ensures in
    IfOk-weaker c.probed_in.result _ _ (λ out told. told ∙ (λ i. map (probed c.args.self.now.model.now c.args.facts (candidates i)) (variables i))) c.probed_in.ensures
