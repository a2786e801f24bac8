-- a number is that of the candidates before; one candidate more is counted
use Rattle.std.proofs.Common.{◌≡◌, ℕ, ◌+◌, [], ◌∷◌, ◌++◌, cond, List, take, get_or, sym, subst, ap, ap₂, ◌∙◌, arith, slice_index_or}
use Rattle.std.proofs.lemmas.List.{length-take}
use Rattle.std.proofs.lemmas.List.FromFn.{map-range_with_len_more}
use Rattle.lv_base.specs.declared.search.Candidate.{Candidate}
use Rattle.lv_model.specs.Lists.{sizes}
use Rattle.lv_meaning.specs.Facts.{HasValue}
use Rattle.lv_ident.specs.Trial.{TrialValue}
use Rattle.lv_ident.specs.Probing.{is_allowed}
use Rattle.lv_probe.specs.Probing.{seen, number_with, numbers_with}
use Rattle.lv_probe.proofs.CountLemmas.{number_more, number_few, told_long, told_at}
use Rattle.lv_probe.proofs.probing.with_next_candidate.Goals as goal

pub one_more-requires-clause-value : goal.one_more-requires-clause-value
one_more-requires-clause-value c =
    subst (λ (t : TrialValue). HasValue (sizes t.plant) (seen c.args.so_far.now.var c.loop-v.v)) (sym c.loop-v.invariant.same) (record { below = omega (arith, c.loop-v-test.true, told_long c.args.trial.now.plant c.args.trial.now.facts (take c.args.at c.args.candidates.now) c.args.so_far.now c.as_slice-before.result.now c.as_slice-before.ensures c.requires.so_far) })

pub one_more-requires-clause-few : goal.one_more-requires-clause-few
one_more-requires-clause-few c =
    let e = told_at c.args.trial.now.plant c.args.trial.now.facts (take c.args.at c.args.candidates.now) c.args.so_far.now c.as_slice-before.result.now c.as_slice-before.ensures c.requires.so_far c.loop-v.v c.loop-v-test.true in
    let few = number_few c.args.trial.now.plant c.args.trial.now.facts (take c.args.at c.args.candidates.now) c.args.so_far.now.var c.loop-v.v in
    let taken = length-take c.args.at c.args.candidates.now in
    let small = c.requires.small in
    let at = c.requires.at in
    grind (arith, e, few, taken, small, at)

pub loop-v-preserved : goal.loop-v-preserved
loop-v-preserved c =
    let plant = c.args.trial.now.plant in
    let facts = c.args.trial.now.facts in
    let x = c.args.so_far.now.var in
    let v = c.loop-v.v in
    let cs = c.args.candidates.now in
    let candidate = c.index-candidates-at.result in
    let number : c.in_ok-number.number ≡ number_with plant facts (take (c.args.at + 1) cs) (seen x v) =
    c.in_ok-number.ensures.number
    ∙ ap (λ (t : TrialValue). get_or c.as_slice-before.result.now v 0 + cond (is_allowed t.plant t.facts (seen x v) candidate) 1 0) c.loop-v.invariant.same
    ∙ ap₂ (λ (n : ℕ) (one : Candidate). n + cond (is_allowed plant facts (seen x v) one) 1 0) (told_at c.args.trial.now.plant c.args.trial.now.facts (take c.args.at c.args.candidates.now) c.args.so_far.now c.as_slice-before.result.now c.as_slice-before.ensures c.requires.so_far v c.loop-v-test.true) c.index-candidates-at.is
    ∙ sym (number_more plant facts cs c.args.at candidate x v c.requires.at)
    in
    record {
      numbers =
          c.in_ok-push.ensures.items
          ∙ ap₂ (λ (ns : List ℕ) (n : ℕ). ns ++ n ∷ []) c.loop-v.invariant.numbers number
          ∙ sym (map-range_with_len_more (λ (k : ℕ). number_with plant facts (take (c.args.at + 1) cs) (seen x k)) 0 v v (omega arith));
      same = c.in_ok-number.ensures.same ∙ c.loop-v.invariant.same;
    }

pub returns-clause-probed : goal.returns-clause-probed
returns-clause-probed c =
    let most = c.loop-v.auto.v-end in
    let least = c.loop-v-test.false in
    let whole = told_long c.args.trial.now.plant c.args.trial.now.facts (take c.args.at c.args.candidates.now) c.args.so_far.now c.as_slice-before.result.now c.as_slice-before.ensures c.requires.so_far in
    let all : c.loop-v.v ≡ slice_index_or (sizes c.args.trial.now.plant) c.args.so_far.now.var.0 0 = omega (arith, most, least, whole) in
    ap (λ (ns : List ℕ). record { var = c.args.so_far.now.var; numbers = ns })
    (c.from_vec.ensures ∙ c.loop-v.invariant.numbers ∙ ap (numbers_with c.args.trial.now.plant c.args.trial.now.facts (take (c.args.at + 1) c.args.candidates.now) c.args.so_far.now.var) all)
