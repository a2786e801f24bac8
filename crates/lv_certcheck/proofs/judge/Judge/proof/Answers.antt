use Rattle.std.proofs.Common.{[], false, length, slice_index_or, sym, refl, ap, ◌∙◌, arith}
use Rattle.lv_cert_laws.specs.lv_cert_meaning.Units.{nominal_units, goal_clauses}
use Rattle.lv_meaning.specs.Commands.{control_sizes}
use Rattle.lv_certcheck.specs.Settings.{plant_of}
use Rattle.lv_certcheck.proofs.JudgeLemmas.{pairs_of_values, below_counts, goal_there, goal_at, proof_opened, fits_opened, at_place}
use Rattle.lv_base.specs.Choices.{pairs_of}
use Rattle.lv_certcheck.specs.declared.judged.Judged.{Judged}
use Rattle.lv_certcheck.proofs.judge.Judge.proof.Goals as goal

-- src/judge.rt:510:9
pub give_step-requires-clause-pairs : goal.give_step-requires-clause-pairs
give_step-requires-clause-pairs c =
    pairs_of_values (control_sizes (plant_of c.args.self.now.setting)) c.in_ok-values.values.items c.pairs.result.now
    (c.pairs.ensures.pairs ∙ c.in_ok-conflict.ensures ∙ ap pairs_of c.as_slice-3.ensures.value)
    (below_counts c.in_ok-values.values.items c.as_slice.result.now c.as_slice-2.result.now _ (control_sizes (plant_of c.args.self.now.setting)) c.are_below.result c.as_slice.ensures.value c.as_slice-2.ensures.value c.requires.setting.counts_are.controlled_are c.are_below.ensures c.if-not-are_below.false)

-- src/judge.rt:515:14
pub index-requires : goal.index-requires
index-requires c =
    let before = ap (λ (j : Judged). length j.stated.goals) c.judged.view_is in
    let after = ap (λ (j : Judged). length j.stated.goals) (c.judged-2.view_is ∙ (c.in_ok-give_step.ensures (record { state = record { modes = [] }; cost = record { 0 = 0 } }))) in
    omega (arith, c.in-Some.ensures.within, c.len.ensures, before, after)

-- src/judge.rt:511:9
pub give_goal-requires-clause-fits : goal.give_goal-requires-clause-fits
give_goal-requires-clause-fits c =
    let before = ap (λ (j : Judged). length j.stated.goals) c.judged.view_is in
    goal_there (plant_of c.args.self.now.setting) c.args.self.now.setting.system.now c.args.judged.now c.give_step.new.judged
    (nominal_units (plant_of c.args.self.now.setting) (slice_index_or c.args.judged.now.stated.tracked c.in-Some-place_in.place (record { state = record { modes = [] }; cost = record { 0 = 0 } })).state.modes c.args.judged.now.stated.literals c.pairs.result.now) c.in-Some.goal c.index.result.now c.requires.fits c.judged-2.view_is (c.in_ok-give_step.ensures (record { state = record { modes = [] }; cost = record { 0 = 0 } })) c.index.ensures
    (omega (arith, c.in-Some.ensures.within, c.len.ensures, before))

-- src/judge.rt:485:5
pub returns-clause-judged : goal.returns-clause-judged
returns-clause-judged c =
    let goals = ap (λ (j : Judged). length j.stated.goals) c.judged.view_is in
    let tracked = ap (λ (j : Judged). length j.stated.tracked) c.judged.view_is in
    proof_opened (plant_of c.args.self.now.setting) c.args.judged.now c.give_step.new.judged 0 0
    (slice_index_or c.args.judged.now.stated.tracked c.in-Some-place_in.place (record { state = record { modes = [] }; cost = record { 0 = 0 } })) (slice_index_or c.args.judged.now.stated.goals c.in-Some.goal c.index.result.now) c.index.result.now c.args.ns.now c.args.rest.now c.in_ok-values.values.items c.pairs.result.now
    (nominal_units (plant_of c.args.self.now.setting) (slice_index_or c.args.judged.now.stated.tracked c.in-Some-place_in.place (record { state = record { modes = [] }; cost = record { 0 = 0 } })).state.modes c.args.judged.now.stated.literals c.pairs.result.now) c.give_goal.new.block
    c.judged-2.view_is (c.in_ok-give_step.ensures (record { state = record { modes = [] }; cost = record { 0 = 0 } })) refl c.in-len2.len_at_least c.in-len2.len_below
    (at_place c.args.judged.now.stated.tracked (record { state = record { modes = [] }; cost = record { 0 = 0 } }) (slice_index_or c.args.ns.now 0 0) c.in-Some-place_in.place c.len-2.result c.place_in-2.result c.place_in-2.ensures.place c.in-Some-place_in.is c.in-Some-place_in.ensures.within (omega (arith, c.len-2.ensures, tracked)))
    (at_place c.args.judged.now.stated.goals c.index.result.now (slice_index_or c.args.ns.now 1 0) c.in-Some.goal c.len.result c.place_in.result c.place_in.ensures.place c.in-Some.is c.in-Some.ensures.within (omega (arith, c.len.ensures, goals)))
    c.in_ok-values.ensures.values
    (c.pairs.ensures.pairs ∙ c.in_ok-conflict.ensures ∙ ap pairs_of c.as_slice-3.ensures.value)
    (below_counts c.in_ok-values.values.items c.as_slice.result.now c.as_slice-2.result.now _ (control_sizes (plant_of c.args.self.now.setting)) c.are_below.result c.as_slice.ensures.value c.as_slice-2.ensures.value c.requires.setting.counts_are.controlled_are c.are_below.ensures c.if-not-are_below.false) (sym c.if-not-ends_empty.ensures) c.in_ok-give_goal.ensures
    (goal_at c.args.judged.now c.give_step.new.judged (nominal_units (plant_of c.args.self.now.setting) (slice_index_or c.args.judged.now.stated.tracked c.in-Some-place_in.place (record { state = record { modes = [] }; cost = record { 0 = 0 } })).state.modes c.args.judged.now.stated.literals c.pairs.result.now) c.in-Some.goal c.index.result.now c.judged-2.view_is (c.in_ok-give_step.ensures (record { state = record { modes = [] }; cost = record { 0 = 0 } })) c.index.ensures)

-- src/judge.rt:485:5
pub returns-clause-fits : goal.returns-clause-fits
returns-clause-fits c = λ good.
    fits_opened (plant_of c.args.self.now.setting) c.args.self.now.setting.system.now c.args.judged.now c.give_step.new.judged
    (nominal_units (plant_of c.args.self.now.setting) (slice_index_or c.args.judged.now.stated.tracked c.in-Some-place_in.place (record { state = record { modes = [] }; cost = record { 0 = 0 } })).state.modes c.args.judged.now.stated.literals c.pairs.result.now) (goal_clauses (plant_of c.args.self.now.setting) false c.index.result.now) c.give_goal.new.block
    c.requires.fits c.judged-2.view_is (c.in_ok-give_step.ensures (record { state = record { modes = [] }; cost = record { 0 = 0 } })) c.in_ok-give_goal.ensures
