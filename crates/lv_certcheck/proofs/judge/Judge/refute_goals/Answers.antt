use Rattle.std.proofs.Common.{[], true, length, slice_index_or, sym, refl, ap, arith}
use Rattle.lv_cert_laws.specs.lv_cert_meaning.Units.{nominal_units, goal_clauses}
use Rattle.lv_meaning.specs.Commands.{control_sizes}
use Rattle.lv_certcheck.specs.Settings.{plant_of}
use Rattle.lv_certcheck.specs.Verdicts.{judged_of}
use Rattle.lv_certcheck.proofs.JudgeLemmas.{pairs_behind, no_values, goals_opened, fits_opened, fits_excluded, goals_fit, at_place}
use Rattle.std.specs.List.{flat_map}
use Rattle.lv_certcheck.specs.declared.judged.Judged.{Judged}
use Rattle.lv_certcheck.proofs.judge.Judge.refute_goals.Goals as goal

-- src/judge.rt:378:13
pub returns-in_default-2-clause-judged : goal.returns-in_default-2-clause-judged
returns-in_default-2-clause-judged c =
    no_values (plant_of c.args.self.now.setting) (judged_of c.args.judged.now) c.args.ns.now c.args.rest.now c.in_ok-conflict.field-0 c.in-len1-up.len_at_least c.in_default-2.is
    (pairs_behind c.in_ok-conflict.field-0 c.as_slice.result.now _ (control_sizes (plant_of c.args.self.now.setting)) c.args.ns.now c.in_ok-conflict.ensures.pairs c.as_slice.ensures.value c.requires.setting.counts_are.controlled_are)

-- src/judge.rt:384:9
pub give_goals-requires-clause-fit : goal.give_goals-requires-clause-fit
give_goals-requires-clause-fit c =
    goals_fit (plant_of c.args.self.now.setting) c.args.self.now.setting.system.now c.args.judged.now c.give_step.new.judged
    (nominal_units (plant_of c.args.self.now.setting) (slice_index_or c.args.judged.now.stated.tracked c.in-Some.place (record { state = record { modes = [] }; cost = record { 0 = 0 } })).state.modes c.args.judged.now.stated.literals c.pairs.result.now)
    c.as_slice-2.result.now c.requires.fits c.judged-2.view_is (c.in_ok-give_step.ensures (record { state = record { modes = [] }; cost = record { 0 = 0 } })) c.as_slice-2.ensures.value

-- src/judge.rt:358:5
pub returns-clause-judged : goal.returns-clause-judged
returns-clause-judged c =
    let tracked = ap (λ (j : Judged). length j.stated.tracked) c.judged.view_is in
    goals_opened (plant_of c.args.self.now.setting) c.args.judged.now c.give_step.new.judged 0
    (slice_index_or c.args.judged.now.stated.tracked c.in-Some.place (record { state = record { modes = [] }; cost = record { 0 = 0 } })) c.args.ns.now c.args.rest.now c.in_ok-conflict.field-0 c.in-Some-2.conflict c.pairs.result.now c.as_slice-2.result.now c.push.new.self.items
    (nominal_units (plant_of c.args.self.now.setting) (slice_index_or c.args.judged.now.stated.tracked c.in-Some.place (record { state = record { modes = [] }; cost = record { 0 = 0 } })).state.modes c.args.judged.now.stated.literals c.pairs.result.now) c.give_goals.new.block
    c.judged-2.view_is (c.in_ok-give_step.ensures (record { state = record { modes = [] }; cost = record { 0 = 0 } })) refl
    c.in-len1-up.len_at_least
    (at_place c.args.judged.now.stated.tracked (record { state = record { modes = [] }; cost = record { 0 = 0 } }) (slice_index_or c.args.ns.now 0 0) c.in-Some.place c.len.result c.place_in.result c.place_in.ensures.place c.in-Some.is c.in-Some.ensures.within (omega (arith, c.len.ensures, tracked)))
    c.in-Some-2.is
    (pairs_behind c.in_ok-conflict.field-0 c.as_slice.result.now _ (control_sizes (plant_of c.args.self.now.setting)) c.args.ns.now c.in_ok-conflict.ensures.pairs c.as_slice.ensures.value c.requires.setting.counts_are.controlled_are) (sym c.if-not-ends_empty.ensures)
    c.pairs.ensures.pairs c.as_slice-2.ensures.value c.in_ok-give_goals.ensures c.in_ok-push.ensures.items refl

-- src/judge.rt:358:5
pub returns-clause-fits : goal.returns-clause-fits
returns-clause-fits c = λ good.
    fits_excluded (plant_of c.args.self.now.setting) c.args.self.now.setting.system.now _ _
    (fits_opened (plant_of c.args.self.now.setting) c.args.self.now.setting.system.now c.args.judged.now c.give_step.new.judged
    (nominal_units (plant_of c.args.self.now.setting) (slice_index_or c.args.judged.now.stated.tracked c.in-Some.place (record { state = record { modes = [] }; cost = record { 0 = 0 } })).state.modes c.args.judged.now.stated.literals c.pairs.result.now) (flat_map (goal_clauses (plant_of c.args.self.now.setting) true) c.as_slice-2.result.now) c.give_goals.new.block
    c.requires.fits c.judged-2.view_is (c.in_ok-give_step.ensures (record { state = record { modes = [] }; cost = record { 0 = 0 } })) c.in_ok-give_goals.ensures) refl refl refl refl
