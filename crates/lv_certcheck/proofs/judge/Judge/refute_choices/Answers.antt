use Rattle.lv_certcheck.specs.Settings.{plant_of}
use Rattle.lv_certcheck.specs.Verdicts.{judged_of}
use Rattle.lv_certcheck.proofs.JudgeLemmas.{pairs_found, no_choices, choices_unended, choices_opened}
use Rattle.std.proofs.Common.{sym, refl}
use Rattle.lv_model.specs.Lists.{move_counts}
use Rattle.lv_certcheck.proofs.judge.Judge.refute_choices.Goals as goal

-- src/judge.rt:345:13
pub returns-in_default-clause-judged : goal.returns-in_default-clause-judged
returns-in_default-clause-judged c =
    no_choices (plant_of c.args.self.now.setting) (judged_of c.args.judged.now) c.args.ns.now c.args.rest.now c.in_ok-conflict.field-0 c.in_default.is
    (pairs_found c.in_ok-conflict.field-0 c.as_slice.result.now _ (move_counts (plant_of c.args.self.now.setting)) c.args.ns.now c.in_ok-conflict.ensures.pairs c.as_slice.ensures.value c.requires.setting.counts_are.moves_are)

-- src/judge.rt:348:13
pub returns-then-not-ends_empty-clause-judged : goal.returns-then-not-ends_empty-clause-judged
returns-then-not-ends_empty-clause-judged c =
    choices_unended (plant_of c.args.self.now.setting) (judged_of c.args.judged.now) c.args.ns.now c.args.rest.now c.in_ok-conflict.field-0 c.in-Some.conflict c.in-Some.is
    (pairs_found c.in_ok-conflict.field-0 c.as_slice.result.now _ (move_counts (plant_of c.args.self.now.setting)) c.args.ns.now c.in_ok-conflict.ensures.pairs c.as_slice.ensures.value c.requires.setting.counts_are.moves_are) (sym c.if-not-ends_empty.ensures)

-- src/judge.rt:332:5
pub returns-clause-judged : goal.returns-clause-judged
returns-clause-judged c =
    choices_opened (plant_of c.args.self.now.setting) c.args.judged.now c.args.ns.now c.args.rest.now c.in_ok-conflict.field-0 c.in-Some.conflict c.as_slice-2.result.now c.pairs.result.now c.push.new.self.items
    c.restart.new.self c.give_units.new.block c.give_choices.new.block
    c.judged.view_is c.in-Some.is
    (pairs_found c.in_ok-conflict.field-0 c.as_slice.result.now _ (move_counts (plant_of c.args.self.now.setting)) c.args.ns.now c.in_ok-conflict.ensures.pairs c.as_slice.ensures.value c.requires.setting.counts_are.moves_are) (sym c.if-not-ends_empty.ensures)
    c.as_slice-2.ensures.value c.pairs.ensures.pairs c.restart.ensures c.in_ok-give_units.ensures c.in_ok-give_choices.ensures c.in_ok-push.ensures.items refl
