-- one goal more that no step misses
use Rattle.std.proofs.Common.{◌∙◌, subst, ap}
use Rattle.lv_meaning.specs.declared.aim.Aim.{Aim}
use Rattle.lv_cert_recovery.specs.Telling.{TellsMissed}
use Rattle.lv_cert_recovery.proofs.BlockLemmas.{left_more, left_none}
use Rattle.lv_cert_recovery.proofs.excluding.missing_step.Goals as goal

pub loop-goal-preserved : goal.loop-goal-preserved
loop-goal-preserved c =
    record {
      left =
          left_more c.args.asking.now.plant c.args.asking.now.aim c.args.state.now c.args.pairs.now c.aim-aim.ensures.well_formed c.aim-aim.ensures.asked c.as_slice-goal-items.result.now
          (c.as_slice-goal-items.ensures ∙ ap (λ (a : Aim). a.goals) c.aim-aim.ensures.aim) c.loop-goal.goal-index c.goal-item.result c.loop-goal-test.true c.goal-item.is c.in-Lines.field-0
          (subst (TellsMissed c.args.asking.now.plant c.args.asking.now.aim c.args.state.now c.args.pairs.now c.goal-item.result) c.in-Lines.is c.in_ok-step.ensures.told) c.loop-goal.invariant.left;
      kept = c.in_ok-step.ensures.kept ∙ c.loop-goal.invariant.kept;
    }

pub returns-clause-told : goal.returns-clause-told
returns-clause-told c =
    left_none c.args.asking.now.plant c.args.asking.now.aim c.args.state.now c.args.pairs.now c.aim-aim.ensures.well_formed c.aim-aim.ensures.asked c.as_slice-goal-items.result.now
    (c.as_slice-goal-items.ensures ∙ ap (λ (a : Aim). a.goals) c.aim-aim.ensures.aim) c.loop-goal.goal-index c.loop-goal-test.false c.loop-goal.invariant.left
