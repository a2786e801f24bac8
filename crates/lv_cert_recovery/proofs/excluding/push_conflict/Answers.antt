-- the first state from which the values don't reach the goals, or one more from which they do
use Rattle.std.proofs.Common.{◌∷◌, ◌++◌, ◌∙◌, List, [], map, subst, ap, arith}
use Rattle.lv_model.specs.declared.state.TrackedState.{TrackedState}
use Rattle.lv_meaning.specs.declared.aim.Aim.{Aim}
use Rattle.lv_meaning.specs.Recovers.{reaches}
use Rattle.lv_cert.specs.declared.line.Line.{Line}
use Rattle.lv_cert_writing.specs.Lines.{clause_lines}
use Rattle.lv_cert_writing.specs.BlockLines.{derived_of}
use Rattle.lv_cert_recovery.specs.Telling.{TellsReached}
use Rattle.lv_cert_recovery.proofs.BlockLemmas.{joined, there, test_more}
use Rattle.lv_cert_recovery.proofs.GivingLemmas.{conflict_on}
use Rattle.lv_cert_recovery.proofs.TellingLemmas.{reaching_reaches}
use Rattle.lv_cert_recovery.proofs.excluding.push_conflict.Goals as goal

pub loop-place-preserved : goal.loop-place-preserved
loop-place-preserved c =
    record {
      kept = c.in_ok-told.ensures.kept ∙ c.loop-place.invariant.kept;
      same = c.loop-place.invariant.same;
      all =
          test_more (λ (s : TrackedState). reaches c.args.asking.now.plant c.args.asking.now.aim s.state c.args.pairs.now) c.as_slice-s-items.result.now c.loop-place.place c.s-item.result c.loop-place-test.true
          c.s-item.is
          (reaching_reaches c.args.asking.now.plant c.args.asking.now.aim c.s-item.result.state c.args.pairs.now c.in-Step.field-0.now c.in-Step.field-0.next
          (subst (TellsReached c.args.asking.now.plant c.args.asking.now.aim c.s-item.result.state c.args.pairs.now) c.in-Step.is c.in_ok-told.ensures.told))
          c.loop-place.invariant.all;
    }

pub returns-in-Lines-clause-told : goal.returns-in-Lines-clause-told
returns-in-Lines-clause-told c =
    conflict_on c.args.asking.now.plant c.args.asking.now.aim c.aim-aim.ensures.well_formed c.aim-aim.ensures.asked c.args.pairs.now c.requires.have c.requires.rising c.loop-place.place c.s-item.result
    (there c.as_slice-s-items.result.now c.args.asking.now.aim.tracked (c.as_slice-s-items.ensures ∙ ap (λ (a : Aim). a.tracked) c.aim-aim.ensures.aim) c.loop-place.place c.s-item.result c.loop-place-test.true
    c.s-item.is)
    c.in-Lines.told (subst (TellsReached c.args.asking.now.plant c.args.asking.now.aim c.s-item.result.state c.args.pairs.now) c.in-Lines.is c.in_ok-told.ensures.told)
    c.args.lines.now.items c.push_clauses.new.lines.items
    (joined c.args.lines.now.items c.push.new.self.items c.push_clauses.new.lines.items (clause_lines (map derived_of c.in-Lines.told)) c.in_ok-conflict_line-in-Lines.field-0 _
    (c.in_ok-push-in-Lines.ensures.items ∙ ap (λ (ls : List Line). ls ++ c.in_ok-conflict_line-in-Lines.field-0 ∷ []) c.loop-place.invariant.same) c.in_ok-conflict_line-in-Lines.ensures
    c.in_ok-push_clauses-in-Lines.ensures.lines)
    (let v = c.push_clauses.new.lines in let small = v.small in let ok = v.ok in omega (arith, small, ok))
