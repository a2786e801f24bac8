-- what is listed can be shown, and what was kept refuted
use Rattle.std.proofs.Common.{All, sym, subst}
use Rattle.lv_cert_diagnosis.specs.Showing.{Asked, CanBeShown, CanBeRefuted}
use Rattle.lv_cert_diagnosis.proofs.AnswerLemmas.{listed_can_be_shown, kept_can_be_refuted}
use Rattle.lv_cert_diagnosis.proofs.whole.push_answer.Goals as goal

pub push_listed-requires-clause-can : goal.push_listed-requires-clause-can
push_listed-requires-clause-can c =
    subst (λ (v : Asked). All (CanBeShown v.plant v.facts) c.args.answer.now.listed.now) (sym c.in_ok-asking.ensures)
    (listed_can_be_shown c.args.question.now.model.now c.args.question.now.tracked.now c.args.question.now.facts.now c.args.question.now.limit.most c.args.question.now.limit.distinct c.args.answer.now.listed.now c.args.answer.now.kept.now c.requires.settled)

pub push_blocks-requires-clause-can : goal.push_blocks-requires-clause-can
push_blocks-requires-clause-can c =
    subst (λ (v : Asked). All (CanBeRefuted v.plant v.facts) c.args.answer.now.kept.now) (sym c.in_ok-asking.ensures)
    (kept_can_be_refuted c.args.question.now.model.now c.args.question.now.tracked.now c.args.question.now.facts.now c.args.question.now.limit.most c.args.question.now.limit.distinct c.args.answer.now.listed.now c.args.answer.now.kept.now c.requires.settled)
