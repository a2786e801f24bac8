-- all lines together certify the answer
use Rattle.std.proofs.Common.{◌++◌, ◌∷◌, [], ◌∙◌, List, sym, subst, ap}
use Rattle.lv_cert.specs.declared.line.Line.{Line}
use Rattle.lv_cert.specs.declared.line.Line.TheVariants as line
use Rattle.lv_cert_laws.specs.lv_cert_meaning.Certifying.{CertifiesDiagnosis, AreFormed}
use Rattle.lv_cert_writing.specs.Lines.{split_lines}
use Rattle.lv_cert_diagnosis.proofs.AskedLemmas.{done}
use Rattle.lv_cert_diagnosis.proofs.whole.certify_diagnosis.Goals as goal

-- so they are in order
pub new-requires : goal.new-requires
new-requires c =
    (done c.args.question.now.model.now (rw c.plant-plant.ensures.plant at c.plant-plant.ensures.well_formed) (rw c.plant-plant.ensures.plant at c.plant-plant.ensures.few) (rw c.plant-plant.ensures.plant at c.plant-plant.ensures.count)
    c.args.question.now.system.now c.requires.system c.args.question.now.tracked.now c.args.question.now.facts.now c.args.question.now.limit.most c.args.question.now.limit.distinct c.args.answer.now.listed.now c.args.answer.now.kept.now c.requires.states c.requires.facts c.requires.some c.requires.few c.requires.settled
    c.in_ok-lines.lines.items c.push_answer.new.lines.items c.in_ok-made.made.items c.in_ok-lines.ensures c.in_ok-push_answer.ensures c.in_ok-made.ensures c.from_vec.result
    (c.from_vec.ensures ∙ c.in_ok-push.ensures.items ∙ ap (λ (ls : List Line). ls ++ line.End ∷ []) (c.in_ok-push_splits.ensures ∙ ap (λ made. c.push_answer.new.lines.items ++ split_lines made) c.as_slice.ensures.value))).certifies.valid.order

pub returns-clause-certifies : goal.returns-clause-certifies
returns-clause-certifies c =
    subst (λ (ls : List Line). CertifiesDiagnosis c.args.question.now.model.now c.args.question.now.tracked.now c.args.question.now.facts.now c.args.question.now.limit.most c.args.question.now.limit.distinct c.args.answer.now.listed.now ls) (sym c.new.ensures)
    (done c.args.question.now.model.now (rw c.plant-plant.ensures.plant at c.plant-plant.ensures.well_formed) (rw c.plant-plant.ensures.plant at c.plant-plant.ensures.few) (rw c.plant-plant.ensures.plant at c.plant-plant.ensures.count)
    c.args.question.now.system.now c.requires.system c.args.question.now.tracked.now c.args.question.now.facts.now c.args.question.now.limit.most c.args.question.now.limit.distinct c.args.answer.now.listed.now c.args.answer.now.kept.now c.requires.states c.requires.facts c.requires.some c.requires.few c.requires.settled
    c.in_ok-lines.lines.items c.push_answer.new.lines.items c.in_ok-made.made.items c.in_ok-lines.ensures c.in_ok-push_answer.ensures c.in_ok-made.ensures c.from_vec.result
    (c.from_vec.ensures ∙ c.in_ok-push.ensures.items ∙ ap (λ (ls : List Line). ls ++ line.End ∷ []) (c.in_ok-push_splits.ensures ∙ ap (λ made. c.push_answer.new.lines.items ++ split_lines made) c.as_slice.ensures.value))).certifies

pub returns-clause-formed : goal.returns-clause-formed
returns-clause-formed c =
    subst (λ (ls : List Line). AreFormed c.args.question.now.model.now ls) (sym c.new.ensures)
    (done c.args.question.now.model.now (rw c.plant-plant.ensures.plant at c.plant-plant.ensures.well_formed) (rw c.plant-plant.ensures.plant at c.plant-plant.ensures.few) (rw c.plant-plant.ensures.plant at c.plant-plant.ensures.count)
    c.args.question.now.system.now c.requires.system c.args.question.now.tracked.now c.args.question.now.facts.now c.args.question.now.limit.most c.args.question.now.limit.distinct c.args.answer.now.listed.now c.args.answer.now.kept.now c.requires.states c.requires.facts c.requires.some c.requires.few c.requires.settled
    c.in_ok-lines.lines.items c.push_answer.new.lines.items c.in_ok-made.made.items c.in_ok-lines.ensures c.in_ok-push_answer.ensures c.in_ok-made.ensures c.from_vec.result
    (c.from_vec.ensures ∙ c.in_ok-push.ensures.items ∙ ap (λ (ls : List Line). ls ++ line.End ∷ []) (c.in_ok-push_splits.ensures ∙ ap (λ made. c.push_answer.new.lines.items ++ split_lines made) c.as_slice.ensures.value))).formed
