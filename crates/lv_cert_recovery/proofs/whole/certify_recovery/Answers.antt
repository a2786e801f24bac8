-- all lines together certify the answer
use Rattle.std.proofs.Common.{◌++◌, ◌∷◌, [], ◌∙◌, List, sym, subst, ap}
use Rattle.lv_cert.specs.declared.line.Line.{Line}
use Rattle.lv_cert.specs.declared.line.Line.TheVariants as line
use Rattle.lv_cert_laws.specs.lv_cert_meaning.Certifying.{CertifiesRecovery, AreFormed}
use Rattle.lv_cert_writing.specs.Lines.{split_lines}
use Rattle.lv_cert_recovery.specs.Asking.{Asked}
use Rattle.lv_cert_recovery.specs.Leading.{asked, excluding, standing, LeadsOn}
use Rattle.lv_cert_recovery.proofs.DoneLemmas.{done, formed}
use Rattle.lv_cert_recovery.proofs.whole.certify_recovery.Goals as goal

-- so they are in order
pub new-requires-2 : goal.new-requires-2
new-requires-2 c =
    (done
    c.args.question.now.model.now c.args.question.now.aim.now c.args.answer.now.listed.now c.args.answer.now.kept.now c.requires.settled (rw c.plant-plant.ensures.plant at c.plant-plant.ensures.well_formed) c.requires.asked
    c.args.question.now.texts.now c.requires.texts c.in_ok-lines.lines.items c.push_answer.new.lines.items c.in_ok-lines.ensures
    (subst (λ (a : Asked). LeadsOn a.plant a.aim (standing asked [] []) (standing excluding c.args.answer.now.listed.now c.args.answer.now.kept.now) c.in_ok-lines.lines.items c.push_answer.new.lines.items)
    c.in_ok-asking.ensures c.in_ok-push_answer.ensures)
    (split_lines c.in_ok-made.made.items) c.in_ok-made.ensures c.from_vec.result
    (c.from_vec.ensures ∙ c.in_ok-push.ensures.items ∙ ap (λ (ls : List Line). ls ++ line.End ∷ []) (c.in_ok-push_splits.ensures ∙ ap (λ made. c.push_answer.new.lines.items ++ split_lines made) c.as_slice.ensures.value))).valid.order

pub returns-clause-certifies : goal.returns-clause-certifies
returns-clause-certifies c =
    subst (λ (ls : List Line). CertifiesRecovery c.args.question.now.model.now c.args.question.now.aim.now c.args.answer.now.listed.now ls) (sym c.new-2.ensures)
    (done
    c.args.question.now.model.now c.args.question.now.aim.now c.args.answer.now.listed.now c.args.answer.now.kept.now c.requires.settled (rw c.plant-plant.ensures.plant at c.plant-plant.ensures.well_formed) c.requires.asked
    c.args.question.now.texts.now c.requires.texts c.in_ok-lines.lines.items c.push_answer.new.lines.items c.in_ok-lines.ensures
    (subst (λ (a : Asked). LeadsOn a.plant a.aim (standing asked [] []) (standing excluding c.args.answer.now.listed.now c.args.answer.now.kept.now) c.in_ok-lines.lines.items c.push_answer.new.lines.items)
    c.in_ok-asking.ensures c.in_ok-push_answer.ensures)
    (split_lines c.in_ok-made.made.items) c.in_ok-made.ensures c.from_vec.result
    (c.from_vec.ensures ∙ c.in_ok-push.ensures.items ∙ ap (λ (ls : List Line). ls ++ line.End ∷ []) (c.in_ok-push_splits.ensures ∙ ap (λ made. c.push_answer.new.lines.items ++ split_lines made) c.as_slice.ensures.value)))

pub returns-clause-formed : goal.returns-clause-formed
returns-clause-formed c =
    subst (λ (ls : List Line). AreFormed c.args.question.now.model.now ls) (sym c.new-2.ensures)
    (formed
    c.args.question.now.model.now c.args.question.now.aim.now c.args.answer.now.listed.now c.args.answer.now.kept.now c.requires.settled (rw c.plant-plant.ensures.plant at c.plant-plant.ensures.well_formed) c.requires.asked
    c.args.question.now.texts.now c.requires.texts c.in_ok-lines.lines.items c.push_answer.new.lines.items c.in_ok-lines.ensures
    (subst (λ (a : Asked). LeadsOn a.plant a.aim (standing asked [] []) (standing excluding c.args.answer.now.listed.now c.args.answer.now.kept.now) c.in_ok-lines.lines.items c.push_answer.new.lines.items)
    c.in_ok-asking.ensures c.in_ok-push_answer.ensures)
    (split_lines c.in_ok-made.made.items) c.in_ok-made.ensures c.from_vec.result
    (c.from_vec.ensures ∙ c.in_ok-push.ensures.items ∙ ap (λ (ls : List Line). ls ++ line.End ∷ []) (c.in_ok-push_splits.ensures ∙ ap (λ made. c.push_answer.new.lines.items ++ split_lines made) c.as_slice.ensures.value)))
