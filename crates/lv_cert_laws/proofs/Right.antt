-- Valid lines answer what they state rightly.
use Rattle.std.proofs.Common.{take, sym, ◌∙◌, ap}
use Rattle.std.specs.Prelude.{filter}
use Rattle.lv_cert_meaning.specs.lv_meaning.declared.facts.Facts.{Facts}
use Rattle.lv_cert_meaning.specs.lv_meaning.declared.aim.Aim.{Aim}
use Rattle.lv_cert_meaning.specs.lv_meaning.Commands.{command_sets}
use Rattle.lv_cert_meaning.specs.lv_meaning.Recovery.{rank_recovers}
use Rattle.lv_cert_meaning.specs.Contents.{limit_of, facts_of}
use Rattle.lv_cert_meaning.specs.Stated.{Limit}
use Rattle.lv_cert_meaning.specs.Laws.{IsReadOff, answer_within, ValidLinesAnswerRight}
use Rattle.lv_cert_laws.proofs.Contents.{read_off}
use Rattle.lv_cert_laws.proofs.DiagnosisWhole.{diagnosis_answers}
use Rattle.lv_cert_laws.proofs.RecoveryWhole.{recovery_answers}

pub answers_right : ValidLinesAnswerRight
answers_right plant h lines j valid =
    let off : IsReadOff plant lines j = read_off plant lines j valid.good in
    record {
      diagnosis = λ is.
          sym off.answer ∙ diagnosis_answers plant h lines j valid is ∙ ap (λ (l : Limit). answer_within l plant j.stated.facts j.stated.tracked) (off.limit is)
          ∙ ap (λ (f : Facts). answer_within (limit_of lines) plant f j.stated.tracked) off.facts ∙ ap (λ (a : Aim). answer_within (limit_of lines) plant (facts_of lines) a.tracked) off.aim;
      recovery = λ is.
          sym off.answer ∙ recovery_answers plant h lines j valid is ∙ ap (λ (a : Aim). take 1 (filter (rank_recovers plant a) (command_sets plant))) off.aim;
    }
