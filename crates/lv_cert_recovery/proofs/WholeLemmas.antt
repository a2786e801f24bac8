-- All lines together are a certificate of the answer.
use Rattle.std.proofs.Common.{ℕ, List, [], ◌∷◌, ◌++◌, None, refl, ap}
use Rattle.lv_base.specs.declared.rank.Rank.{Rank}
use Rattle.lv_base.specs.declared.search.Pair.{Pair}
use Rattle.lv_model.specs.declared.plant.Plant.{Plant}
use Rattle.lv_meaning.specs.declared.aim.Aim.{Aim}
use Rattle.lv_cert.specs.declared.line.Question.TheVariants.{Recovery}
use Rattle.lv_cert.specs.declared.line.Line.{Line}
use Rattle.lv_cert.specs.declared.line.Line.TheVariants as line
use Rattle.lv_cert.specs.declared.order.Place.TheVariants as place
use Rattle.lv_cert_laws.specs.lv_cert_meaning.Judging.{Judged, unjudged}
use Rattle.lv_cert_laws.specs.lv_cert_meaning.Laws.{aim_of}
use Rattle.lv_cert_writing.specs.Ending.{Ends, BeginApart}
use Rattle.lv_cert_writing.specs.Splitting.{AreSplits, none, one_more}
use Rattle.lv_cert_writing.proofs.Splits.{splits_end}
use Rattle.lv_cert_laws.specs.lv_cert_meaning.Certifying.{CertifiesRecovery, AreFormed}
use Rattle.lv_cert_recovery.specs.Showing.{head_lines}
use Rattle.lv_cert_recovery.specs.Leading.{asked, excluding, task_of, Standing, judged_at, Answers, AnswerFrom, Lead}
use Rattle.lv_cert_recovery.specs.Closing.{AreClosing}
use Rattle.lv_cert_recovery.proofs.HeadingLemmas.{IsAskedOf, headed, head_first}

splits_apart : {plant : Plant} {j to : Judged} {ls : List Line} → AreSplits Recovery plant j ls to → BeginApart (ls ++ line.End ∷ [])
splits_apart none = record { same = λ is_empty. refl }
splits_apart (one_more n by good fits formed rest) = record { same = λ is_empty. refl }

module _ (plant : Plant) (aim : Aim) (texts : List (List ℕ)) (is : IsAskedOf plant aim texts) (listed : List Rank) (kept : List (List Pair)) (more splits : List Line)
    (lead : Lead plant aim (record { phase = asked; listed = []; excluded = [] }) (record { phase = excluding; listed = listed; excluded = kept }) more) (closing : AreClosing plant listed kept splits) where
  abbrev last : Standing
  last = record { phase = excluding; listed = listed; excluded = kept }

  split_last : AnswerFrom plant aim listed last (splits ++ line.End ∷ [])
  split_last =
      record {
        from =
            λ p takes own aimed before.
            let j : Judged = judged_at plant aim last own aimed before in
            record {
              final = record j { space = closing.space };
              ends = splits_end Recovery plant p (record { split = takes.split; end = takes.end }) (closing.split j refl refl refl) (closing.passed (record j { space = closing.space }) refl refl);
              stated = refl;
              listed = refl;
            };
      }

  whole_answers : Answers plant aim listed (place.Goals (task_of aim)) (headed plant aim) (more ++ (splits ++ line.End ∷ []))
  whole_answers =
      (lead.before listed (splits ++ line.End ∷ []) (splits_apart (closing.split (judged_at plant aim last [] None None) refl refl refl)) split_last).from (place.Goals (task_of aim)) refl [] None None

  abbrev pub whole_lines : List Line
  whole_lines = head_lines plant aim texts ++ (more ++ (splits ++ line.End ∷ []))

  whole_ends : Ends Recovery plant place.Start (unjudged plant Recovery) whole_lines whole_answers.final
  whole_ends = head_first plant aim texts is whole_answers.final (more ++ (splits ++ line.End ∷ [])) whole_answers.ends

  pub whole_certifies : CertifiesRecovery plant aim listed whole_lines
  whole_certifies =
      record {
        judged = whole_answers.final;
        question = refl;
        valid = record { order = whole_ends.ordered; good = whole_ends.judged 1 };
        aim_is = ap aim_of whole_answers.stated;
        listed_are = whole_answers.listed;
      }

  pub whole_formed : AreFormed plant whole_lines
  whole_formed = whole_ends.formed
