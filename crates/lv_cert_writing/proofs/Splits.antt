-- The splits of a certificate and its last line.
use Rattle.std.proofs.Common.{◌≡◌, ℕ, true, List, [], ◌∷◌, ◌++◌, Some, None, cond, refl, ◌∙◌, ap}
use Rattle.lv_model.specs.declared.plant.Plant.{Plant}
use Rattle.lv_cert.specs.declared.line.Question.{Question}
use Rattle.lv_cert.specs.declared.line.Evidence.{Evidence}
use Rattle.lv_cert.specs.declared.line.Line.{Line}
use Rattle.lv_cert.specs.declared.line.Line.TheVariants as line
use Rattle.lv_cert.specs.declared.order.Place.{Place}
use Rattle.lv_cert.specs.declared.order.Place.TheVariants as place
use Rattle.lv_cert.specs.Order.{after_splits, place_after}
use Rattle.lv_cert_meaning.specs.Space.{all_passed}
use Rattle.lv_cert_meaning.specs.Judging.{Judged, full_to}
use Rattle.lv_cert_writing.specs.Ending.{Ends}
use Rattle.lv_cert_writing.specs.Splitting.{AreSplits, none, one_more}
use Rattle.lv_cert_writing.proofs.Ending.{ended, line_first}

-- where splits may come, or the last line
pub record TakesSplits (question : Question) (p : Place) : Type 0 where
  pub split : (n : ℕ) (by : Evidence) → place_after p (line.Split n by) ≡ after_splits question (line.Split n by)
  pub end : place_after p line.End ≡ Some place.Done

module _ (question : Question) (plant : Plant) where
  pub splits_end : (p : Place) → TakesSplits question p → {j to : Judged} {ls : List Line} → AreSplits question plant j ls to → all_passed to.space (full_to to) ≡ true
      → Ends question plant p j (ls ++ line.End ∷ []) to
  splits_end p takes {j = j} none passed =
      line_first question plant j p place.Done j j line.End [] (ap (λ b. cond b (Some j) None) passed) takes.end (λ w. refl) (ended question plant j)
  splits_end p takes {j = j} {to = to} (one_more {next = next} {ls = ls} n by good fits formed rest) passed =
      line_first question plant to p (place.Splits question) j next (line.Split n by) (ls ++ line.End ∷ []) good (takes.split n by ∙ ap (λ b. cond b (Some (place.Splits question)) None) fits) (λ w. formed)
      (splits_end (place.Splits question) (record { split = λ m e. refl; end = refl }) rest passed)
