-- Splits, one after the other, each of an open zone and by evidence that the answer has.
use Rattle.std.specs.Prelude.{◌≡◌, ℕ, true, List, [], ◌∷◌, Some}
use Rattle.lv_model.specs.declared.plant.Plant.{Plant}
use Rattle.lv_cert.specs.declared.line.Question.{Question}
use Rattle.lv_cert.specs.declared.line.Evidence.{Evidence}
use Rattle.lv_cert.specs.declared.line.Line.{Line}
use Rattle.lv_cert.specs.declared.line.Line.TheVariants as line
use Rattle.lv_cert.specs.Order.{splits}
use Rattle.lv_cert.specs.Form.{is_formed}
use Rattle.lv_cert_meaning.specs.Judging.{Judged, judge_split}

-- the lines are good splits, from one judgement to the other
pub data AreSplits (question : Question) (plant : Plant) : Judged → List Line → Judged → Type 0 where
  none : {j : Judged} → AreSplits question plant j [] j
  one_more : {j next to : Judged} {ls : List Line} (n : ℕ) (by : Evidence) → judge_split plant j n by ≡ Some next → splits question by ≡ true → is_formed (line.Split n by) ≡ true
      → AreSplits question plant next ls to → AreSplits question plant j (line.Split n by ∷ ls) to
