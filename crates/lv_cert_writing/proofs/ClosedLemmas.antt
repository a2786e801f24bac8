-- Splits that close the zones are good lines of splits.
use Rattle.std.proofs.Common.{◌≡◌, ◌^◌, true, List, [], ◌∷◌, Option, Some, None, refl, subst, arith, All}
use Rattle.std.specs.List.{list_all}
use Rattle.std.specs.Option.{option_and_then}
use Rattle.std.proofs.lemmas.Bool.{and_parts, and_from}
use Rattle.std.proofs.lemmas.List.Elements.{All-head, All-tail}
use Rattle.lv_model.specs.declared.plant.Plant.{Plant}
use Rattle.lv_cert.specs.declared.line.Question.{Question}
use Rattle.lv_cert.specs.declared.line.Evidence.{Evidence}
use Rattle.lv_cert.specs.declared.line.Evidence.TheVariants as evidence
use Rattle.lv_cert.specs.declared.line.Line.TheVariants as line
use Rattle.lv_cert.specs.Order.{splits}
use Rattle.lv_cert.specs.Form.{is_formed, is_formed_evidence, is_within_limit}
use Rattle.lv_cert_meaning.specs.Judging.{Judged, judge_split}
use Rattle.lv_cert_writing.specs.declared.closing.Split.{Split}
use Rattle.lv_cert_writing.specs.Closing.{judge_splits, EvidenceIsSmall, SplitIsSmall}
use Rattle.lv_cert_writing.specs.Lines.{split_lines}
use Rattle.lv_cert_writing.specs.Splitting.{AreSplits, none, one_more}
use Rattle.lv_cert_writing.proofs.Numbers.{within}

evidence_formed : (by : Evidence) → EvidenceIsSmall by → is_formed_evidence by ≡ true
evidence_formed (evidence.Conflict n) small = within n (2 ^ 64) small (omega arith)
evidence_formed (evidence.Listed n) small = within n (2 ^ 64) small (omega arith)
evidence_formed (evidence.Target n) small = within n (2 ^ 64) small (omega arith)
evidence_formed evidence.Recovery small = refl

split_formed : (s : Split) → SplitIsSmall s → is_formed (line.Split s.zone s.by) ≡ true
split_formed s small = and_from (is_within_limit s.zone) (is_formed_evidence s.by) (within s.zone (2 ^ 64) small.zone (omega arith)) (evidence_formed s.by small.by)

module _ (question : Question) (plant : Plant) where
  pub are_splits : (made : List Split) (j to : Judged) → judge_splits plant j made ≡ Some to → list_all (λ (s : Split). splits question s.by) made ≡ true → All SplitIsSmall made → AreSplits question plant j (split_lines made) to
  are_splits [] j to good fit small = subst (AreSplits question plant j []) (cc good) none
  are_splits (s ∷ ss) j to good fit small = by (judge_split plant j s.zone s.by) refl good (λ next later. are_splits ss next to later (and_parts (splits question s.by) (list_all (λ (x : Split). splits question x.by) ss) fit).1 (All-tail SplitIsSmall s ss small))
    where
      by : (o : Option Judged) → judge_split plant j s.zone s.by ≡ o → option_and_then (λ next. judge_splits plant next ss) o ≡ Some to
          → ((next : Judged) → judge_splits plant next ss ≡ Some to → AreSplits question plant next (split_lines ss) to) → AreSplits question plant j (split_lines (s ∷ ss)) to
      by None is e rest = absurd (cc e)
      by (Some next) is e rest =
          one_more s.zone s.by is (and_parts (splits question s.by) (list_all (λ (x : Split). splits question x.by) ss) fit).0 (split_formed s (All-head SplitIsSmall s ss small)) (rest next e)
