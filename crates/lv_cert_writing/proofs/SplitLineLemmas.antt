-- Splits as lines: each is judged as the split, and comes where splits come.
use Rattle.std.proofs.Common.{◌≡◌, ℕ, ◌+◌, true, List, [], ◌∷◌, map, Option, Some, None, refl, ◌∙◌, ap, cond}
use Rattle.std.specs.Option.{option_and_then, option_map_or}
use Rattle.std.specs.List.{list_all}
use Rattle.std.proofs.lemmas.Bool.{and_parts}
use Rattle.lv_base.specs.declared.ids.Cost.{Cost}
use Rattle.lv_base.specs.declared.rank.Rank.{Rank}
use Rattle.lv_base.specs.declared.search.Pair.{Pair}
use Rattle.lv_boxes.specs.Members.{ZoneValue}
use Rattle.lv_model.specs.declared.plant.Plant.{Plant}
use Rattle.lv_cert.specs.declared.line.Question.{Question}
use Rattle.lv_cert.specs.declared.line.Line.TheVariants as line
use Rattle.lv_cert.specs.declared.order.Place.{Place}
use Rattle.lv_cert.specs.declared.order.Place.TheVariants as place
use Rattle.lv_cert.specs.Order.{splits, place_after, place_behind}
use Rattle.lv_cert_meaning.specs.Space.{all_passed}
use Rattle.lv_cert_meaning.specs.Judging.{Judged, full_to, judge_split, judge_lines, comes_to, is_bad_at}
use Rattle.lv_cert_writing.specs.Closing.{MayHaveTargets, Closes, judge_splits}
use Rattle.lv_cert_writing.specs.SplitLines.{split_line, last_lines}
use Rattle.lv_cert_writing.specs.declared.closing.Split.{Split}

lines_judged : (asked : Question) (plant : Plant) (n : ℕ) (j k : Judged) (made : List Split) → judge_splits plant j made ≡ Some k → all_passed k.space (full_to k) ≡ true
    → judge_lines asked plant n j (last_lines made) ≡ comes_to k
lines_judged asked plant n j k [] judged passed =
    let same : j ≡ k = cc judged in
    ap (λ (m : Judged). judge_lines asked plant n m (line.End ∷ [])) same
    ∙ ap (λ b. option_map_or (λ (next : Judged). judge_lines asked plant (n + 1) next []) (cond b (Some k) None) (is_bad_at n)) passed
lines_judged asked plant n j k (s ∷ ss) judged passed =
    by (judge_split plant j s.zone s.by) (λ m h. lines_judged asked plant (n + 1) m k ss h passed) judged
  where
    by : (o : Option Judged) → ((m : Judged) → judge_splits plant m ss ≡ Some k → judge_lines asked plant (n + 1) m (last_lines ss) ≡ comes_to k) → option_and_then (λ next. judge_splits plant next ss) o ≡ Some k
        → option_map_or (λ next. judge_lines asked plant (n + 1) next (last_lines ss)) o (is_bad_at n) ≡ comes_to k
    by None rest e = absurd (cc e)
    by (Some m) rest e = rest m e

pub end_good : (groups : Option (List (List ℕ))) (question : Question) (slots : List (List Cost)) (zones : List ZoneValue) (last : Option Rank) (listed : List Rank) (excluded : List (List Pair)) (made : List Split)
    → (closes : Closes groups question slots zones last listed excluded made) → (asked : Question) (plant : Plant) (n : ℕ) (j : Judged) → MayHaveTargets plant j.stated.distinct groups
    → j.space ≡ record { slots = slots; zones = map Some zones } → j.listed ≡ listed → j.excluded ≡ excluded → full_to j ≡ last
    → judge_lines asked plant n j (last_lines made) ≡ comes_to (record j { space = closes.space })
end_good groups question slots zones last listed excluded made closes asked plant n j may space_is listed_is excluded_is last_is =
    lines_judged asked plant n j (record j { space = closes.space }) made (closes.judged plant j may space_is listed_is excluded_is) (ap (all_passed closes.space) last_is ∙ closes.passed)

-- behind a split there may come splits and the end
split_next : (question : Question) (s : Split) → splits question s.by ≡ true → place_after (place.Splits question) (split_line s) ≡ Some (place.Splits question)
split_next question s fits = ap (λ b. cond b (Some (place.Splits question)) None) fits

pub all_placed : (question : Question) (made : List Split) → list_all (λ (s : Split). splits question s.by) made ≡ true
    → (before : Place) → ((s : Split) → splits question s.by ≡ true → place_after before (split_line s) ≡ Some (place.Splits question)) → place_after before line.End ≡ Some place.Done
    → place_behind before (last_lines made) ≡ Some place.Done
all_placed question [] fit before splitting ending = ap (option_and_then (λ next. place_behind next [])) ending
all_placed question (s ∷ ss) fit before splitting ending =
    let both = and_parts (splits question s.by) (list_all (λ (t : Split). splits question t.by) ss) fit in
    ap (option_and_then (λ next. place_behind next (last_lines ss))) (splitting s both.0)
    ∙ all_placed question ss both.1 (place.Splits question) (split_next question) refl
