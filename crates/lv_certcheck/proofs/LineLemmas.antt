-- The lines from a place on: the first of them, and the others.
use Rattle.std.proofs.Common.{◌≡◌, ℕ, zero, suc, ◌+◌, ◌-◌, ◌<◌, List, [], ◌∷◌, length, take, drop, slice_index_or, Option, Some, sym, ap, ◌∙◌, arith}
use Rattle.std.specs.Option.{option_map_or}
use Rattle.std.proofs.lemmas.List.{take_all, length-drop}
use Rattle.lv_model.specs.declared.plant.Plant.{Plant}
use Rattle.lv_cert.specs.declared.line.Question.{Question}
use Rattle.lv_cert.specs.declared.line.Line.{Line}
use Rattle.lv_cert_laws.specs.lv_cert_meaning.Judging.{Judged, Judgement, is_bad_at, judge_line, judge_lines}

first_at : (lines : List Line) (k : ℕ) (l : Line) → k < length lines → l ≡ slice_index_or lines k l → drop k lines ≡ l ∷ drop (suc k) lines
first_at [] k l below at = absurd (omega (arith, below))
first_at (x ∷ xs) zero l below at = ap (λ (y : Line). y ∷ xs) (sym at)
first_at (x ∷ xs) (suc k) l below at = first_at xs k l (omega (arith, below)) at

-- all behind a place
behind : (lines : List Line) (m : ℕ) → take (length lines - m) (drop m lines) ≡ drop m lines
behind lines m = take_all (length lines - m) (drop m lines) (omega (arith, length-drop m lines))

-- what a good line comes to goes on with those behind it
pub goes_on : (question : Question) (plant : Plant) (n k m : ℕ) (j next : Judged) (lines : List Line) (l : Line) (whole : Judgement) → m ≡ suc k → k < length lines → l ≡ slice_index_or lines k l
    → Some next ≡ judge_line question plant j (take (length lines - m) (drop m lines)) l → judge_lines question plant n j (drop k lines) ≡ whole
    → judge_lines question plant (n + 1) next (drop m lines) ≡ whole
goes_on question plant n k m j next lines l whole is below at came so_far =
    let here : drop k lines ≡ l ∷ drop m lines = first_at lines k l below at ∙ ap (λ (i : ℕ). l ∷ drop i lines) (sym is) in
    let came_so : Some next ≡ judge_line question plant j (drop m lines) l = came ∙ ap (λ (rest : List Line). judge_line question plant j rest l) (behind lines m) in
    ap (λ (o : Option Judged). option_map_or (λ (x : Judged). judge_lines question plant (n + 1) x (drop m lines)) o (is_bad_at n)) came_so ∙ sym (ap (judge_lines question plant n j) here) ∙ so_far
