-- The text of a token in a longer line.
use Rattle.std.proofs.Common.{◌≡◌, ◌+◌, ◌-◌, ◌++◌, length, take, drop, ap, ◌∙◌, arith, length-drop}
use Rattle.std.proofs.Math.Seq.{drop-append-add}
use Rattle.std.proofs.lemmas.List.{drop-append-le, take-append-le}
use Rattle.lv_text.specs.Laws.{TextMovesWithToken, TextStaysBeforeMore}

pub text_moves : TextMovesWithToken
text_moves front line t =
    let long : (length front + t.end) - (length front + t.start) ≡ t.end - t.start = omega arith in
    ap (λ n. take n (drop (length front + t.start) (front ++ line))) long ∙ ap (take (t.end - t.start)) (drop-append-add front line t.start)

pub text_stays : TextStaysBeforeMore
text_stays line more t begins ends =
    ap (take (t.end - t.start)) (drop-append-le t.start line more (omega arith))
    ∙ take-append-le (t.end - t.start) (drop t.start line) more (omega (arith, length-drop t.start line))
