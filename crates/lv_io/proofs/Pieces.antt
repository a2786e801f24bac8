-- Pieces joined: what several reads took of a slot, and what several writes added to a text.
use Rattle.std.proofs.Common.{◌≡◌, ℕ, ◌+◌, ◌-◌, ◌<◌, ◌≤◌, Bool, true, false, List, ◌++◌, length, take, drop, Option, None, Some, refl, sym, ◌∙◌, ap, arith, length-append, length-take, length-drop, append_assoc}
use Rattle.std.proofs.lemmas.List.{take-append-drop, take_all}
use Rattle.std.proofs.Math.Seq.{take-add}
use Rattle.std.specs.Io.KnownBytes.{prepend_known, append_known}
use Rattle.lv_io.specs.Outside.{flushed_after}
use Rattle.lv_io.specs.Whole.{TakesAtMost}

pub prepend-prepend : (front back : List ℕ) (left : Option (List ℕ))
    → prepend_known front (prepend_known back left) ≡ prepend_known (front ++ back) left
prepend-prepend front back None = refl
prepend-prepend front back (Some left) = ap Some (sym (append_assoc front back left))

pub append-append : (text : Option (List ℕ)) (front back : List ℕ)
    → append_known (append_known text front) back ≡ append_known text (front ++ back)
append-append None front back = refl
append-append (Some text) front back = ap Some (append_assoc text front back)

-- what was taken by one more read stands behind what was taken before
pub taken_more : (old new : List ℕ) (start before after : Option (List ℕ))
    → start ≡ prepend_known old before
    → take (length old) new ≡ old
    → before ≡ prepend_known (drop (length old) new) after
    → start ≡ prepend_known new after
taken_more old new start before after taken kept more =
    taken ∙ ap (prepend_known old) more ∙ prepend-prepend old (drop (length old) new) after
    ∙ ap (λ (front : List ℕ). prepend_known (front ++ drop (length old) new) after) (sym kept)
    ∙ ap (λ (all : List ℕ). prepend_known all after) (take-append-drop (length old) new)

-- the bytes kept, and then at most `most` more, are at most `limit`
pub taken_within : (most limit : ℕ) (kept : List ℕ) (start before after : Option (List ℕ))
    → start ≡ prepend_known kept before
    → most + length kept ≤ limit
    → TakesAtMost most before after
    → TakesAtMost limit start after
taken_within most limit kept start before after taken fits more = (
  kept ++ more.0,
  simp length-append (omega (arith, more.1)),
  taken ∙ ap (prepend_known kept) more.2 ∙ prepend-prepend kept more.0 after,
)

-- the bytes from `written` on, as a slice of the rest
pub rest_of_bytes : (written : ℕ) (bytes : List ℕ)
    → take (length bytes - written) (drop written bytes) ≡ drop written bytes
rest_of_bytes written bytes =
    take_all (length bytes - written) (drop written bytes) (omega (arith, length-drop written bytes))

-- one more piece of the text was added behind the pieces before
pub added_more : (written n : ℕ) (bytes : List ℕ) (start before after : Option (List ℕ))
    → before ≡ append_known start (take written bytes)
    → after ≡ append_known before (take n (take (length bytes - written) (drop written bytes)))
    → after ≡ append_known start (take (written + n) bytes)
added_more written n bytes start before after earlier piece =
    piece ∙ ap (λ (back : List ℕ). append_known before (take n back)) (rest_of_bytes written bytes)
    ∙ ap (λ (t : Option (List ℕ)). append_known t (take n (drop written bytes))) earlier
    ∙ append-append start (take written bytes) (take n (drop written bytes))
    ∙ ap (append_known start) (sym (take-add written n bytes))

-- a sink is not flushed once bytes were handed to it
pub not_flushed : (bytes : List ℕ) (before : Bool) → 0 < length bytes → flushed_after bytes before ≡ false
not_flushed bytes true some = grind arith
not_flushed bytes false some = refl

-- after one more piece a sink is as after all the pieces so far
pub flushed_more : (written n : ℕ) (bytes : List ℕ) (start before after : Bool)
    → written < length bytes
    → 0 < n
    → written + n ≤ length bytes
    → after ≡ flushed_after (take (length bytes - written) (drop written bytes)) before
    → after ≡ flushed_after (take (written + n) bytes) start
flushed_more written n bytes start before after more some within piece =
    piece
    ∙ not_flushed (take (length bytes - written) (drop written bytes)) before
    (rw rest_of_bytes (omega (arith, length-drop written bytes)))
    ∙ sym (not_flushed (take (written + n) bytes) start (rw length-take (omega arith)))
