-- What was written so far of a text that is written a piece at a time.
use Rattle.std.proofs.Common.{◌≡◌, ℕ, List, [], ◌++◌, length, take, drop, Option, None, Some, refl, sym, ◌∙◌, ap, subst, append_assoc}
use Rattle.std.proofs.lemmas.List.{append-nil, take-append-drop}
use Rattle.std.proofs.Math.Seq.{take-append_seam}
use Rattle.std.specs.Io.KnownBytes.{append_known}
use Rattle.lv_io.specs.Whole.{AddsFront}
use Rattle.lv_io.proofs.Pieces.{append-append}

-- all of the text but `rest`, which stands at its end, was written
pub record Written (whole rest : List ℕ) (before after : Option (List ℕ)) : Type 0 where
  pub front : List ℕ
  pub joined : front ++ rest ≡ whole
  pub added : after ≡ append_known before front

pub append-none : (text : Option (List ℕ)) → append_known text [] ≡ text
append-none None = refl
append-none (Some text) = ap Some (append-nil text)

pub nothing_written : (whole : List ℕ) (before : Option (List ℕ)) → Written whole whole before before
nothing_written whole before = record { front = []; joined = refl; added = sym (append-none before) }

pub written_more : (whole reply rest : List ℕ) (before middle after : Option (List ℕ))
    → Written whole (reply ++ rest) before middle
    → after ≡ append_known middle reply
    → Written whole rest before after
written_more whole reply rest before middle after earlier now = record {
  front = earlier.front ++ reply;
  joined = append_assoc earlier.front reply rest ∙ earlier.joined;
  added = now ∙ ap (λ (t : Option (List ℕ)). append_known t reply) earlier.added ∙ append-append before earlier.front reply;
}

pub written_all : (whole : List ℕ) (before after : Option (List ℕ))
    → Written whole [] before after
    → after ≡ append_known before whole
written_all whole before after written =
    written.added ∙ ap (append_known before) (sym (append-nil written.front) ∙ written.joined)

pub written_front : (whole rest : List ℕ) (before after : Option (List ℕ))
    → Written whole rest before after
    → AddsFront whole before after
written_front whole rest before after written = (
  length written.front,
  written.added ∙ ap (append_known before)
      (sym (ap (take (length written.front)) (sym written.joined) ∙ take-append_seam written.front rest)),
)

-- a front of one more piece was written behind what was written before
pub front_more : (whole reply rest : List ℕ) (before middle after : Option (List ℕ))
    → Written whole (reply ++ rest) before middle
    → AddsFront reply middle after
    → AddsFront whole before after
front_more whole reply rest before middle after earlier more =
    let parted : reply ++ rest ≡ take more.0 reply ++ (drop more.0 reply ++ rest) =
    ap (λ (r : List ℕ). r ++ rest) (sym (take-append-drop more.0 reply))
    ∙ append_assoc (take more.0 reply) (drop more.0 reply) rest in
    written_front whole (drop more.0 reply ++ rest) before after
    (written_more whole (take more.0 reply) (drop more.0 reply ++ rest) before middle after
    (subst (λ (r : List ℕ). Written whole r before middle) parted earlier) more.1)

-- a front of a text that is written where nothing is
pub no_front : (whole : List ℕ) (before : Option (List ℕ)) → AddsFront whole before before
no_front whole before = written_front whole whole before before (nothing_written whole before)

-- the whole text is a front of it
pub whole_front : (whole : List ℕ) (before after : Option (List ℕ))
    → after ≡ append_known before whole
    → AddsFront whole before after
whole_front whole before after written =
    written_front whole [] before after (record { front = whole; joined = append-nil whole; added = written })

-- a front of the first of two texts is one of both
pub longer_front : (first more : List ℕ) (before after : Option (List ℕ)) → AddsFront first before after → AddsFront (first ++ more) before after
longer_front first more before after front =
    front_more (first ++ more) first more before before after (record { front = []; joined = refl; added = sym (append-none before) }) front
