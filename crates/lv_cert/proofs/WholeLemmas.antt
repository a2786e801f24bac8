-- Every text is read to its end, or up to its first line out of form or order.
use Rattle.std.proofs.Common.{◌≡◌, ℕ, zero, suc, ◌+◌, ◌-◌, ◌<◌, Bool, true, false, List, [], ◌∷◌, ◌++◌, length, take, drop, Option, Some, None, refl, arith}
use Rattle.std.specs.List.{slice_split, position}
use Rattle.lv_cert.specs.declared.line.Line.{Line}
use Rattle.lv_cert.specs.declared.order.Place.{Place}
use Rattle.lv_cert.specs.declared.whole.Taken.{Taken}
use Rattle.lv_cert.specs.Words.{is_space, is_line_feed}
use Rattle.lv_cert.specs.Reading.{line_of}
use Rattle.lv_cert.specs.Order.{place_after}
use Rattle.lv_cert.specs.Form.{has_ended, IsReadTo}
use Rattle.lv_cert.specs.Taking.{IsTaken, Takes}
use Rattle.lv_cert.specs.Laws.{IsRead, as_lines, with_fault, EveryTextIsRead}
use Rattle.lv_cert.proofs.TakingLemmas.{stuck_torn, stuck_unread, stuck_there, taken, read_on, shorter, nothing_read, whole, fault}

-- what can be taken off a text: a line, or nothing
pub record TakesSome (place : Place) (text : List ℕ) : Type 0 where
  pub line : Option Taken
  pub is : Takes place text line

takes_some : (place : Place) (text : List ℕ) → TakesSome place text
takes_some place text = torn (position is_line_feed text) refl
  where
    there : (at : ℕ) (l : Line) (o : Option Place) → position is_line_feed text ≡ Some at → line_of (slice_split is_space (take at text)) ≡ Some l → place_after place l ≡ o → TakesSome place text
    there at l None found is e = record { line = None; is = stuck_there place text at l found is e }
    there at l (Some next) found is e = record { line = Some (record { line = l; place = next; length = at + 1 }); is = taken place text at l next found is e }

    unread : (at : ℕ) (o : Option Line) → position is_line_feed text ≡ Some at → line_of (slice_split is_space (take at text)) ≡ o → TakesSome place text
    unread at None found e = record { line = None; is = stuck_unread place text at found e }
    unread at (Some l) found e = there at l (place_after place l) found e refl

    torn : (o : Option ℕ) → position is_line_feed text ≡ o → TakesSome place text
    torn None e = record { line = None; is = stuck_torn place text e }
    torn (Some at) e = unread at (line_of (slice_split is_space (take at text))) e refl

module _ (bytes : List ℕ) where
  -- lines are taken as long as any can be
  read_from : (fuel : ℕ) (place : Place) (lines : List Line) (rest : List ℕ) → length rest < fuel → IsReadTo place lines bytes rest → IsRead bytes
  read_from zero place lines rest few r = absurd (omega (arith, few))
  read_from (suc fuel) place lines rest few r = by (has_ended place rest) refl
      (λ t h. read_from fuel t.place (lines ++ t.line ∷ []) (take (length rest - t.length) (drop t.length rest)) (less (shorter place rest t h)) (read_on place lines bytes rest t r h))
    where
      less : {n : ℕ} → n < length rest → n < fuel
      less {n} h = omega (arith, h, few)

      off : has_ended place rest ≡ false → (o : Option Taken) → Takes place rest o → ((t : Taken) → IsTaken place rest t → IsRead bytes) → IsRead bytes
      off e None s more = with_fault (length lines + 1) (fault place lines bytes rest (length lines + 1) refl e r s)
      off e (Some t) h more = more t h

      by : (b : Bool) → has_ended place rest ≡ b → ((t : Taken) → IsTaken place rest t → IsRead bytes) → IsRead bytes
      by true e more = as_lines lines (whole place lines bytes rest e r)
      by false e more = let some = takes_some place rest in off e some.line some.is more

pub every_text : EveryTextIsRead
every_text bytes = read_from bytes (length bytes + 1) Place.Start [] bytes (omega arith) (nothing_read bytes)
