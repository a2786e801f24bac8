-- A session that the shelf tells, from what was read and served of it.
use Rattle.std.proofs.Common.{◌≡◌, ℕ, ◌+◌, ◌-◌, ◌<◌, ◌≤◌, Bool, true, false, ◌||◌, nat_le, List, [], ◌++◌, length, take, Option, None, Some, Result, Ok, Err, refl, sym, ◌∙◌, ap, ap₂, subst, arith, length-append}
use Rattle.std.proofs.lemmas.Bool.Decides.{nat_tests}
use Rattle.std.proofs.lemmas.List.{append-nil, take-append-le}
use Rattle.std.proofs.Math.Seq.{take-append_seam, take-append-add}
use Rattle.std.specs.Prelude.{IsErrAnd}
use Rattle.std.specs.Io.KnownBytes.{prepend_known, IsAtEnd}
use Rattle.lv_base.specs.declared.limits.TheConstants.{SESSION_BYTES}
use Rattle.lv_text.specs.Lines.{lines_of}
use Rattle.lv_serve.specs.Ends.{ended}
use Rattle.lv_serve.specs.Served.{within_limit, AddsReplies, AddsFrontOfReplies, quits, fits, Serves, ServesAll, ServesLines, ServesLimit, ServesFront, IsWhole, at_end, at_quit, IsDue, ended_lines, all_lines}
use Rattle.lv_serve.specs.Told.{AddsRead, AddsDue, ServesText}
use Rattle.lv_serve.specs.declared.fault.ServeFault.{ServeFault}
use Rattle.lv_serve.specs.declared.fault.ServeFault.TheVariants.{Read, Write, TooLong, Memory}
use Rattle.lv_serve.proofs.ConversationLemmas.{none_of_front}
use Rattle.lv_serve.proofs.PieceLemmas.{front_of_longer, front_of_all, quits_more, conversation_of_all}

-- what is left behind the bytes that were read of a text
pub record Splits (read text : List ℕ) (rest_after : Option (List ℕ)) : Type 0 where
  pub left : List ℕ
  pub is_left : rest_after ≡ Some left
  pub joined : text ≡ read ++ left

splits : (read text : List ℕ) (rest_after : Option (List ℕ)) → Some text ≡ prepend_known read rest_after → Splits read text rest_after
splits read text None taken = absurd (cc)
splits read text (Some left) taken = record { left = left; is_left = refl; joined = cc }

whole_text : (read text : List ℕ) (rest_after : Option (List ℕ)) → Splits read text rest_after → IsAtEnd rest_after → text ≡ read
whole_text read text rest_after parts end =
    let none : parts.left ≡ [] = subst IsAtEnd parts.is_left end in
    parts.joined ∙ ap (λ (l : List ℕ). read ++ l) none ∙ append-nil read

-- the front of the text within the limit, where what was read is
limited : (read left : List ℕ) → length read ≤ SESSION_BYTES → take SESSION_BYTES (read ++ left) ≡ read ++ take (SESSION_BYTES - length read) left
limited read left within =
    let parts : SESSION_BYTES ≡ length read + (SESSION_BYTES - length read) = omega (arith, within) in
    ap (λ (n : ℕ). take n (read ++ left)) parts ∙ take-append-add read left (SESSION_BYTES - length read)

either : (a b : Bool) → b ≡ true → (a || b) ≡ true
either true b e = refl
either false b e = e

clash : (b : Bool) → b ≡ true → b ≡ false → ⊥
clash true a b = absurd (cc)
clash false a b = absurd (cc)

module _ {S : Type 0} (next : S → List ℕ → S) (says : S → List ℕ → List ℕ → Type 0) (has_ended : S → Bool)
    (stays : (s : S) (line : List ℕ) → has_ended s ≡ true → next s line ≡ s)
    (silent : (s : S) (line : List ℕ) → has_ended s ≡ true → says s line []) (start : S) where
  fits_short : (text : List ℕ) → length text ≤ SESSION_BYTES → fits next has_ended start text ≡ true
  fits_short text within =
      let test : nat_le (length text) SESSION_BYTES ≡ true = grind (arith, nat_tests) in
      ap (λ (c : Bool). c || quits next has_ended start (take SESSION_BYTES text)) test

  fits_quit : (text : List ℕ) → quits next has_ended start (take SESSION_BYTES text) ≡ true → fits next has_ended start text ≡ true
  fits_quit text quit = either (nat_le (length text) SESSION_BYTES) (quits next has_ended start (take SESSION_BYTES text)) quit

  fits_not : (text : List ℕ) → SESSION_BYTES < length text → quits next has_ended start (take SESSION_BYTES text) ≡ false → fits next has_ended start text ≡ false
  fits_not text beyond goes_on =
      let test : nat_le (length text) SESSION_BYTES ≡ false = grind (arith, nat_tests) in
      ap₂ (λ (a b : Bool). a || b) test goes_on

  module _ (text : List ℕ) (rest_after out out_after : Option (List ℕ)) where
    told_all : ServesAll next says has_ended start (Some text) rest_after out out_after
        → (fits next has_ended start text ≡ true) × AddsReplies next says start text out out_after
    told_all served = by served.due served.is_whole served.written
      where
        parts : Splits served.read text rest_after
        parts = splits served.read text rest_after served.taken

        by : (due : List ℕ) → IsWhole next says has_ended start (Some text) rest_after out out_after served.read due → AddsReplies next says start due out out_after
            → (fits next has_ended start text ≡ true) × AddsReplies next says start text out out_after
        by due (at_end end) written =
            let all : text ≡ served.read = whole_text served.read text rest_after parts end in (
              fits_short text (subst (λ (l : List ℕ). length l ≤ SESSION_BYTES) (sym all) served.within),
              subst (λ (l : List ℕ). AddsReplies next says start l out out_after) (sym all) written,
            )
        by due (at_quit quit) written = (
          fits_quit text
              (ap (λ (l : List ℕ). quits next has_ended start (take SESSION_BYTES l)) parts.joined ∙ ap (quits next has_ended start) (limited served.read parts.left served.within)
              ∙ quits_more next says has_ended stays silent start served.read (take (SESSION_BYTES - length served.read) parts.left) quit),
          subst (λ (l : List ℕ). AddsReplies next says start l out out_after) (sym parts.joined)
              (conversation_of_all next says has_ended stays silent start served.read parts.left out out_after quit written),
        )

    told_front : ServesFront next says has_ended start (Some text) rest_after out out_after → AddsDue next says has_ended start text out out_after
    told_front served = by served.due served.is_due served.front
      where
        parts : Splits served.read text rest_after
        parts = splits served.read text rest_after served.taken

        by : (due : List ℕ) → IsDue next says has_ended start (Some text) rest_after out out_after served.read due → AddsFrontOfReplies next says start due out out_after
            → AddsDue next says has_ended start text out out_after
        by due ended_lines front = record {
          of_all = λ fit. subst (λ (l : List ℕ). AddsFrontOfReplies next says start l out out_after) (sym parts.joined)
              (front_of_all next says start served.read parts.left out out_after front);
          of_lines = λ long. subst (λ (l : List ℕ). AddsFrontOfReplies next says start (ended l) out out_after)
              (sym (ap (take SESSION_BYTES) parts.joined ∙ limited served.read parts.left served.within))
              (front_of_longer next says start served.read (take (SESSION_BYTES - length served.read) parts.left) out out_after front);
        }
        by due (all_lines end) front =
            let all : text ≡ served.read = whole_text served.read text rest_after parts end in
            record {
              of_all = λ fit. subst (λ (l : List ℕ). AddsFrontOfReplies next says start l out out_after) (sym all) front;
              of_lines = λ long. absurd (clash (fits next has_ended start text) (fits_short text (subst (λ (l : List ℕ). length l ≤ SESSION_BYTES) (sym all) served.within)) long);
            }

    told_read : ServesLines next says has_ended start (Some text) rest_after out out_after → AddsRead next says has_ended start text out out_after
    told_read served =
        let parts = splits served.read text rest_after served.taken in
        let front : take (length served.read) text ≡ served.read =
        ap (take (length served.read)) parts.joined ∙ take-append_seam served.read parts.left in
        record {
          count = length served.read;
          within = served.within;
          goes_on = ap (quits next has_ended start) front ∙ served.goes_on;
          written = subst (λ (l : List ℕ). AddsReplies next says start (ended l) out out_after) (sym front) served.written;
        }

    told_limit : ServesLimit next says has_ended start (Some text) rest_after out out_after
        → (fits next has_ended start text ≡ false) × AddsReplies next says start (ended (take SESSION_BYTES text)) out out_after
    told_limit served =
        let parts = splits served.read text rest_after served.taken in
        let front : take SESSION_BYTES text ≡ take SESSION_BYTES served.read =
        ap (take SESSION_BYTES) parts.joined ∙ take-append-le SESSION_BYTES served.read parts.left (omega (arith, served.beyond)) in
        let beyond : SESSION_BYTES < length text =
        subst (λ (l : List ℕ). SESSION_BYTES < length l) (sym parts.joined) (rw length-append (omega (arith, served.beyond))) in (
          fits_not text beyond (ap (quits next has_ended start) front ∙ served.goes_on),
          subst (λ (l : List ℕ). AddsReplies next says start (ended l) out out_after) (sym front) served.written,
        )

    told_some : {T : Type 0} (result : Result T ServeFault) → Serves next says has_ended start (Some text) rest_after out out_after result
        → ServesText next says has_ended start text out out_after result
    told_some (Ok x) served = told_all served
    told_some (Err Read) served = told_read served
    told_some (Err Write) served = told_front served
    told_some (Err TooLong) served = told_limit served
    told_some (Err Memory) served = told_front served

  pub told_by : {T : Type 0} (text : List ℕ) (rest rest_after out out_after : Option (List ℕ)) (result : Result T ServeFault)
      → Serves next says has_ended start rest rest_after out out_after result
      → rest ≡ Some text
      → ServesText next says has_ended start text out out_after result
  told_by text rest rest_after out out_after result served told =
      told_some text rest_after out out_after result
      (subst (λ (r : Option (List ℕ)). Serves next says has_ended start r rest_after out out_after result) told served)

-- where memory was wanting before anything was read
pub not_begun : {S : Type 0} (next : S → List ℕ → S) (says : S → List ℕ → List ℕ → Type 0) (has_ended : S → Bool) (start : S)
    (text : List ℕ) (out : Option (List ℕ)) (result : Result (Unit {0}) ServeFault)
    → IsErrAnd result (λ e. e ≡ Memory)
    → ServesText next says has_ended start text out out result
not_begun next says has_ended start text out (Ok x) handed = absurd handed
not_begun next says has_ended start text out (Err Read) handed = absurd (cc)
not_begun next says has_ended start text out (Err Write) handed = absurd (cc)
not_begun next says has_ended start text out (Err TooLong) handed = absurd (cc)
not_begun next says has_ended start text out (Err Memory) handed = record {
  of_all = λ fit. none_of_front next says start (lines_of text) out;
  of_lines = λ long. none_of_front next says start (lines_of (within_limit text)) out;
}
