-- What a line that is too long asks for doesn't depend on what stands in it.
use Rattle.std.proofs.Common.{ℕ, ◌<◌, ◌≡◌, List, Bool, length, if◌then◌else◌, sym, ap, subst, ◌∙◌}
use Rattle.std.proofs.lemmas.Bool.{lt-ltb}
use Rattle.lv_base.specs.declared.limits.TheConstants.{LINE_BYTES}
use Rattle.lv_lanes.specs.declared.fault.LaneFault.TheVariants.{LongLine}
use Rattle.lv_lanes.specs.Forms.{Asked, refused, asked_by, asked_by_short}
use Rattle.lv_lanes.specs.Standing.{Standing, work_by, lanes_by, stepped}
use Rattle.lv_lanes.specs.Replies.{MayReply, MayWrite}

is_long : (line : List ℕ) → LINE_BYTES < length line → asked_by line ≡ refused LongLine
is_long line long = ap (λ (b : Bool). if b then refused LongLine else asked_by_short line) (lt-ltb LINE_BYTES (length line) long)

alike : (a b : List ℕ) → LINE_BYTES < length a → LINE_BYTES < length b → asked_by a ≡ asked_by b
alike a b x y = is_long a x ∙ sym (is_long b y)

module _ {S : Type 0} (next : S → List ℕ → S) (says : S → List ℕ → List ℕ → Type 0) (start : S → S) (is_open : S → Bool) where
  pub long_goes : (s : Standing S) (a b : List ℕ) → LINE_BYTES < length a → LINE_BYTES < length b
      → stepped next start is_open s a ≡ stepped next start is_open s b
  long_goes s a b x y = ap (λ (asked : Asked). record s { lanes = lanes_by next start is_open s.first s.lanes asked }) (alike a b x y)

  pub long_says : (s : Standing S) (a b text : List ℕ) → LINE_BYTES < length a → LINE_BYTES < length b
      → MayWrite says start is_open s a text → MayWrite says start is_open s b text
  long_says s a b text x y may = record {
    reply = may.reply;
    may_reply = subst (λ (asked : Asked). MayReply says (work_by start is_open s.first s.lanes asked) may.reply) (alike a b x y) may.may_reply;
    is_text = may.is_text;
  }
