-- How far a serving has come, as lines are answered and replies written.
use Rattle.std.proofs.Common.{◌≡◌, ℕ, ◌<◌, true, false, nat_eq, List, [], ◌∷◌, ◌++◌, length, take, Option, refl, sym, ◌∙◌, ap, ap₂, subst, arith, append_assoc, length-take, Result, Ok, Err}
use Rattle.std.specs.Prelude.{OnOk, OnErr}
use Rattle.std.specs.List.{list_any}
use Rattle.std.specs.Io.KnownBytes.{append_known}
use Rattle.std.specs.Str.Lines.{strip_carriage_return}
use Rattle.std.proofs.lemmas.List.{append-nil, nil_from_length}
use Rattle.std.proofs.lemmas.Bool.Decides.{nat_tests}
use Rattle.lv_base.specs.declared.limits.TheConstants.{LINE_BYTES}
use Rattle.lv_io.specs.Whole.{AddsFront}
use Rattle.lv_io.proofs.Pieces.{append-append}
use Rattle.lv_text.specs.Lines.{lines_of, is_line_feed}
use Rattle.lv_serve.specs.Conversation.{after_lines, IsConversation, ends, AddsConversation, AddsConversationFront}
use Rattle.lv_serve.specs.Ends.{ended, unended}
use Rattle.lv_serve.specs.Kept.{Kept, most_kept}
use Rattle.lv_serve.specs.Unfinished.{kept_of, shown}
use Rattle.lv_serve.specs.Served.{at_text, AddsFrontOfReplies}
use Rattle.lv_serve.specs.Serving.{Waits, StandsAt, line_next, IsLineReply, IsReplied, IsAnswered, IsCutOff, before_reply, in_reply, IsHandedOn, with_line}
use Rattle.lv_serve.specs.declared.serving.Serving.{Serving}
use Rattle.lv_serve.proofs.Writing.{append-none, front_more, whole_front, longer_front}
use Rattle.lv_serve.proofs.EndLemmas.{ended_stays, unended_grows, lines_one_more, unended_whole, lines_last, lines_all_ended}
use Rattle.lv_serve.proofs.ConversationLemmas.{after_lines-append, conversation-append, one_line, shown_next, shown_says, says_shown, front_of_first, front_of_lines}

-- a front written behind what was written before
more_front : (written more : List ℕ) (before text after : Option (List ℕ)) → text ≡ append_known before written → AddsFront more text after → AddsFront (written ++ more) before after
more_front written more before text after added front =
    front_more (written ++ more) more [] before text after (record { front = written; joined = ap (λ (l : List ℕ). written ++ l) (append-nil more); added = added }) front

-- the end of the session has come: nothing stands behind the last line feed, or a line that was answered
kept_some : (line : List ℕ) → nat_eq (length (kept_of line).bytes) 0 ≡ false → 0 < length line
kept_some [] is = absurd (cc)
kept_some (b ∷ line) is = omega arith

kept_none : (line : List ℕ) → nat_eq (length (kept_of line).bytes) 0 ≡ true → line ≡ []
kept_none line is =
    let none : length (take most_kept line) ≡ 0 = zero_length (length (take most_kept line)) is in
    nil_from_length line (omega (arith, length-take most_kept line, none))
  where
    zero_length : (n : ℕ) → nat_eq n 0 ≡ true → n ≡ 0
    zero_length n e = grind (arith, nat_tests)

module _ {S : Type 0} (next : S → List ℕ → S) (says : S → List ℕ → List ℕ → Type 0) where
  pub stands_at_start : (start : S) (now : Serving S) (text : Option (List ℕ))
      → now.at ≡ start
      → now.line ≡ kept_of []
      → now.replies ≡ []
      → StandsAt next says start [] text now text
  stands_at_start start now text is empty none = record {
    at_is = is;
    line_is = empty;
    waits = record { written = []; added = sym (append-none text); is_conversation = subst (IsConversation next says start []) (sym none) ends };
  }

  -- more of the line has come
  pub stands_longer : (start : S) (read more : List ℕ) (before text : Option (List ℕ)) (old new : Serving S)
      → list_any is_line_feed more ≡ false
      → new.at ≡ old.at
      → new.replies ≡ old.replies
      → ((line : List ℕ) → old.line ≡ kept_of line → new.line ≡ kept_of (line ++ more))
      → StandsAt next says start read before old text
      → StandsAt next says start (read ++ more) before new text
  stands_longer start read more before text old new none same replies line at = record {
    at_is = same ∙ at.at_is ∙ sym (ap (λ (l : List ℕ). after_lines next start (lines_of l)) (ended_stays read more none));
    line_is = line (unended read) at.line_is ∙ sym (ap kept_of (unended_grows read more none));
    waits = subst (λ (l : List ℕ). Waits next says start (lines_of l) before new.replies text) (sym (ended_stays read more none))
        (subst (λ (r : List ℕ). Waits next says start (lines_of (ended read)) before r text) (sym replies) at.waits);
  }

  -- a line came whole where none was begun
  pub stands_whole : (start : S) (read line : List ℕ) (before text : Option (List ℕ)) (old : Serving S)
      → list_any is_line_feed line ≡ false
      → nat_eq (length old.line.bytes) 0 ≡ true
      → StandsAt next says start read before old text
      → StandsAt next says start (read ++ line) before (with_line line old) text
  stands_whole start read line before text old none empty at =
      stands_longer start read line before text old (with_line line old) none refl refl
      (λ begun is. ap (λ (l : List ℕ). kept_of (l ++ line)) (sym (kept_none begun (sym (ap (λ (k : Kept). nat_eq (length k.bytes) 0) is) ∙ empty))))
      at

  -- the replies that wait are written, or a front of them
  pub waits_written : (start : S) (lines : List (List ℕ)) (replies : List ℕ) (before text after : Option (List ℕ))
      → Waits next says start lines before replies text
      → after ≡ append_known text replies
      → AddsConversation next says start lines before after
  waits_written start lines replies before text after waits now = record {
    written = waits.written ++ replies;
    is_conversation = waits.is_conversation;
    added = now ∙ ap (λ (t : Option (List ℕ)). append_known t replies) waits.added ∙ append-append before waits.written replies;
  }

  pub waits_front : (start : S) (lines : List (List ℕ)) (replies : List ℕ) (before text after : Option (List ℕ))
      → Waits next says start lines before replies text
      → AddsFront replies text after
      → AddsConversationFront next says start lines before after
  waits_front start lines replies before text after waits front =
      front_of_lines next says start lines (waits.written ++ replies) before after waits.is_conversation
      (more_front waits.written replies before text after waits.added front)

  pub stands_handed : (start : S) (read : List ℕ) (before text after : Option (List ℕ)) (old new : Serving S)
      → new ≡ record old { replies = [] }
      → after ≡ append_known text old.replies
      → StandsAt next says start read before old text
      → StandsAt next says start read before new after
  stands_handed start read before text after old new is now at =
      let written = waits_written start (lines_of (ended read)) old.replies before text after at.waits now in
      subst (λ (s : Serving S). StandsAt next says start read before s after) (sym is)
      (record {
        at_is = at.at_is;
        line_is = at.line_is;
        waits = record { written = written.written; added = written.added; is_conversation = subst (IsConversation next says start (lines_of (ended read))) (sym (append-nil written.written)) written.is_conversation };
      })

  pub waits_none : (start : S) (read : List ℕ) (before text : Option (List ℕ)) (old : Serving S)
      → nat_eq (length old.line.bytes) 0 ≡ true
      → StandsAt next says start read before old text
      → Waits next says start (lines_of read) before old.replies text
  waits_none start read before text old none at =
      subst (λ (ls : List (List ℕ)). Waits next says start ls before old.replies text)
      (sym (lines_all_ended read (kept_none (unended read) (sym (ap (λ (k : Kept). nat_eq (length k.bytes) 0) at.line_is) ∙ none))))
      at.waits

  -- the line that has come was carried out, and its reply put behind those that wait
  pub replied_shown : (reply : List ℕ) (old new : Serving S)
      → new.at ≡ line_next next says old
      → new.line ≡ kept_of []
      → IsLineReply next says old reply
      → new.replies ≡ old.replies ++ reply
      → IsReplied next says old new
  replied_shown reply old new goes none says_it joined = record { at_is = goes; line_is = none; reply = reply; says_it = says_it; joined = joined }

  -- an answered line, from its reply put behind those that wait and what was written of these
  handed_answer : (old middle new : Serving S) (before after : Option (List ℕ))
      → IsReplied next says old middle
      → IsHandedOn middle new before after
      → IsAnswered next says old new before after
  handed_answer old middle new before after replied handed = record {
    at_is = handed.at_is ∙ replied.at_is;
    line_is = handed.line_is ∙ replied.line_is;
    reply = replied.reply;
    says_it = replied.says_it;
    handed = handed.handed;
    added = handed.added;
    joined = handed.joined ∙ replied.joined;
  }

  pub answered_so : {T E : Type 0} (put : Result T E) (x : T) (old middle new : Serving S) (before after : Option (List ℕ))
      → put ≡ Ok x
      → OnOk put (IsReplied next says old middle)
      → IsHandedOn middle new before after
      → IsAnswered next says old new before after
  answered_so (Ok y) x old middle new before after is replied handed = handed_answer old middle new before after replied handed
  answered_so (Err e) x old middle new before after is replied handed = absurd (cc)

  handed_front : (old new : Serving S) (before after : Option (List ℕ)) → IsHandedOn old new before after → AddsFront old.replies before after
  handed_front old new before after handed =
      subst (λ (l : List ℕ). AddsFront l before after) handed.joined
      (longer_front handed.handed new.replies before after (whole_front handed.handed before after handed.added))

  -- the replies that waited when a line was answered, or was not
  pub either_front : {T E : Type 0} (result : Result T E) (old middle : Serving S) (before after : Option (List ℕ))
      → OnOk result (IsReplied next says old middle)
      → OnErr result (middle.replies ≡ old.replies)
      → AddsFront middle.replies before after
      → IsCutOff next says old before after
  either_front (Ok x) old middle before after is was front = in_reply is.reply is.says_it (subst (λ (l : List ℕ). AddsFront l before after) is.joined front)
  either_front (Err e) old middle before after is was front = before_reply (subst (λ (l : List ℕ). AddsFront l before after) was front)

  pub unanswered_front : {T E : Type 0} (result : Result T E) (fault : E) (old middle new : Serving S) (before after : Option (List ℕ))
      → result ≡ Err fault
      → OnErr result (middle.replies ≡ old.replies)
      → IsHandedOn middle new before after
      → IsCutOff next says old before after
  unanswered_front (Ok x) fault old middle new before after is was handed = absurd (cc)
  unanswered_front (Err e) fault old middle new before after is was handed =
      before_reply (subst (λ (l : List ℕ). AddsFront l before after) was (handed_front middle new before after handed))

  -- lines that are too long are answered alike
  module _ (long_goes : (s : S) (a b : List ℕ) → LINE_BYTES < length a → LINE_BYTES < length b → next s a ≡ next s b)
      (long_says : (s : S) (a b text : List ℕ) → LINE_BYTES < length a → LINE_BYTES < length b → says s a text → says s b text) where
    -- a line that came whole was carried out, and its reply put behind those that wait
    pub replied_whole : (line reply : List ℕ) (old new : Serving S)
        → new.at ≡ next old.at (strip_carriage_return line)
        → new.line ≡ kept_of []
        → says old.at (strip_carriage_return line) reply
        → new.replies ≡ old.replies ++ reply
        → IsReplied next says (with_line line old) new
    replied_whole line reply old new goes none says_it joined =
        replied_shown reply (with_line line old) new (goes ∙ sym (shown_next next says long_goes old.at line)) none (says_shown next says long_says old.at line reply says_it) joined

    -- where the line that has come leads from where a serving stands, and what is said of it
    own_line : (start : S) (read : List ℕ) (before text : Option (List ℕ)) (now : Serving S) → StandsAt next says start read before now text
        → line_next next says now ≡ next (at_text next start read) (strip_carriage_return (unended read))
    own_line start read before text now at =
        ap₂ (λ (s : S) (k : Kept). next s (shown k)) at.at_is at.line_is ∙ shown_next next says long_goes (at_text next start read) (unended read)

    own_reply : (start : S) (read : List ℕ) (before text : Option (List ℕ)) (now : Serving S) (reply : List ℕ) → StandsAt next says start read before now text
        → IsLineReply next says now reply
        → says (at_text next start read) (strip_carriage_return (unended read)) reply
    own_reply start read before text now reply at says_it =
        shown_says next says long_says (at_text next start read) (unended read) reply
        (subst (λ (k : Kept). says (at_text next start read) (shown k) reply) at.line_is
        (subst (λ (s : S). says s (shown now.line) reply) at.at_is says_it))

    -- the conversation with a reply to the line that has come
    with_reply : (start : S) (read : List ℕ) (before text : Option (List ℕ)) (now : Serving S) (reply : List ℕ) (at : StandsAt next says start read before now text)
        → IsLineReply next says now reply
        → IsConversation next says start (lines_of (ended read) ++ strip_carriage_return (unended read) ∷ []) (at.waits.written ++ (now.replies ++ reply))
    with_reply start read before text now reply at says_it =
        subst (IsConversation next says start (lines_of (ended read) ++ strip_carriage_return (unended read) ∷ []))
        (append_assoc at.waits.written now.replies reply)
        (conversation-append next says start (lines_of (ended read)) (strip_carriage_return (unended read) ∷ []) (at.waits.written ++ now.replies) reply
        at.waits.is_conversation
        (one_line next says (at_text next start read) (strip_carriage_return (unended read)) reply (own_reply start read before text now reply at says_it)))

    waits_answered : (start : S) (read : List ℕ) (before text after : Option (List ℕ)) (old new : Serving S)
        → StandsAt next says start read before old text
        → IsAnswered next says old new text after
        → Waits next says start (lines_of (ended read) ++ strip_carriage_return (unended read) ∷ []) before new.replies after
    waits_answered start read before text after old new at answered = record {
      written = at.waits.written ++ answered.handed;
      added = answered.added ∙ ap (λ (t : Option (List ℕ)). append_known t answered.handed) at.waits.added ∙ append-append before at.waits.written answered.handed;
      is_conversation = subst (IsConversation next says start (lines_of (ended read) ++ strip_carriage_return (unended read) ∷ []))
          (ap (λ (l : List ℕ). at.waits.written ++ l) (sym answered.joined) ∙ sym (append_assoc at.waits.written answered.handed new.replies))
          (with_reply start read before text old answered.reply at answered.says_it);
    }

    front_answered : (start : S) (read : List ℕ) (before text after : Option (List ℕ)) (old : Serving S)
        → StandsAt next says start read before old text
        → IsCutOff next says old text after
        → AddsConversationFront next says start (lines_of (ended read) ++ strip_carriage_return (unended read) ∷ []) before after
    front_answered start read before text after old at (before_reply front) =
        front_of_first next says start (lines_of (ended read)) (strip_carriage_return (unended read) ∷ []) _ (at.waits.written ++ old.replies) before after refl at.waits.is_conversation
        (more_front at.waits.written old.replies before text after at.waits.added front)
    front_answered start read before text after old at (in_reply reply says_it front) =
        front_of_lines next says start (lines_of (ended read) ++ strip_carriage_return (unended read) ∷ []) (at.waits.written ++ (old.replies ++ reply)) before after
        (with_reply start read before text old reply at says_it)
        (more_front at.waits.written (old.replies ++ reply) before text after at.waits.added front)

    -- a line feed has come, and the line was answered
    pub stands_answered : (start : S) (read : List ℕ) (before text after : Option (List ℕ)) (old new : Serving S)
        → StandsAt next says start read before old text
        → IsAnswered next says old new text after
        → StandsAt next says start (read ++ 10 ∷ []) before new after
    stands_answered start read before text after old new at answered =
        let lines : lines_of (ended (read ++ 10 ∷ [])) ≡ lines_of (ended read) ++ strip_carriage_return (unended read) ∷ [] = lines_one_more read in
        record {
          at_is = answered.at_is ∙ own_line start read before text old at
              ∙ sym (ap (after_lines next start) lines ∙ after_lines-append next start (lines_of (ended read)) (strip_carriage_return (unended read) ∷ []));
          line_is = answered.line_is ∙ sym (ap kept_of (unended_whole read));
          waits = subst (λ (ls : List (List ℕ)). Waits next says start ls before new.replies after) (sym lines) (waits_answered start read before text after old new at answered);
        }

    pub front_of_ended : (start : S) (read : List ℕ) (before text after : Option (List ℕ)) (old : Serving S)
        → StandsAt next says start read before old text
        → IsCutOff next says old text after
        → AddsFrontOfReplies next says start (ended (read ++ 10 ∷ [])) before after
    front_of_ended start read before text after old at front =
        subst (λ (ls : List (List ℕ)). AddsConversationFront next says start ls before after) (sym (lines_one_more read))
        (front_answered start read before text after old at front)

    pub waits_last : (start : S) (read : List ℕ) (before text after : Option (List ℕ)) (old new : Serving S)
        → nat_eq (length old.line.bytes) 0 ≡ false
        → IsAnswered next says old new text after
        → StandsAt next says start read before old text
        → Waits next says start (lines_of read) before new.replies after
    waits_last start read before text after old new some answered at =
        subst (λ (ls : List (List ℕ)). Waits next says start ls before new.replies after)
        (sym (lines_last read (kept_some (unended read) (sym (ap (λ (k : Kept). nat_eq (length k.bytes) 0) at.line_is) ∙ some))))
        (waits_answered start read before text after old new at answered)

    pub front_last : (start : S) (read : List ℕ) (before text after : Option (List ℕ)) (old : Serving S)
        → nat_eq (length old.line.bytes) 0 ≡ false
        → IsCutOff next says old text after
        → StandsAt next says start read before old text
        → AddsFrontOfReplies next says start read before after
    front_last start read before text after old some front at =
        subst (λ (ls : List (List ℕ)). AddsConversationFront next says start ls before after)
        (sym (lines_last read (kept_some (unended read) (sym (ap (λ (k : Kept). nat_eq (length k.bytes) 0) at.line_is) ∙ some))))
        (front_answered start read before text after old at front)

-- what holds anyway holds where a call failed
pub at_err : {T E : Type 0} {P : Type 0} (result : Result T E) → P → OnErr result P
at_err (Ok x) holds = tt
at_err (Err e) holds = holds

pub ok_weaker : {T E : Type 0} {P Q : Type 0} (result : Result T E) → (P → Q) → OnOk result P → OnOk result Q
ok_weaker (Ok x) goes holds = goes holds
ok_weaker (Err e) goes holds = tt

pub ok_both : {T E : Type 0} {P Q R : Type 0} (result : Result T E) → (P → Q → R) → OnOk result P → OnOk result Q → OnOk result R
ok_both (Ok x) goes first second = goes first second
ok_both (Err e) goes first second = tt

pub err_weaker : {T E : Type 0} {P Q : Type 0} (result : Result T E) → (P → Q) → OnErr result P → OnErr result Q
err_weaker (Ok x) goes holds = tt
err_weaker (Err e) goes holds = goes holds
