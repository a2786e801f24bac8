-- Conversations of lines that come one behind the other, and of lines that are too long.
use Rattle.std.proofs.Common.{◌≡◌, ℕ, ◌+◌, ◌-◌, ◌<◌, ◌≤◌, nat_lt, nat_eq, Bool, true, false, cond, get_or, List, [], ◌∷◌, ◌++◌, length, take, Option, refl, sym, ◌∙◌, ap, subst, arith, append_assoc, length-take}
use Rattle.std.proofs.lemmas.Bool.Decides.{nat_tests}
use Rattle.std.proofs.lemmas.List.{length-take-le, take_all, append-nil}
use Rattle.std.proofs.Math.Seq.{take-append_seam}
use Rattle.std.specs.Str.Lines.{strip_carriage_return}
use Rattle.lv_base.specs.declared.limits.TheConstants.{LINE_BYTES}
use Rattle.lv_io.specs.Whole.{AddsFront}
use Rattle.lv_serve.specs.Conversation.{after_lines, IsConversation, ends, goes_on, AddsConversationFront}
use Rattle.lv_serve.specs.Kept.{most_kept}
use Rattle.lv_serve.specs.Unfinished.{kept_of, shown}
use Rattle.lv_serve.proofs.Writing.{no_front}

pub after_lines-append : {S : Type 0} (next : S → List ℕ → S) (s : S) (ls ms : List (List ℕ))
    → after_lines next s (ls ++ ms) ≡ after_lines next (after_lines next s ls) ms
after_lines-append next s [] ms = refl
after_lines-append next s (l ∷ ls) ms = after_lines-append next (next s l) ls ms

-- once a conversation has ended its lines lead nowhere
pub ended_at : {S : Type 0} (next : S → List ℕ → S) (has_ended : S → Bool)
    → ((s : S) (line : List ℕ) → has_ended s ≡ true → next s line ≡ s)
    → (s : S) (ls : List (List ℕ)) → has_ended s ≡ true → after_lines next s ls ≡ s
ended_at next has_ended stays s [] is = refl
ended_at next has_ended stays s (l ∷ ls) is = ap (λ t. after_lines next t ls) (stays s l is) ∙ ended_at next has_ended stays s ls is

-- a line loses at most one byte at its end
strip_length : (line : List ℕ) → length line ≤ length (strip_carriage_return line) + 1
strip_length line = by (nat_eq (get_or line (length line - 1) 0) 13)
  where
    by : (c : Bool) → length line ≤ length (cond c (take (length line - 1) line) line) + 1
    by true = omega (arith, length-take (length line - 1) line)
    by false = omega arith

-- a line without it is a front of the line
pub strip_front : (line : List ℕ) → take (length (strip_carriage_return line)) line ≡ strip_carriage_return line
strip_front line = by (nat_eq (get_or line (length line - 1) 0) 13)
  where
    by : (c : Bool) → take (length (cond c (take (length line - 1) line) line)) line ≡ cond c (take (length line - 1) line) line
    by true = ap (λ (k : ℕ). take k line) (length-take-le (length line - 1) line (omega arith))
    by false = take_all (length line) line (omega arith)

-- what holds of two lines that are too long, and of one and itself, holds of the line that is kept and of the line that came
shown_alike : (P : List ℕ → List ℕ → Type 0)
    → ((a b : List ℕ) → LINE_BYTES < length a → LINE_BYTES < length b → P a b)
    → ((a : List ℕ) → P a a)
    → (line : List ℕ) → P (shown (kept_of line)) (strip_carriage_return line)
shown_alike P long same line = by (nat_lt most_kept (length line)) refl
  where
    by : (c : Bool) → nat_lt most_kept (length line) ≡ c
        → P (cond c (take most_kept line) (strip_carriage_return (take most_kept line))) (strip_carriage_return line)
    by true is =
        let over : most_kept < length line = grind (arith, nat_tests) in
        let cut : length (take most_kept line) ≡ most_kept = omega (arith, length-take most_kept line, over) in
        long (take most_kept line) (strip_carriage_return line) (omega (arith, cut)) (omega (arith, strip_length line, over))
    by false is =
        let short : length line ≤ most_kept = grind (arith, nat_tests) in
        subst (λ (l : List ℕ). P (strip_carriage_return l) (strip_carriage_return line)) (sym (take_all most_kept line short)) (same (strip_carriage_return line))

module _ {S : Type 0} (next : S → List ℕ → S) (says : S → List ℕ → List ℕ → Type 0) where
  pub conversation-append : (s : S) (ls ms : List (List ℕ)) (text more : List ℕ)
      → IsConversation next says s ls text
      → IsConversation next says (after_lines next s ls) ms more
      → IsConversation next says s (ls ++ ms) (text ++ more)
  conversation-append s [] ms text more ends later = later
  conversation-append s (l ∷ ls) ms text more (goes_on {reply} {rest} says_it first joined) later =
      goes_on says_it (conversation-append (next s l) ls ms rest more first later)
      (ap (λ (l : List ℕ). l ++ more) joined ∙ append_assoc reply rest more)

  -- a reply to one line
  pub one_line : (s : S) (line reply : List ℕ) → says s line reply → IsConversation next says s (line ∷ []) reply
  one_line s line reply says_it = goes_on {reply = reply} {rest = []} says_it ends (sym (append-nil reply))

  -- once it has ended lines get no reply
  pub ended_conversation : (has_ended : S → Bool)
      → ((s : S) (line : List ℕ) → has_ended s ≡ true → next s line ≡ s)
      → ((s : S) (line : List ℕ) → has_ended s ≡ true → says s line [])
      → (s : S) (ls : List (List ℕ)) → has_ended s ≡ true → IsConversation next says s ls []
  ended_conversation has_ended stays silent s [] is = ends
  ended_conversation has_ended stays silent s (l ∷ ls) is =
      goes_on {reply = []} {rest = []} (silent s l is)
      (subst (λ t. IsConversation next says t ls []) (sym (stays s l is)) (ended_conversation has_ended stays silent s ls is)) refl

  -- the line that is kept leads where the line that came does, and gets its reply
  pub shown_next : ((s : S) (a b : List ℕ) → LINE_BYTES < length a → LINE_BYTES < length b → next s a ≡ next s b)
      → (s : S) (line : List ℕ) → next s (shown (kept_of line)) ≡ next s (strip_carriage_return line)
  shown_next long s line = shown_alike (λ a b. next s a ≡ next s b) (long s) (λ a. refl) line

  pub shown_says : ((s : S) (a b text : List ℕ) → LINE_BYTES < length a → LINE_BYTES < length b → says s a text → says s b text)
      → (s : S) (line text : List ℕ) → says s (shown (kept_of line)) text → says s (strip_carriage_return line) text
  shown_says long s line text = shown_alike (λ a b. says s a text → says s b text) (λ a b. long s a b text) (λ a it. it) line

  -- and back
  pub says_shown : ((s : S) (a b text : List ℕ) → LINE_BYTES < length a → LINE_BYTES < length b → says s a text → says s b text)
      → (s : S) (line text : List ℕ) → says s (strip_carriage_return line) text → says s (shown (kept_of line)) text
  says_shown long s line text = shown_alike (λ a b. says s b text → says s a text) (λ a b x y. long s b a text y x) (λ a it. it) line

  -- a front of a conversation of the first lines
  pub front_of_first : (s : S) (first more lines : List (List ℕ)) (whole : List ℕ) (before after : Option (List ℕ))
      → lines ≡ first ++ more
      → IsConversation next says s first whole
      → AddsFront whole before after
      → AddsConversationFront next says s lines before after
  front_of_first s first more lines whole before after is conversation front = record {
    answered = length first;
    whole = whole;
    is_conversation = subst (λ (ls : List (List ℕ)). IsConversation next says s ls whole) (sym (ap (take (length first)) is ∙ take-append_seam first more)) conversation;
    front = front;
  }

  -- of all lines
  pub front_of_lines : (s : S) (lines : List (List ℕ)) (whole : List ℕ) (before after : Option (List ℕ))
      → IsConversation next says s lines whole
      → AddsFront whole before after
      → AddsConversationFront next says s lines before after
  front_of_lines s lines whole before after conversation front =
      front_of_first s lines [] lines whole before after (sym (append-nil lines)) conversation front

  -- nothing is a front of any conversation
  pub none_of_front : (s : S) (lines : List (List ℕ)) (text : Option (List ℕ)) → AddsConversationFront next says s lines text text
  none_of_front s lines text = front_of_first s [] lines lines [] text text refl ends (no_front [] text)
