-- What is written of lines that are answered one after another, whatever answers them: where a line leads to is a function,
-- and which text may be the reply to it a relation.
use Rattle.std.specs.Prelude.{◌≡◌, ℕ, Bool, List, [], ◌∷◌, ◌++◌, take, Option}
use Rattle.std.specs.Io.KnownBytes.{append_known}
use Rattle.lv_io.specs.Whole.{AddsFront}

module _ {S : Type 0} (next : S → List ℕ → S) where
  -- where these lines lead to
  abbrev pub after_lines : S → List (List ℕ) → S
  after_lines s [] = s
  after_lines s (line ∷ lines) = after_lines (next s line) lines

module _ {S : Type 0} (next : S → List ℕ → S) (says : S → List ℕ → List ℕ → Type 0) where
  -- the text is what is written of these lines: no text where there are none; else a reply to the first, and behind it what is
  -- written of the others from where the first leads to
  pub data IsConversation : S → List (List ℕ) → List ℕ → Type 0 where
    ends : {s : S} → IsConversation s [] []
    goes_on : {s : S} {line : List ℕ} {lines : List (List ℕ)} {reply rest text : List ℕ}
        → says s line reply
        → IsConversation (next s line) lines rest
        → text ≡ reply ++ rest
        → IsConversation s (line ∷ lines) text

  -- a conversation of these lines was added to the text
  pub record AddsConversation (s : S) (lines : List (List ℕ)) (before after : Option (List ℕ)) : Type 0 where
    pub written : List ℕ
    pub is_conversation : IsConversation s lines written
    pub added : after ≡ append_known before written

  -- a front of a conversation of the first of these lines, so many, was added to the text
  pub record AddsConversationFront (s : S) (lines : List (List ℕ)) (before after : Option (List ℕ)) : Type 0 where
    pub answered : ℕ
    pub whole : List ℕ
    pub is_conversation : IsConversation s (take answered lines) whole
    pub front : AddsFront whole before after
