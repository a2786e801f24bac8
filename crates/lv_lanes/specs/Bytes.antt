-- What belongs to a lane of all that is written, byte by byte: the lines that begin with its name, without that.
use Rattle.std.specs.Prelude.{ℕ, ◌≡◌, ◌++◌, List, [], ◌∷◌, Bool, true, nat_eq, if◌then◌else◌}
use Rattle.std.specs.List.{list_all}
use Rattle.lv_text.specs.Bytes.{is_word_byte}
use Rattle.lv_serve.specs.Conversation.{IsConversation}
use Rattle.lv_lanes.specs.Standing.{stepped}
use Rattle.lv_lanes.specs.Replies.{MayWrite, lane_front}
use Rattle.lv_lanes.specs.Laws.{at_start, own_lines}

-- a byte before the first line
abbrev pub begun : ℕ → List (List ℕ) → List (List ℕ)
begun b [] = (b ∷ []) ∷ []
begun b (line ∷ lines) = (b ∷ line) ∷ lines

-- the lines of a text, each with its line feed; what stands behind the last one is a line too
abbrev pub whole_lines : List ℕ → List (List ℕ)
whole_lines [] = []
whole_lines (b ∷ text) = if nat_eq b 10 then (b ∷ []) ∷ whole_lines text else begun b (whole_lines text)

-- what stands behind a front; nothing of a line that doesn't begin with it
abbrev pub behind_front : List ℕ → List ℕ → List ℕ
behind_front [] line = line
behind_front (c ∷ front) [] = []
behind_front (c ∷ front) (b ∷ line) = if nat_eq b c then behind_front front line else []

abbrev pub behind_fronts : List ℕ → List (List ℕ) → List ℕ
behind_fronts front [] = []
behind_fronts front (line ∷ lines) = behind_front front line ++ behind_fronts front lines

-- what belongs to the lane of a name
abbrev pub own_part : List ℕ → List ℕ → List ℕ
own_part name text = behind_fronts (lane_front name) (whole_lines text)

-- no line of a text is without its line feed, if a line begins with the text, or if not
abbrev pub ends_whole : Bool → List ℕ → Bool
ends_whole begins [] = begins
ends_whole begins (b ∷ text) = ends_whole (nat_eq b 10) text

abbrev pub is_whole : List ℕ → Bool
is_whole text = ends_whole true text

module _ {S : Type 0} (next : S → List ℕ → S) (says : S → List ℕ → List ℕ → Type 0) (start : S → S) (is_open : S → Bool) where
  -- where each reply of a lane is whole: of all that is written of lines, what belongs to a lane is a conversation of its own
  -- over its own lines
  abbrev pub OwnPartIsAlone : Type 0
  OwnPartIsAlone = ((s : S) (line text : List ℕ) → says s line text → is_whole text ≡ true)
      → (name : List ℕ) → list_all is_word_byte name ≡ true → (first : S) (lines : List (List ℕ)) (text : List ℕ)
      → IsConversation (stepped next start is_open) (MayWrite says start is_open) (at_start first) lines text
      → IsConversation next says (start first) (own_lines next start is_open name (at_start first) lines) (own_part name text)
