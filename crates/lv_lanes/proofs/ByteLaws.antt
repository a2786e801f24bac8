-- What belongs to a lane of all that is written, byte by byte, is what it replied.
use Rattle.std.proofs.Common.{◌≡◌, ℕ, ◌+◌, Bool, true, false, cond, ◌&&◌, nat_eq, nat_lt, nat_le, List, [], ◌∷◌, ◌++◌, map, filter, take, drop, length, slice_index, Option, Some, None, refl, sym, ◌∙◌, ap, ap₂, subst}
use Rattle.std.specs.List.{list_all, prefix_len}
use Rattle.std.specs.Option.{option_map_or}
use Rattle.lv_base.specs.Names.{is_named}
use Rattle.lv_base.specs.declared.limits.TheConstants.{LINE_BYTES, NAME_BYTES, BUDGET}
use Rattle.lv_text.specs.Bytes.{is_word_byte}
use Rattle.lv_text.specs.Lexemes.{Reading, reads, has_bad_byte, is_too_long, line_reading, number_at}
use Rattle.lv_serve.specs.Conversation.{IsConversation}
use Rattle.lv_lanes.specs.declared.fault.LaneFault.TheVariants.{LongLine, NoForm, NoLane, OutOfLimits}
use Rattle.lv_lanes.specs.declared.named.Named.{Named}
use Rattle.lv_lanes.specs.declared.reply.LaneText.{LaneText}
use Rattle.lv_lanes.specs.declared.reply.LaneReply.{LaneReply}
use Rattle.lv_lanes.specs.declared.reply.LaneReply.TheVariants.{Refused, Replied}
use Rattle.lv_lanes.specs.Forms.{Asked, nothing, refused, for_lane, turn, is_address, addressed, is_turn, turn_within, asked_by_reading, asked_by}
use Rattle.lv_lanes.specs.Standing.{Errand, Work, is_refused, errands, Standing, is_lane, lane_of, has_place, gone_on, handed, is_open_lane, errand_to, errands_to_open, turned, more_line, work_by, work_of, lanes_by, stepped}
use Rattle.lv_lanes.specs.Replies.{AreReplies, no_errands, one_more, MayReply, lane_front, lane_text, lane_texts, reply_text}
use Rattle.lv_lanes.specs.Laws.{at_start, text_in, text_of, own_text, all_text, own_lines, MayReplyInOrder, all_replied, first_replied}
use Rattle.lv_lanes.specs.Bytes.{own_part, is_whole, OwnPartIsAlone}
use Rattle.lv_lanes.proofs.ByteLemmas.{own_of_lane, fronted_whole, whole_behind, own_apart, word_taken}
use Rattle.lv_lanes.proofs.AloneLemmas.{each_is_alone, written}

-- ---- a lane's name is a word

abbrev HasWord : Asked → Type 0
HasWord nothing = Unit {0}
HasWord (refused fault) = Unit {0}
HasWord (for_lane name line) = list_all is_word_byte name ≡ true
HasWord (turn trials) = Unit {0}

addressed_word : (rest : List ℕ) → HasWord (addressed rest)
addressed_word rest = by (is_address rest) (nat_lt NAME_BYTES (prefix_len is_word_byte rest))
  where
    by : (a b : Bool) → HasWord (cond a (cond b (refused NoLane) (for_lane (take (prefix_len is_word_byte rest) rest) (drop (prefix_len is_word_byte rest + 1) rest))) (refused NoForm))
    by true true = tt {0}
    by true false = word_taken rest
    by false b = tt {0}

reading_word : (found : Reading) → HasWord (asked_by_reading found)
reading_word (reads []) = tt {0}
reading_word (reads (w ∷ ws)) = by (is_turn (w ∷ ws)) (number_at (w ∷ ws) 1)
  where
    within : (n : ℕ) (b : Bool) → HasWord (cond b (turn n) (refused OutOfLimits))
    within n true = tt {0}
    within n false = tt {0}

    by : (a : Bool) (n : Option ℕ) → HasWord (cond a (option_map_or turn_within n (refused OutOfLimits)) (refused NoForm))
    by false n = tt {0}
    by true None = tt {0}
    by true (Some n) = within n (nat_le 1 n && nat_le n BUDGET)
reading_word (has_bad_byte place) = tt {0}
reading_word is_too_long = tt {0}

asked_word : (line : List ℕ) → HasWord (asked_by line)
asked_word line = by (nat_lt LINE_BYTES (length line)) (nat_eq (slice_index line 0) 64)
  where
    by : (a b : Bool) → HasWord (cond a (refused LongLine) (cond b (addressed (drop 1 line)) (asked_by_reading (line_reading line))))
    by true b = tt {0}
    by false true = addressed_word (drop 1 line)
    by false false = reading_word (line_reading line)

module _ {S : Type 0} where
  abbrev AreWords : List (Named S) → Type 0
  AreWords [] = Unit {0}
  AreWords (l ∷ ls) = (list_all is_word_byte l.name ≡ true) × AreWords ls

  abbrev HaveWords : List (Errand S) → Type 0
  HaveWords [] = Unit {0}
  HaveWords (e ∷ es) = (list_all is_word_byte e.name ≡ true) × HaveWords es

  abbrev WorkHasWords : Work S → Type 0
  WorkHasWords (is_refused fault) = Unit {0}
  WorkHasWords (errands es) = HaveWords es

module _ {S : Type 0} (next : S → List ℕ → S) (start : S → S) (is_open : S → Bool) where
  words_handed : (name line : List ℕ) (begin : S) (ls : List (Named S)) → list_all is_word_byte name ≡ true → AreWords ls → AreWords (handed next name line begin ls)
  words_handed name line begin [] word words = (word, tt {0})
  words_handed name line begin (l ∷ ls) word words = by (is_lane name l) (words_handed name line begin ls word words.1)
    where
      by : (b : Bool) → AreWords (handed next name line begin ls) → AreWords (cond b (gone_on next line l ∷ ls) (l ∷ handed next name line begin ls))
      by true later = words
      by false later = (words.0, later)

  words_turned : (line : List ℕ) (ls : List (Named S)) → AreWords ls → AreWords (map (turned next is_open line) ls)
  words_turned line [] words = tt {0}
  words_turned line (l ∷ ls) words = (by (is_open l.lane), words_turned line ls words.1)
    where
      by : (b : Bool) → list_all is_word_byte (cond b (gone_on next line l) l).name ≡ true
      by true = words.0
      by false = words.0

  words_open : (line : List ℕ) (ls : List (Named S)) → AreWords ls → HaveWords (errands_to_open is_open line ls)
  words_open line [] words = tt {0}
  words_open line (l ∷ ls) words = by (is_open l.lane) (words_open line ls words.1)
    where
      by : (b : Bool) → HaveWords (errands_to_open is_open line ls)
          → HaveWords (map (errand_to line) (cond b (l ∷ filter (is_open_lane is_open) ls) (filter (is_open_lane is_open) ls)))
      by true later = (words.0, later)
      by false later = later

  words_by : (first : S) (ls : List (Named S)) (asked : Asked) → HasWord asked → AreWords ls → AreWords (lanes_by next start is_open first ls asked)
  words_by first ls nothing has words = words
  words_by first ls (refused fault) has words = words
  words_by first ls (for_lane name line) has words = by (has_place name ls)
    where
      by : (b : Bool) → AreWords (cond b (handed next name line (start first) ls) ls)
      by true = words_handed name line (start first) ls has words
      by false = words
  words_by first ls (turn trials) has words = words_turned (more_line trials) ls words

  work_words : (first : S) (ls : List (Named S)) (asked : Asked) → HasWord asked → AreWords ls → WorkHasWords (work_by start is_open first ls asked)
  work_words first ls nothing has words = tt {0}
  work_words first ls (refused fault) has words = tt {0}
  work_words first ls (for_lane name line) has words = by (has_place name ls)
    where
      by : (b : Bool) → WorkHasWords (cond b (errands (record { name = name; lane = lane_of name (start first) ls; line = line } ∷ [])) (is_refused NoLane))
      by true = (has, tt {0})
      by false = tt {0}
  work_words first ls (turn trials) has words = words_open (more_line trials) ls words

-- ---- what belongs to a lane

module _ {S : Type 0} (says : S → List ℕ → List ℕ → Type 0) (whole : (s : S) (line text : List ℕ) → says s line text → is_whole text ≡ true)
    (name : List ℕ) (word : list_all is_word_byte name ≡ true) where
  own_of_texts : (es : List (Errand S)) (rs : List LaneText) → HaveWords es → AreReplies says es rs
      → (own_part name (lane_texts rs) ≡ text_in name rs) × (is_whole (lane_texts rs) ≡ true)
  own_of_texts [] rs words no_errands = (refl, refl)
  own_of_texts (e ∷ es) rs words (one_more {reply} {replies} named said later) =
      let rest = own_of_texts es replies words.1 later in
      let ended : is_whole (lane_text reply) ≡ true = fronted_whole (lane_front reply.name) true reply.text ∙ whole e.lane e.line reply.text said in
      let other : list_all is_word_byte reply.name ≡ true = ap (list_all is_word_byte) named ∙ words.0 in (
        own_apart (lane_front name) (lane_text reply) (lane_texts replies) ended
            ∙ ap₂ (λ (a b : List ℕ). a ++ b) (own_of_lane name reply.name reply.text word other) rest.0
            ∙ by (is_named name reply.name) reply.text (text_in name replies),
        whole_behind true (lane_text reply) (lane_texts replies) ended rest.1,
      )
    where
      by : (b : Bool) (own more : List ℕ) → cond b own [] ++ more ≡ cond b (own ++ more) more
      by true own more = refl
      by false own more = refl

  own_of_reply : (work : Work S) (reply : LaneReply) → WorkHasWords work → MayReply says work reply
      → (own_part name (reply_text reply) ≡ text_of name reply) × (is_whole (reply_text reply) ≡ true)
  own_of_reply (is_refused fault) (Refused LongLine) words may = (refl, refl)
  own_of_reply (is_refused fault) (Refused NoForm) words may = (refl, refl)
  own_of_reply (is_refused fault) (Refused NoLane) words may = (refl, refl)
  own_of_reply (is_refused fault) (Refused OutOfLimits) words may = (refl, refl)
  own_of_reply (is_refused fault) (Replied rs) words may = absurd may
  own_of_reply (errands es) (Refused told) words may = absurd may
  own_of_reply (errands es) (Replied rs) words may = own_of_texts es rs words may

  module _ (next : S → List ℕ → S) (start : S → S) (is_open : S → Bool) where
    own_of_all : (s : Standing S) (lines : List (List ℕ)) (replies : List LaneReply) → AreWords s.lanes
        → MayReplyInOrder next says start is_open s lines replies → own_part name (all_text replies) ≡ own_text name replies
    own_of_all s [] replies words all_replied = refl
    own_of_all s (line ∷ lines) all words (first_replied {reply} {replies} may later) =
        let has = asked_word line in
        let one = own_of_reply (work_of start is_open s line) reply (work_words next start is_open s.first s.lanes (asked_by line) has words) may in
        own_apart (lane_front name) (reply_text reply) (all_text replies) one.1
        ∙ ap₂ (λ (a b : List ℕ). a ++ b) one.0
        (own_of_all (stepped next start is_open s line) lines replies (words_by next start is_open s.first s.lanes (asked_by line) has words) later)

module _ {S : Type 0} (next : S → List ℕ → S) (says : S → List ℕ → List ℕ → Type 0) (start : S → S) (is_open : S → Bool) where
  pub own_part_is_alone : OwnPartIsAlone next says start is_open
  own_part_is_alone whole name word first lines text is =
      let found = written next says start is_open (at_start first) lines text is in
      subst (λ (t : List ℕ). IsConversation next says (start first) (own_lines next start is_open name (at_start first) lines) t)
      (sym (ap (own_part name) found.2 ∙ own_of_all says whole name word next start is_open (at_start first) lines found.0 (tt {0}) found.1))
      (each_is_alone next says start is_open name first lines found.0 found.1)
