-- Each lane is alone: what belongs to it of all replies is a conversation of its own.
use Rattle.std.proofs.Common.{◌≡◌, ℕ, Bool, true, false, cond, List, [], ◌∷◌, ◌++◌, map, filter, refl, sym, ◌∙◌, ap, ap₂, subst, append_assoc}
use Rattle.std.specs.List.{list_any}
use Rattle.std.specs.Cmp.Lexicographic.{same_text}
use Rattle.lv_base.specs.Names.{is_named}
use Rattle.lv_serve.specs.Conversation.{after_lines, IsConversation, ends, goes_on}
use Rattle.lv_lanes.specs.declared.named.Named.{Named}
use Rattle.lv_lanes.specs.declared.reply.LaneText.{LaneText}
use Rattle.lv_lanes.specs.declared.reply.LaneReply.{LaneReply}
use Rattle.lv_lanes.specs.declared.reply.LaneReply.TheVariants.{Refused, Replied}
use Rattle.lv_lanes.specs.Forms.{Asked, nothing, refused, for_lane, turn, asked_by}
use Rattle.lv_lanes.specs.declared.fault.LaneFault.TheVariants.{NoLane}
use Rattle.lv_lanes.specs.Standing.{is_refused, errands, Standing, is_lane, lane_of, has_place, gone_on, handed, is_open_lane, errand_to, errands_to_open, turned, more_line, work_by, work_of, lanes_by, stepped}
use Rattle.lv_lanes.specs.Replies.{AreReplies, no_errands, one_more, MayReply, MayWrite}
use Rattle.lv_lanes.specs.Laws.{at_start, lines_to, handed_to, text_in, text_of, own_text, all_text, own_lines, MayReplyInOrder, all_replied, first_replied, EachIsAlone, WrittenIsOfLanes}
use Rattle.lv_lanes.proofs.LaneLemmas.{NamedOnce, absent_later, no_other, own_goes, other_stays, once_handed, once_turned}

module _ {S : Type 0} (next : S → List ℕ → S) (says : S → List ℕ → List ℕ → Type 0) where
  -- a conversation over these lines, and where they lead to
  record OwnPart (begin : S) (lines : List (List ℕ)) (end : S) (text : List ℕ) : Type 0 where
    is_conversation : IsConversation next says begin lines text
    leads : after_lines next begin lines ≡ end

  nothing_said : (s : S) → OwnPart s [] s []
  nothing_said s = record { is_conversation = ends; leads = refl }

  one_said : (s : S) (line text : List ℕ) → says s line text → OwnPart s (line ∷ []) (next s line) (text ++ [])
  one_said s line text said = record { is_conversation = goes_on said ends refl; leads = refl }

  joined : (s : S) (xs ys : List (List ℕ)) (a b : List ℕ) → IsConversation next says s xs a → IsConversation next says (after_lines next s xs) ys b
      → IsConversation next says s (xs ++ ys) (a ++ b)
  joined s [] ys a b ends more = more
  joined s (x ∷ xs) ys a b (goes_on {reply} {rest} said later is) more =
      goes_on said (joined (next s x) xs ys rest b later more) (ap (λ (t : List ℕ). t ++ b) is ∙ append_assoc reply rest b)

  -- a lane with an unsettled query, which is the one or not; if it is, nothing behind it belongs to that
  open_first : (c : Bool) (here begin end : S) (line : List ℕ) (lines : List (List ℕ)) (reply text : List ℕ) → says here line reply
      → (c ≡ true → (lines ≡ []) × (text ≡ [])) → OwnPart begin lines end text
      → OwnPart (cond c here begin) (cond c (line ∷ lines) lines) (cond c (next here line) end) (cond c (reply ++ text) text)
  open_first true here begin end line lines reply text said none rest =
      let both = none refl in
      subst (λ (ls : List (List ℕ)). OwnPart here (line ∷ ls) (next here line) (reply ++ text)) (sym both.0)
      (subst (λ (t : List ℕ). OwnPart here (line ∷ []) (next here line) (reply ++ t)) (sym both.1) (one_said here line reply said))
  open_first false here begin end line lines reply text said none rest = rest

  shut_first : (c : Bool) (here begin end : S) (lines : List (List ℕ)) (text : List ℕ)
      → (c ≡ true → (lines ≡ []) × (text ≡ [])) → OwnPart begin lines end text
      → OwnPart (cond c here begin) lines (cond c here end) text
  shut_first true here begin end lines text none rest =
      let both = none refl in
      subst (λ (ls : List (List ℕ)). OwnPart here ls here text) (sym both.0)
      (subst (λ (t : List ℕ). OwnPart here [] here t) (sym both.1) (nothing_said here))
  shut_first false here begin end lines text none rest = rest

  module _ (start : S → S) (is_open : S → Bool) where
    -- a turn tells nothing of a lane that isn't there
    turn_without : (name line : List ℕ) (ls : List (Named S)) (rs : List LaneText) → list_any (is_lane name) ls ≡ false
        → AreReplies says (errands_to_open is_open line ls) rs
        → (lines_to name (errands_to_open is_open line ls) ≡ []) × (text_in name rs ≡ [])
    turn_without name line [] rs none no_errands = (refl, refl)
    turn_without name line (l ∷ ls) rs none are =
        by (is_open l.lane) rs (λ (later : List LaneText). turn_without name line ls later (absent_later name l ls none).1) are
      where
        by : (b : Bool) (rs : List LaneText)
            → ((later : List LaneText) → AreReplies says (errands_to_open is_open line ls) later → (lines_to name (errands_to_open is_open line ls) ≡ []) × (text_in name later ≡ []))
            → AreReplies says (map (errand_to line) (cond b (l ∷ filter (is_open_lane is_open) ls) (filter (is_open_lane is_open) ls))) rs
            → (lines_to name (map (errand_to line) (cond b (l ∷ filter (is_open_lane is_open) ls) (filter (is_open_lane is_open) ls))) ≡ []) × (text_in name rs ≡ [])
        by false rs others are = others rs are
        by true rs others (one_more {reply} {replies} named said later) =
            let rest = others replies later in
            let apart = (absent_later name l ls none).0 in (
              ap (λ (b : Bool). cond b (line ∷ lines_to name (errands_to_open is_open line ls)) (lines_to name (errands_to_open is_open line ls))) apart ∙ rest.0,
              ap (λ (b : Bool). cond b (reply.text ++ text_in name replies) (text_in name replies)) (ap (is_named name) named ∙ apart) ∙ rest.1,
            )

    in_turn : (name line : List ℕ) (begin : S) (ls : List (Named S)) (rs : List LaneText) → NamedOnce ls
        → AreReplies says (errands_to_open is_open line ls) rs
        → OwnPart (lane_of name begin ls) (lines_to name (errands_to_open is_open line ls)) (lane_of name begin (map (turned next is_open line) ls)) (text_in name rs)
    in_turn name line begin [] rs once no_errands = nothing_said begin
    in_turn name line begin (l ∷ ls) rs once are =
        by (is_open l.lane) rs (λ (later : List LaneText). in_turn name line begin ls later once.1) are
      where
        by : (b : Bool) (rs : List LaneText)
            → ((later : List LaneText) → AreReplies says (errands_to_open is_open line ls) later
            → OwnPart (lane_of name begin ls) (lines_to name (errands_to_open is_open line ls)) (lane_of name begin (map (turned next is_open line) ls)) (text_in name later))
            → AreReplies says (map (errand_to line) (cond b (l ∷ filter (is_open_lane is_open) ls) (filter (is_open_lane is_open) ls))) rs
            → OwnPart (cond (is_lane name l) l.lane (lane_of name begin ls))
            (lines_to name (map (errand_to line) (cond b (l ∷ filter (is_open_lane is_open) ls) (filter (is_open_lane is_open) ls))))
            (lane_of name begin (cond b (gone_on next line l) l ∷ map (turned next is_open line) ls))
            (text_in name rs)
        by false rs others are =
            shut_first (is_lane name l) l.lane (lane_of name begin ls) (lane_of name begin (map (turned next is_open line) ls))
            (lines_to name (errands_to_open is_open line ls)) (text_in name rs)
            (λ is. turn_without name line ls rs (no_other name l ls is once.0) are) (others rs are)
        by true rs others (one_more {reply} {replies} named said later) =
            let behind = lines_to name (errands_to_open is_open line ls) in
            subst (λ (n : List ℕ). OwnPart (cond (is_lane name l) l.lane (lane_of name begin ls)) (cond (is_lane name l) (line ∷ behind) behind)
            (cond (is_lane name l) (next l.lane line) (lane_of name begin (map (turned next is_open line) ls)))
            (cond (is_named name n) (reply.text ++ text_in name replies) (text_in name replies))) (sym named)
            (open_first (is_lane name l) l.lane (lane_of name begin ls) (lane_of name begin (map (turned next is_open line) ls)) line
            behind reply.text (text_in name replies) said
            (λ is. turn_without name line ls replies (no_other name l ls is once.0) later) (others replies later))

    for_own : (name line : List ℕ) (begin : S) (ls : List (Named S)) (text : List ℕ) → says (lane_of name begin ls) line text
        → OwnPart (lane_of name begin ls) (line ∷ []) (lane_of name begin (handed next name line begin ls)) (text ++ [])
    for_own name line begin ls text said = record { is_conversation = goes_on said ends refl; leads = sym (own_goes next name line begin ls) }

    for_one : (name other line : List ℕ) (begin : S) (ls : List (Named S)) (rs : List LaneText)
        → AreReplies says (record { name = other; lane = lane_of other begin ls; line = line } ∷ []) rs
        → OwnPart (lane_of name begin ls) (lines_to name (record { name = other; lane = lane_of other begin ls; line = line } ∷ []))
        (lane_of name begin (handed next other line begin ls)) (text_in name rs)
    for_one name other line begin ls rs (one_more {reply} named said no_errands) =
        subst (λ (n : List ℕ). OwnPart (lane_of name begin ls) (cond (is_named name other) (line ∷ []) []) (lane_of name begin (handed next other line begin ls))
        (cond (is_named name n) (reply.text ++ []) [])) (sym named) (by (is_named name other) refl)
      where
        by : (b : Bool) → is_named name other ≡ b
            → OwnPart (lane_of name begin ls) (cond b (line ∷ []) []) (lane_of name begin (handed next other line begin ls)) (cond b (reply.text ++ []) [])
        by false apart = record { is_conversation = ends; leads = sym (other_stays next name other line begin ls apart) }
        by true own =
            let same = same_text other name (sym own) in
            subst (λ (n : List ℕ). OwnPart (lane_of name begin ls) (line ∷ []) (lane_of name begin (handed next n line begin ls)) (reply.text ++ [])) (sym same)
            (for_own name line begin ls reply.text (subst (λ (n : List ℕ). says (lane_of n begin ls) line reply.text) same said))

    of_line : (name : List ℕ) (first : S) (ls : List (Named S)) (asked : Asked) (reply : LaneReply) → NamedOnce ls
        → MayReply says (work_by start is_open first ls asked) reply
        → OwnPart (lane_of name (start first) ls) (handed_to name (work_by start is_open first ls asked))
        (lane_of name (start first) (lanes_by next start is_open first ls asked)) (text_of name reply)
    of_line name first ls nothing (Refused told) once may = absurd may
    of_line name first ls nothing (Replied rs) once no_errands = nothing_said (lane_of name (start first) ls)
    of_line name first ls (refused fault) (Refused told) once may = nothing_said (lane_of name (start first) ls)
    of_line name first ls (refused fault) (Replied rs) once may = absurd may
    of_line name first ls (for_lane other line) reply once may = by (has_place other ls) reply may
      where
        by : (b : Bool) (reply : LaneReply)
            → MayReply says (cond b (errands (record { name = other; lane = lane_of other (start first) ls; line = line } ∷ [])) (is_refused NoLane)) reply
            → OwnPart (lane_of name (start first) ls)
            (handed_to name (cond b (errands (record { name = other; lane = lane_of other (start first) ls; line = line } ∷ [])) (is_refused NoLane)))
            (lane_of name (start first) (cond b (handed next other line (start first) ls) ls)) (text_of name reply)
        by true (Refused told) may = absurd may
        by true (Replied rs) may = for_one name other line (start first) ls rs may
        by false (Refused told) may = nothing_said (lane_of name (start first) ls)
        by false (Replied rs) may = absurd may
    of_line name first ls (turn trials) (Refused told) once may = absurd may
    of_line name first ls (turn trials) (Replied rs) once may = in_turn name (more_line trials) (start first) ls rs once may

    once_by : (first : S) (ls : List (Named S)) (asked : Asked) → NamedOnce ls → NamedOnce (lanes_by next start is_open first ls asked)
    once_by first ls nothing once = once
    once_by first ls (refused fault) once = once
    once_by first ls (for_lane name line) once = by (has_place name ls)
      where
        by : (b : Bool) → NamedOnce (cond b (handed next name line (start first) ls) ls)
        by true = once_handed next name line (start first) ls once
        by false = once
    once_by first ls (turn trials) once = once_turned next is_open (more_line trials) ls once

    alone : (name : List ℕ) (s : Standing S) (lines : List (List ℕ)) (replies : List LaneReply) → NamedOnce s.lanes
        → MayReplyInOrder next says start is_open s lines replies
        → IsConversation next says (lane_of name (start s.first) s.lanes) (own_lines next start is_open name s lines) (own_text name replies)
    alone name s [] replies once all_replied = ends
    alone name s (line ∷ lines) all once (first_replied {reply} {replies} may later) =
        let part = of_line name s.first s.lanes (asked_by line) reply once may in
        joined (lane_of name (start s.first) s.lanes) (handed_to name (work_of start is_open s line))
        (own_lines next start is_open name (stepped next start is_open s line) lines) (text_of name reply) (own_text name replies)
        part.is_conversation
        (subst (λ (end : S). IsConversation next says end (own_lines next start is_open name (stepped next start is_open s line) lines) (own_text name replies)) (sym part.leads)
        (alone name (stepped next start is_open s line) lines replies (once_by s.first s.lanes (asked_by line) once) later))

    pub each_is_alone : EachIsAlone next says start is_open
    each_is_alone name first lines replies are = alone name (at_start first) lines replies (tt {0}) are

    pub written : (s : Standing S) (lines : List (List ℕ)) (text : List ℕ)
        → IsConversation (stepped next start is_open) (MayWrite says start is_open) s lines text
        → (replies : List LaneReply) × MayReplyInOrder next says start is_open s lines replies × (text ≡ all_text replies)
    written s [] text ends = ([], all_replied, refl)
    written s (line ∷ lines) text (goes_on {reply} {rest} said more is) =
        let later = written (stepped next start is_open s line) lines rest more in
        (said.reply ∷ later.0, first_replied said.may_reply later.1, is ∙ ap₂ (λ (a b : List ℕ). a ++ b) said.is_text later.2)

    pub written_is_of_lanes : WrittenIsOfLanes next says start is_open
    written_is_of_lanes first lines text is =
        let found = written (at_start first) lines text is in
        record {
          replies = found.0;
          in_order = found.1;
          all = found.2;
          alone = λ name. each_is_alone name first lines found.0 found.1;
        }
