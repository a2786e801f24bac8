-- How far a piece leads, line by line.
use Rattle.std.proofs.Common.{◌≡◌, ℕ, ◌-◌, Bool, true, false, List, [], ◌∷◌, ◌++◌, length, take, drop, Option, refl, sym, ◌∙◌, ap, subst, append_assoc}
use Rattle.std.proofs.lemmas.List.{append-nil, take-append-drop}
use Rattle.std.specs.List.{list_any}
use Rattle.lv_io.proofs.Pieces.{rest_of_bytes}
use Rattle.lv_text.specs.Lines.{lines_of, is_line_feed}
use Rattle.lv_serve.specs.Conversation.{after_lines, IsConversation, AddsConversation, AddsConversationFront}
use Rattle.lv_serve.specs.Ends.{ended, unended}
use Rattle.lv_serve.specs.Unfinished.{kept_of}
use Rattle.lv_serve.specs.Served.{at_text, quits, AddsReplies, AddsFrontOfReplies}
use Rattle.lv_serve.specs.Serving.{StandsAt}
use Rattle.lv_serve.specs.declared.serving.Serving.{Serving}
use Rattle.lv_serve.proofs.EndLemmas.{ended_more, lines_cut, parts_joined}
use Rattle.lv_serve.proofs.Writing.{no_front}
use Rattle.lv_serve.proofs.ConversationLemmas.{after_lines-append, conversation-append, ended_at, ended_conversation, front_of_first}
use Rattle.lv_serve.proofs.StandingLemmas.{stands_longer, waits_front}

-- the lines that have ended in a longer text
pub lines_more : (read more : List ℕ) → lines_of (ended (read ++ more)) ≡ lines_of (ended read) ++ lines_of (ended (unended read ++ more))
lines_more read more = ap lines_of (ended_more read more) ∙ lines_cut read (ended (unended read ++ more))

-- all lines of a longer text
pub all_lines_more : (read more : List ℕ) → lines_of (read ++ more) ≡ lines_of (ended read) ++ lines_of (unended read ++ more)
all_lines_more read more =
    ap lines_of (ap (λ (l : List ℕ). l ++ more) (sym (parts_joined read)) ∙ append_assoc (ended read) (unended read) more)
    ∙ lines_cut read (unended read ++ more)

module _ {S : Type 0} (next : S → List ℕ → S) (says : S → List ℕ → List ℕ → Type 0) where
  -- what a front of a conversation is of some lines, it is of those and more
  pub front_of_more : (start : S) (lines more : List (List ℕ)) (before after : Option (List ℕ))
      → AddsConversationFront next says start lines before after
      → AddsConversationFront next says start (lines ++ more) before after
  front_of_more start lines more before after front =
      front_of_first next says start (take front.answered lines) (drop front.answered lines ++ more) (lines ++ more) front.whole before after
      (ap (λ (ls : List (List ℕ)). ls ++ more) (sym (take-append-drop front.answered lines)) ∙ append_assoc (take front.answered lines) (drop front.answered lines) more)
      front.is_conversation front.front

  pub front_of_longer : (start : S) (read more : List ℕ) (before after : Option (List ℕ))
      → AddsFrontOfReplies next says start (ended read) before after
      → AddsFrontOfReplies next says start (ended (read ++ more)) before after
  front_of_longer start read more before after front =
      subst (λ (ls : List (List ℕ)). AddsConversationFront next says start ls before after) (sym (lines_more read more))
      (front_of_more start (lines_of (ended read)) (lines_of (ended (unended read ++ more))) before after front)

  pub front_of_all : (start : S) (read more : List ℕ) (before after : Option (List ℕ))
      → AddsFrontOfReplies next says start (ended read) before after
      → AddsFrontOfReplies next says start (read ++ more) before after
  front_of_all start read more before after front =
      subst (λ (ls : List (List ℕ)). AddsConversationFront next says start ls before after) (sym (all_lines_more read more))
      (front_of_more start (lines_of (ended read)) (lines_of (unended read ++ more)) before after front)

  -- once the conversation has ended nothing that comes later changes what is written
  module _ (has_ended : S → Bool)
      (stays : (s : S) (line : List ℕ) → has_ended s ≡ true → next s line ≡ s)
      (silent : (s : S) (line : List ℕ) → has_ended s ≡ true → says s line []) where
    pub quits_more : (start : S) (read more : List ℕ) → quits next has_ended start read ≡ true → quits next has_ended start (read ++ more) ≡ true
    quits_more start read more is =
        ap (λ (ls : List (List ℕ)). has_ended (after_lines next start ls)) (lines_more read more)
        ∙ ap has_ended (after_lines-append next start (lines_of (ended read)) (lines_of (ended (unended read ++ more))))
        ∙ ap has_ended (ended_at next has_ended stays (at_text next start read) (lines_of (ended (unended read ++ more))) is)
        ∙ is

    pub conversation_of_all : (start : S) (read more : List ℕ) (before after : Option (List ℕ))
        → quits next has_ended start read ≡ true
        → AddsReplies next says start (ended read) before after
        → AddsReplies next says start (read ++ more) before after
    conversation_of_all start read more before after is adds =
        subst (λ (ls : List (List ℕ)). AddsConversation next says start ls before after) (sym (all_lines_more read more))
        (record {
          written = adds.written;
          is_conversation = subst (IsConversation next says start (lines_of (ended read) ++ lines_of (unended read ++ more))) (append-nil adds.written)
              (conversation-append next says start (lines_of (ended read)) (lines_of (unended read ++ more)) adds.written [] adds.is_conversation
              (ended_conversation next says has_ended stays silent (at_text next start read) (lines_of (unended read ++ more)) is));
          added = adds.added;
        })

  -- what is left of a piece leads, from where the serving stands now, where the whole piece leads from where it stood
  pub record Leads (piece : List ℕ) (first : Serving S) (first_text : Option (List ℕ)) (rest : List ℕ) (now : Serving S) (text : Option (List ℕ)) : Type 0 where
    pub done : List ℕ
    pub joined : done ++ rest ≡ piece
    pub stands : (start : S) (read : List ℕ) (before : Option (List ℕ)) → StandsAt next says start read before first first_text → StandsAt next says start (read ++ done) before now text

  pub leads_at_start : (piece : List ℕ) (now : Serving S) (text : Option (List ℕ)) → Leads piece now text piece now text
  leads_at_start piece now text = record {
    done = [];
    joined = refl;
    stands = λ start read before at. subst (λ (l : List ℕ). StandsAt next says start l before now text) (sym (append-nil read)) at;
  }

  -- one more line
  pub leads_on : (piece : List ℕ) (first : Serving S) (first_text : Option (List ℕ)) (rest line : List ℕ) (whole : ℕ) (now later : Serving S) (text after : Option (List ℕ))
      → rest ≡ (line ++ 10 ∷ []) ++ drop whole rest
      → Leads piece first first_text rest now text
      → ((start : S) (read : List ℕ) (before : Option (List ℕ)) → StandsAt next says start read before now text → StandsAt next says start ((read ++ line) ++ 10 ∷ []) before later after)
      → Leads piece first first_text (take (length rest - whole) (drop whole rest)) later after
  leads_on piece first first_text rest line whole now later text after cut leads goes = record {
    done = leads.done ++ (line ++ 10 ∷ []);
    joined = ap (λ (l : List ℕ). (leads.done ++ (line ++ 10 ∷ [])) ++ l) (rest_of_bytes whole rest)
        ∙ append_assoc leads.done (line ++ 10 ∷ []) (drop whole rest) ∙ ap (λ (l : List ℕ). leads.done ++ l) (sym cut) ∙ leads.joined;
    stands = λ start read before at. subst (λ (l : List ℕ). StandsAt next says start l before later after)
        (append_assoc (read ++ leads.done) line (10 ∷ []) ∙ append_assoc read leads.done (line ++ 10 ∷ []))
        (goes start (read ++ leads.done) before (leads.stands start read before at));
  }

  -- a line in the middle of the piece was not answered
  pub leads_nowhere : (piece : List ℕ) (first : Serving S) (first_text : Option (List ℕ)) (rest line : List ℕ) (whole : ℕ) (now : Serving S) (text after : Option (List ℕ))
      → rest ≡ (line ++ 10 ∷ []) ++ drop whole rest
      → Leads piece first first_text rest now text
      → ((start : S) (read : List ℕ) (before : Option (List ℕ)) → StandsAt next says start read before now text → AddsFrontOfReplies next says start (ended ((read ++ line) ++ 10 ∷ [])) before after)
      → (start : S) (read : List ℕ) (before : Option (List ℕ)) → StandsAt next says start read before first first_text → AddsFrontOfReplies next says start (ended (read ++ piece)) before after
  leads_nowhere piece first first_text rest line whole now text after cut leads fails start read before at =
      subst (λ (l : List ℕ). AddsFrontOfReplies next says start (ended l) before after)
      (ap (λ (l : List ℕ). l ++ drop whole rest) (append_assoc (read ++ leads.done) line (10 ∷ []))
      ∙ append_assoc (read ++ leads.done) (line ++ 10 ∷ []) (drop whole rest)
      ∙ ap (λ (l : List ℕ). (read ++ leads.done) ++ l) (sym cut)
      ∙ append_assoc read leads.done rest
      ∙ ap (λ (l : List ℕ). read ++ l) leads.joined)
      (front_of_longer start (((read ++ leads.done) ++ line) ++ 10 ∷ []) (drop whole rest) before after
      (fails start (read ++ leads.done) before (leads.stands start read before at)))

  -- no line ends in what is left
  pub leads_pushed : (piece : List ℕ) (first : Serving S) (first_text : Option (List ℕ)) (rest : List ℕ) (now later : Serving S) (text : Option (List ℕ))
      → list_any is_line_feed rest ≡ false
      → later.at ≡ now.at
      → later.replies ≡ now.replies
      → ((l : List ℕ) → now.line ≡ kept_of l → later.line ≡ kept_of (l ++ rest))
      → Leads piece first first_text rest now text
      → (start : S) (read : List ℕ) (before : Option (List ℕ)) → StandsAt next says start read before first first_text
      → StandsAt next says start (read ++ piece) before later text
  leads_pushed piece first first_text rest now later text none same replies pushed leads start read before at =
      subst (λ (l : List ℕ). StandsAt next says start l before later text)
      (append_assoc read leads.done rest ∙ ap (λ (l : List ℕ). read ++ l) leads.joined)
      (stands_longer next says start (read ++ leads.done) rest before text now later none same replies pushed (leads.stands start read before at))

  -- what was written where a serving stands
  pub stands_front : (start : S) (read : List ℕ) (before text : Option (List ℕ)) (now : Serving S)
      → StandsAt next says start read before now text
      → AddsFrontOfReplies next says start (ended read) before text
  stands_front start read before text now at =
      waits_front next says start (lines_of (ended read)) now.replies before text text at.waits (no_front now.replies text)

  pub leads_front : (piece : List ℕ) (first : Serving S) (first_text : Option (List ℕ)) (rest : List ℕ) (now : Serving S) (text : Option (List ℕ))
      → Leads piece first first_text rest now text
      → (start : S) (read : List ℕ) (before : Option (List ℕ)) → StandsAt next says start read before first first_text → AddsFrontOfReplies next says start (ended (read ++ piece)) before text
  leads_front piece first first_text rest now text leads start read before at =
      subst (λ (l : List ℕ). AddsFrontOfReplies next says start (ended l) before text)
      (append_assoc read leads.done rest ∙ ap (λ (l : List ℕ). read ++ l) leads.joined)
      (front_of_longer start (read ++ leads.done) rest before text
      (stands_front start (read ++ leads.done) before text now (leads.stands start read before at)))

  pub next_front : (start : S) (read last : List ℕ) (before text : Option (List ℕ)) (now : Serving S)
      → StandsAt next says start read before now text
      → AddsFrontOfReplies next says start (ended ((read ++ last) ++ 10 ∷ [])) before text
  next_front start read last before text now at =
      subst (λ (l : List ℕ). AddsFrontOfReplies next says start (ended l) before text) (sym (append_assoc read last (10 ∷ [])))
      (front_of_longer start read (last ++ 10 ∷ []) before text (stands_front start read before text now at))
