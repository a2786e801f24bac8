-- Where no certificate is told, the texts of the replies are a transcript, and the only one.
use Rattle.std.proofs.Common.{◌≡◌, ℕ, zero, suc, false, take, List, [], ◌∷◌, ◌++◌, Option, refl, sym, ◌∙◌, ap, ap₂, subst, append_assoc}
use Rattle.std.specs.List.{list_any}
use Rattle.std.proofs.lemmas.Bool.{or_parts}
use Rattle.lv_io.specs.Whole.{AddsFront}
use Rattle.lv_model.specs.declared.plant.Plant.{Plant}
use Rattle.lv_reply.specs.declared.reply.Reply.{Reply}
use Rattle.lv_reply.specs.declared.reply.Reply.TheVariants.{Nothing, Accepted, Refused, Settled, Unsettled, Conflicts, Committed, States, Recovered, NoRecovery, Undecided, CommandConflicts, Labels, Contradiction, Certificate, Probed, Tested, NoTest, SettledWindow, UnsettledWindow, WindowConflicts}
use Rattle.lv_reply.specs.Texts.{reply_text}
use Rattle.lv_session_state.specs.State.{SessionState}
use Rattle.lv_session.specs.Session.{stepped}
use Rattle.lv_session.specs.Certificates.{IsTextOf}
use Rattle.lv_session.specs.Transcript.{SessionStep, IsTranscriptFrom, ends, goes_on}
use Rattle.lv_session.specs.Laws.{is_certificate, replies_to, replies}
use Rattle.lv_serve.proofs.Writing.{longer_front}

-- a reply that is no certificate has its own text, and no other
one_text : (plant : Plant) (state : SessionState) (reply : Reply) (text : List ℕ) → is_certificate reply ≡ false → IsTextOf plant state reply text → text ≡ reply_text plant reply
one_text plant state Certificate text none says = absurd (cc none)
one_text plant state Nothing text none says = says
one_text plant state Accepted text none says = says
one_text plant state (Refused refusal) text none says = says
one_text plant state (Settled listed) text none says = says
one_text plant state (Unsettled listed trials) text none says = says
one_text plant state (Conflicts kept trials) text none says = says
one_text plant state (Committed time tracked) text none says = says
one_text plant state (States time tracked) text none says = says
one_text plant state (Recovered rank) text none says = says
one_text plant state NoRecovery text none says = says
one_text plant state (Undecided trials) text none says = says
one_text plant state (CommandConflicts kept trials) text none says = says
one_text plant state (Labels labels) text none says = says
one_text plant state Contradiction text none says = says
one_text plant state (Probed listed observables best) text none says = says
one_text plant state (Tested rank) text none says = says
one_text plant state NoTest text none says = says
one_text plant state (SettledWindow steps listed) text none says = says
one_text plant state (UnsettledWindow steps listed trials) text none says = says
one_text plant state (WindowConflicts first kept trials) text none says = says

pub own_text : (plant : Plant) (state : SessionState) (reply : Reply) → is_certificate reply ≡ false → IsTextOf plant state reply (reply_text plant reply)
own_text plant state Certificate none = absurd (cc none)
own_text plant state Nothing none = refl
own_text plant state Accepted none = refl
own_text plant state (Refused refusal) none = refl
own_text plant state (Settled listed) none = refl
own_text plant state (Unsettled listed trials) none = refl
own_text plant state (Conflicts kept trials) none = refl
own_text plant state (Committed time tracked) none = refl
own_text plant state (States time tracked) none = refl
own_text plant state (Recovered rank) none = refl
own_text plant state NoRecovery none = refl
own_text plant state (Undecided trials) none = refl
own_text plant state (CommandConflicts kept trials) none = refl
own_text plant state (Labels labels) none = refl
own_text plant state Contradiction none = refl
own_text plant state (Probed listed observables best) none = refl
own_text plant state (Tested rank) none = refl
own_text plant state NoTest none = refl
own_text plant state (SettledWindow steps listed) none = refl
own_text plant state (UnsettledWindow steps listed trials) none = refl
own_text plant state (WindowConflicts first kept trials) none = refl

-- none among the replies to lines
abbrev NoneTold : Plant → SessionState → List (List ℕ) → Type 0
NoneTold plant state lines = list_any is_certificate (replies_to plant state lines) ≡ false

module _ (plant : Plant) (state : SessionState) (line : List ℕ) (lines : List (List ℕ)) (none : NoneTold plant state (line ∷ lines)) where
  none_first : is_certificate (stepped plant state line).reply ≡ false
  none_first = (or_parts (is_certificate (stepped plant state line).reply) _ none).0

  none_later : NoneTold plant (stepped plant state line).state lines
  none_later = (or_parts (is_certificate (stepped plant state line).reply) _ none).1

  -- the line's own step
  own_step : SessionStep plant state line (stepped plant state line).state (reply_text plant (stepped plant state line).reply)
  own_step = record { goes = refl; says = own_text plant (stepped plant state line).state (stepped plant state line).reply none_first }

  only_step : (next : SessionState) (reply : List ℕ) → SessionStep plant state line next reply → reply ≡ reply_text plant (stepped plant state line).reply
  only_step next reply step = one_text plant next (stepped plant state line).reply reply none_first step.says

pub some_transcript : (plant : Plant) (state : SessionState) (lines : List (List ℕ)) → NoneTold plant state lines
    → IsTranscriptFrom plant state lines (replies plant state lines)
some_transcript plant state [] none = ends
some_transcript plant state (line ∷ lines) none =
    goes_on (own_step plant state line lines none) (some_transcript plant (stepped plant state line).state lines (none_later plant state line lines none)) refl

pub one_transcript : (plant : Plant) (state : SessionState) (lines : List (List ℕ)) (text : List ℕ) → NoneTold plant state lines
    → IsTranscriptFrom plant state lines text
    → text ≡ replies plant state lines
one_transcript plant state [] text none ends = refl
one_transcript plant state (line ∷ lines) text none (goes_on {next} {reply} {rest} step more joined) =
    let later : NoneTold plant next lines = subst (λ (s : SessionState). NoneTold plant s lines) (sym step.goes) (none_later plant state line lines none) in
    joined
    ∙ ap₂ (λ (a b : List ℕ). a ++ b) (only_step plant state line lines none next reply step)
    (one_transcript plant next lines rest later more ∙ ap (λ (s : SessionState). replies plant s lines) step.goes)

-- a transcript of the first lines is a front of the whole
front_of_replies : (plant : Plant) (state : SessionState) (lines : List (List ℕ)) (n : ℕ) (text : List ℕ) → NoneTold plant state lines
    → IsTranscriptFrom plant state (take n lines) text → (more : List ℕ) × (text ++ more ≡ replies plant state lines)
front_of_replies plant state lines zero text none ends = (replies plant state lines, refl)
front_of_replies plant state [] (suc n) text none ends = ([], refl)
front_of_replies plant state (line ∷ lines) (suc n) text none (goes_on {next} {reply} {rest} step more joined) =
    let later : NoneTold plant next lines = subst (λ (s : SessionState). NoneTold plant s lines) (sym step.goes) (none_later plant state line lines none) in
    let others = front_of_replies plant next lines n rest later more in (
      others.0,
      ap (λ (t : List ℕ). t ++ others.0) joined ∙ append_assoc reply rest others.0
          ∙ ap₂ (λ (a b : List ℕ). a ++ b) (only_step plant state line lines none next reply step) (others.1 ∙ ap (λ (s : SessionState). replies plant s lines) step.goes),
    )

pub front_of_transcript : (plant : Plant) (state : SessionState) (lines : List (List ℕ)) (n : ℕ) (text : List ℕ) (before after : Option (List ℕ)) → NoneTold plant state lines
    → IsTranscriptFrom plant state (take n lines) text → AddsFront text before after → AddsFront (replies plant state lines) before after
front_of_transcript plant state lines n text before after none is front =
    let whole = front_of_replies plant state lines n text none is in
    subst (λ (t : List ℕ). AddsFront t before after) whole.1 (longer_front text whole.0 before after front)
