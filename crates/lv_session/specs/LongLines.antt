-- A session gives all lines that are too long the same reply, and once it has ended none.
use Rattle.std.proofs.Common.{◌≡◌, ℕ, ◌<◌, Bool, true, cond, List, [], length, Err, refl, sym, ◌∙◌, ap, subst}
use Rattle.std.proofs.lemmas.Bool.{lt-ltb}
use Rattle.lv_base.specs.declared.limits.TheConstants.{LINE_BYTES}
use Rattle.lv_text.specs.Tokens.{long_line, all_tokens}
use Rattle.lv_text.specs.Lexemes.{line_reading, reading_by, is_too_long}
use Rattle.lv_model.specs.declared.plant.Plant.{Plant}
use Rattle.lv_session_state.specs.lv_model_names.Lists.{lists_of}
use Rattle.lv_reply.specs.declared.reply.Refusal.TheVariants.{LineTooLong}
use Rattle.lv_reply.specs.declared.reply.Reply.TheVariants.{Nothing as Silence}
use Rattle.lv_session_state.specs.lv_session_request.Requests.{request_of, asked_by}
use Rattle.lv_session_state.specs.State.{SessionState, Stepped, unchanged}
use Rattle.lv_session.specs.Session.{RunningSession, answered, stepped}
use Rattle.lv_session.specs.Certificates.{IsTextOf}
use Rattle.lv_session.specs.Answering.{next_at, SaysAt, has_quit}

long_reading : (line : List ℕ) → LINE_BYTES < length line → line_reading line ≡ is_too_long
long_reading line long = ap (λ (c : Bool). reading_by line (cond c long_line (all_tokens line))) (lt-ltb LINE_BYTES (length line) long)

long_request : (plant : Plant) (line : List ℕ) → LINE_BYTES < length line → request_of plant line ≡ Err LineTooLong
unfolding request_of
long_request plant line long = ap (asked_by plant (lists_of plant)) (long_reading line long)

same_long : (plant : Plant) (state : SessionState) (a b : List ℕ) → LINE_BYTES < length a → LINE_BYTES < length b
    → stepped plant state a ≡ stepped plant state b
same_long plant state a b long_a long_b =
    ap (λ r. cond state.is_ended (unchanged state Silence) (answered plant state r)) (long_request plant a long_a ∙ sym (long_request plant b long_b))

pub long_next : (s : RunningSession) (a b : List ℕ) → LINE_BYTES < length a → LINE_BYTES < length b → next_at s a ≡ next_at s b
long_next s a b long_a long_b = ap (λ (t : Stepped). record s { state = t.state }) (same_long s.plant s.state a b long_a long_b)

pub long_says : (s : RunningSession) (a b text : List ℕ) → LINE_BYTES < length a → LINE_BYTES < length b → SaysAt s a text → SaysAt s b text
long_says s a b text long_a long_b says =
    subst (λ (t : Stepped). IsTextOf s.plant t.state t.reply text) (same_long s.plant s.state a b long_a long_b) says

nothing_done : (plant : Plant) (state : SessionState) (line : List ℕ) → state.is_ended ≡ true → stepped plant state line ≡ unchanged state Silence
nothing_done plant state line is = ap (λ (c : Bool). cond c (unchanged state Silence) (answered plant state (request_of plant line))) is

pub quit_stays : (s : RunningSession) (line : List ℕ) → has_quit s ≡ true → next_at s line ≡ s
quit_stays s line is = ap (λ (t : Stepped). record s { state = t.state }) (nothing_done s.plant s.state line is)

pub quit_silent : (s : RunningSession) (line : List ℕ) → has_quit s ≡ true → SaysAt s line []
quit_silent s line is = subst (λ (t : Stepped). IsTextOf s.plant t.state t.reply []) (sym (nothing_done s.plant s.state line is)) refl
