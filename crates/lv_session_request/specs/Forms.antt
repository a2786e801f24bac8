-- The forms of lines, by their tokens. The first token is the word that a line begins with.
use Rattle.std.specs.Prelude.{ℕ, ◌≤◌, Bool, true, false, ◌&&◌, ◌||◌, nat_eq, nat_le, List, length, Option, Some, None, if◌then◌else◌, codes, Result, Ok, Err}
use Rattle.std.specs.Option.{option_and_then, option_map_or}
use Rattle.lv_base.specs.Names.{is_named}
use Rattle.lv_text.specs.declared.lexer.TokenKind.{TokenKind}
use Rattle.lv_text.specs.declared.lexer.TokenKind.TheVariants.{Dot, Equals}
use Rattle.lv_text.specs.Lexemes.{Lexeme, is_number, kind_at, word_at, number_at, says}
use Rattle.lv_reply.specs.declared.reply.Refusal.{Refusal}
use Rattle.lv_reply.specs.declared.reply.Refusal.TheVariants.{Form, OutOfLimits}
use Rattle.lv_session_request.specs.declared.words.Word.{Word}
use Rattle.lv_session_request.specs.declared.words.Word.TheVariants.{Track, Budget, Command, Release, Observe, Retract, Goal, Drop, Diagnose, Recover, More, Commit, Conflicts, Certificate, Labels, States, Reset, Quit, Probe, Test, Window}

-- the word that a line begins with
abbrev pub first_word : List Lexeme → Option Word
first_word line =
    if says (codes "track") line 0 then Some Track
    else (if says (codes "budget") line 0 then Some Budget
    else (if says (codes "command") line 0 then Some Command
    else (if says (codes "release") line 0 then Some Release
    else (if says (codes "observe") line 0 then Some Observe
    else (if says (codes "retract") line 0 then Some Retract
    else (if says (codes "goal") line 0 then Some Goal
    else (if says (codes "drop") line 0 then Some Drop
    else (if says (codes "diagnose") line 0 then Some Diagnose
    else (if says (codes "recover") line 0 then Some Recover
    else (if says (codes "more") line 0 then Some More
    else (if says (codes "commit") line 0 then Some Commit
    else (if says (codes "conflicts") line 0 then Some Conflicts
    else (if says (codes "certificate") line 0 then Some Certificate
    else (if says (codes "labels") line 0 then Some Labels
    else (if says (codes "states") line 0 then Some States
    else (if says (codes "reset") line 0 then Some Reset
    else (if says (codes "quit") line 0 then Some Quit
    else (if says (codes "probe") line 0 then Some Probe
    else (if says (codes "test") line 0 then Some Test
    else (if says (codes "window") line 0 then Some Window
    else None))))))))))))))))))))

abbrev pub is_dot : TokenKind → Bool
is_dot Dot = true
is_dot kind = false

abbrev pub is_equals : TokenKind → Bool
is_equals Equals = true
is_equals kind = false

-- the token at a place has such a kind
abbrev pub has_kind : (TokenKind → Bool) → List Lexeme → ℕ → Bool
has_kind test line place = option_map_or test (kind_at line place) false

-- as many tokens, and the signs, of `WORD NUMBER`
abbrev pub has_number_form : List Lexeme → Bool
has_number_form line = nat_eq (length line) 2 && has_kind is_number line 1

-- of `WORD NUMBER distinct`
abbrev pub has_distinct_form : List Lexeme → Bool
has_distinct_form line = nat_eq (length line) 3 && (has_kind is_number line 1 && says (codes "distinct") line 2)

-- of `retract NAME at S`
abbrev pub has_at_form : List Lexeme → Bool
has_at_form line = nat_eq (length line) 4 && (says (codes "at") line 2 && has_kind is_number line 3)

-- of `command P.C = V`
abbrev pub has_command_signs : List Lexeme → Bool
has_command_signs line = nat_eq (length line) 6 && (has_kind is_dot line 2 && has_kind is_equals line 4)

-- of `release P.C`, and of `test P.O`
abbrev pub has_release_signs : List Lexeme → Bool
has_release_signs line = nat_eq (length line) 4 && has_kind is_dot line 2

-- of `observe NAME P.O = V`
abbrev pub has_observe_signs : List Lexeme → Bool
has_observe_signs line = nat_eq (length line) 7 && (has_kind is_dot line 3 && has_kind is_equals line 5)

-- a word that stands for something else wherever it is
abbrev pub is_reserved : List ℕ → Bool
is_reserved word = (is_named (codes "true") word || is_named (codes "false") word) || is_named (codes "mode") word

abbrev pub unless_reserved : List ℕ → Option (List ℕ)
unless_reserved word = if is_reserved word then None else Some word

-- the word at a place, as the name of an observation or a goal
abbrev pub name_at : List Lexeme → ℕ → Option (List ℕ)
name_at line place = option_and_then unless_reserved (word_at line place)

-- a number from 1 up to a limit
pub record IsUpTo (most n : ℕ) : Type 0 where
  pub some : 1 ≤ n
  pub few : n ≤ most

abbrev pub from_1_to : ℕ → ℕ → Result ℕ Refusal
from_1_to most n = if nat_le 1 n && nat_le n most then Ok n else Err OutOfLimits

-- the number behind the word of a line; one that is too great for its value to be known is out of each limit
abbrev pub limited : ℕ → List Lexeme → Result ℕ Refusal
limited most line = option_map_or (from_1_to most) (number_at line 1) (Err OutOfLimits)

-- the number of `WORD NUMBER`
abbrev pub number_to : ℕ → List Lexeme → Result ℕ Refusal
number_to most line = if has_number_form line then limited most line else Err Form
