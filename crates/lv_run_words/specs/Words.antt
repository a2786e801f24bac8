-- Which words the program accepts, and what they say.
use Rattle.std.specs.Prelude.{ℕ, suc, Bool, true, List, [], ◌∷◌, ◌++◌, take, drop, position, Option, None, Some, not, nat_eq, codes, option_and_then, option_map, if◌then◌else◌}
use Rattle.std.specs.List.{list_all}
use Rattle.std.specs.Cmp.Lexicographic.{pointwise}
use Rattle.lv_run_words.specs.Numbers.{number_of}
use Rattle.lv_run_words.specs.declared.commands.Kind.{Kind}
use Rattle.lv_run_words.specs.declared.commands.Kind.TheVariants.{Model, Session}
use Rattle.lv_run_words.specs.declared.commands.Service.{Service}
use Rattle.lv_run_words.specs.declared.commands.Service.TheVariants.{Single, Lanes, Simulation}

-- a command with its values: what serves a file of lines and the names of files, or the kind and the number of a generated text
pub data Said : Type 0 where
  runs : Service → List ℕ → List ℕ → Said
  checks : List ℕ → List ℕ → Said
  prints : List ℕ → Said
  generates : Kind → ℕ → Said
  drives : ℕ → Said

-- the word doesn't begin with `-`
abbrev pub is_plain : List ℕ → Bool
is_plain [] = true
is_plain (b ∷ more) = not (nat_eq b 45)

-- the word is this one
abbrev pub is_word : List ℕ → List ℕ → Bool
is_word name word = pointwise nat_eq word name

-- the word is `--`
abbrev pub is_dashes : List ℕ → Bool
is_dashes = is_word (codes "--")

-- the values among words whose first `--` stands there, if one does: no word before it may begin with `-`, and it is
-- taken out
abbrev pub names_by : List (List ℕ) → Option ℕ → Option (List (List ℕ))
names_by words None = if list_all is_plain words then Some words else None
names_by words (Some at) = if list_all is_plain (take at words) then Some (take at words ++ drop (suc at) words) else None

-- the values among the words behind the command
abbrev pub names_of : List (List ℕ) → Option (List (List ℕ))
names_of words = names_by words (position is_dashes words)

-- the kind of text that a word names
abbrev pub kind_of : List ℕ → Option Kind
kind_of word = if is_word (codes "model") word then Some Model else if is_word (codes "session") word then Some Session else None

-- what `generate` says of a kind and a number
abbrev pub made_of : List ℕ → List ℕ → Option Said
made_of kind number = option_and_then (λ k. option_map (generates k) (number_of number)) (kind_of kind)

-- what `drive` says of a number
abbrev pub driven_of : List ℕ → Option Said
driven_of number = option_map drives (number_of number)

-- what a command says of two values, and of one
abbrev pub said_of_two : List ℕ → List ℕ → List ℕ → Option Said
said_of_two command first second =
    if is_word (codes "run") command then Some (runs Single first second)
    else if is_word (codes "check") command then Some (checks first second)
    else if is_word (codes "generate") command then made_of first second
    else if is_word (codes "lanes") command then Some (runs Lanes first second)
    else if is_word (codes "plant") command then Some (runs Simulation first second) else None

abbrev pub said_of_one : List ℕ → List ℕ → Option Said
said_of_one command first =
    if is_word (codes "print") command then Some (prints first) else if is_word (codes "drive") command then driven_of first else None

-- what a command says of its values
abbrev pub said_of : List ℕ → List (List ℕ) → Option Said
said_of command (first ∷ second ∷ []) = said_of_two command first second
said_of command (first ∷ []) = said_of_one command first
said_of command _ = None

-- what the words say, the program's own name first and the command behind it
abbrev pub command_of : List (List ℕ) → Option Said
command_of (program ∷ command ∷ rest) = option_and_then (said_of command) (names_of rest)
command_of _ = None
