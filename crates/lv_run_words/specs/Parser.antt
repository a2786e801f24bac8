-- The command line that `clap` is asked to read: the commands, each over its values.
use Rattle.std.specs.Option.{option_map_or}
use Rattle.std.specs.Prelude.{◌≡◌, ℕ, Bool, true, false, ◌||◌, find, pos, List, [], ◌∷◌, codes, Option, None, Some}
use Rattle.clap.specs.declared.error.kind.ErrorKind.{ErrorKind}
use Rattle.clap.specs.declared.error.kind.ErrorKind.TheVariants.{OutOfMemory}
use Rattle.lv_run_words.specs.declared.WordsFault.{WordsFault}
use Rattle.lv_run_words.specs.declared.WordsFault.TheVariants.{Refused, Memory}
use Rattle.lv_run_words.specs.Words.{is_word, is_dashes, command_of, said_of}
use Rattle.clap.specs.ValueTests.{accepts}
use Rattle.clap.specs.declared.builder.arg.Arg.{Arg}
use Rattle.clap.specs.declared.builder.command.Command.{Command}
use Rattle.clap.specs.declared.builder.command.Command.TheViews.{out-Command}
use Rattle.clap.specs.declared.builder.value_parser.ValueParser.TheVariants as parsers
use Rattle.clap.specs.Words.{App, Row, Rule, Text, app_of, rule_of, first_of, new_app, new_rule, with_rule, with_subcommand}
use Rattle.clap.specs.declared.builder.value_parser.ValueParser.{ValueParser}

-- a value that has to be there, and what it has to be
abbrev pub value_rule : Text → Option ValueParser → Rule
value_rule id parser = record (new_rule id) { required = true; parser = parser }

-- a command over two values, and over one
abbrev pub over_two : Text → Option ValueParser → Option ValueParser → App
over_two name p q = with_rule (with_rule (new_app name) (value_rule (codes "first") p)) (value_rule (codes "second") q)

abbrev pub over_one : Text → Option ValueParser → App
over_one name p = with_rule (new_app name) (value_rule (codes "first") p)

-- a `-` that stands alone
abbrev pub is_lone : List ℕ → Bool
is_lone = is_word (codes "-")

-- a `-` stands alone before the first `--` among things that are words: `clap` takes it for a value
abbrev pub has_lone_by : {X : Type 0} → (X → List ℕ) → List X → Bool
has_lone_by word xs = option_map_or (λ x. is_lone (word x)) (find (λ x. is_lone (word x) || is_dashes (word x)) xs) false

abbrev pub has_lone : List (List ℕ) → Bool
has_lone = has_lone_by (λ word. word)

-- no help, and one of the commands has to be there
abbrev pub no_commands : App
no_commands =
    let app = new_app (codes "livingstone") in
    record app { top = record app.top { disable_help_flag = true; disable_help_subcommand = true; subcommand_required = true } }

-- what the number of a generated text has to be
abbrev pub number_parser : ValueParser
number_parser = parsers.Signed (pos 1) (pos 1000000)

-- what its kind has to be is one of the two words
pub record IsKindParser (parser : ValueParser) : Type 0 where
  pub tells : (word : List ℕ) → accepts false parser word ≡ (is_word (codes "model") word || is_word (codes "session") word)

-- an argument has this rule, and is of its command alone
pub record IsArg (rule : Rule) (arg : Arg) : Type 0 where
  pub rule_is : rule_of arg ≡ rule
  pub local : arg.global ≡ false

-- the same of the kind of a generated text
pub record IsKindArg (id : Text) (arg : Arg) : Type 0 where
  pub parser : ValueParser
  pub is_kind : IsKindParser parser
  pub is : IsArg (value_rule id (Some parser)) arg

-- a command is this one, and none of its arguments is of the commands below it too
pub record IsCommand (app : App) (command : Command) : Type 0 where
  pub app_is : app_of command ≡ app
  pub local : (out-Command command).has_globals ≡ false

pub record IsGenerate (command : Command) : Type 0 where
  pub kind : ValueParser
  pub is_kind : IsKindParser kind
  pub is : IsCommand (over_two (codes "generate") (Some kind) (Some number_parser)) command

-- the whole, by what the kind and the number of a generated text have to be
abbrev pub livingstone : Option ValueParser → Option ValueParser → App
livingstone kind number =
    with_subcommand (with_subcommand (with_subcommand (with_subcommand (with_subcommand (with_subcommand (with_subcommand no_commands
    (over_two (codes "run") None None).top)
    (over_two (codes "lanes") None None).top)
    (over_two (codes "plant") None None).top)
    (over_two (codes "check") None None).top)
    (over_one (codes "print") None).top)
    (over_one (codes "drive") number).top)
    (over_two (codes "generate") kind number).top

pub record IsLivingstone (command : Command) : Type 0 where
  pub kind : ValueParser
  pub is_kind : IsKindParser kind
  pub app_is : app_of command ≡ livingstone (Some kind) (Some number_parser)

-- the values that were read
abbrev pub values_by : Option Text → Option Text → List Text
values_by None second = []
values_by (Some a) None = a ∷ []
values_by (Some a) (Some b) = a ∷ b ∷ []

abbrev pub values_in : List Row → List Text
values_in rows = values_by (first_of (codes "first") rows) (first_of (codes "second") rows)

-- a command was read, and with its values says what the words do
pub record IsReadOff (words : List Text) (found : Option (Text × List Row)) : Type 0 where
  pub name : Text
  pub rows : List Row
  pub found_is : found ≡ Some (name, rows)
  pub said : command_of words ≡ said_of name (values_in rows)

-- what a failure of `clap` comes to
abbrev pub fault_by : ErrorKind → WordsFault
fault_by OutOfMemory = Memory
fault_by kind = Refused
