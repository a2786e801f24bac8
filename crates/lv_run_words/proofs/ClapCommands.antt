-- What `clap` makes of all words, and what they say.
use Rattle.std.proofs.Common.{◌≡◌, ℕ, Bool, true, false, cond, ◌&&◌, ◌||◌, List, [], ◌∷◌, ◌++◌, codes, Option, None, Some, drop, refl, sym, ◌∙◌, ap, ap₂, subst, append_assoc, ◌⊎◌, inl, inr}
use Rattle.std.proofs.lemmas.List.{append-nil}
use Rattle.std.specs.List.{list_all}
use Rattle.std.specs.Option.{option_map_or}
use Rattle.std.specs.Cmp.Lexicographic.{bytes_decides}
use Rattle.std.specs.Str.{bytes_eq}
use Rattle.std.specs.Prelude.{fold, find, is_some, option_and_then, option_map}
use Rattle.clap.specs.Words.{App, Text, Row, fault_of, subcommand_of}
use Rattle.clap.specs.Simple.{Shape, built, entered, is_simple, names_of as names_below}
use Rattle.clap.specs.Walk.{Walk, Names, arg_by_long, arg_by_short, subcommand_met, idle, walk_from, walked, settled, finished, nothing_held}
use Rattle.clap.specs.Kinds.{Kinds, IsAmong, or_else}
use Rattle.clap.specs.ValueTests.{accepts}
use Rattle.clap.specs.Faults.{is_simple_and_free, turn_fault, walk_fault, settle_fault, defaults_fault, check_fault, entered_fault}
use Rattle.clap.specs.declared.builder.value_parser.ValueParser.{ValueParser}
use Rattle.clap.specs.declared.error.kind.ErrorKind.{ErrorKind}
use Rattle.clap.specs.declared.error.kind.ErrorKind.TheVariants as kind_told
use Rattle.clap.proofs.OnLiterals.{clap_on_literals}
use Rattle.lv_run_words.specs.Words.{Said, is_word, names_of, kind_of, said_of, command_of, made_of, generates, drives, is_dashes, is_plain}
use Rattle.lv_run_words.specs.declared.commands.Kind.{Kind}
use Rattle.lv_run_words.specs.Numbers.{number_of}
use Rattle.lv_run_words.specs.declared.commands.Kind.TheVariants.{Model, Session}
use Rattle.lv_run_words.specs.declared.WordsFault.TheVariants.{Refused}
use Rattle.lv_run_words.specs.Parser.{fault_by, livingstone, number_parser, is_lone, has_lone, values_by, values_in, IsKindParser, IsReadOff}
use Rattle.lv_run_words.proofs.Among.{values_among, names_among}
use Rattle.lv_run_words.proofs.NumberTests.{number_none}
use Rattle.lv_run_words.proofs.ClapWords.{has_flag, value_turn, dashes_turn, flag_told, told_turn}
use Rattle.lv_run_words.proofs.ClapWalk.{both_true, lone_parts, faults, all_rows, passes, two, two_of, TwoRead, two_read, one, one_of, OneRead, one_read}

-- ---- behind a command's name

module _ (s : Shape) (names : Names) (w : Walk) (name : Text) where
  abbrev at_name : List Text → Walk
  at_name words = record w { stopped = Some (name, words) }

  name_fault : (before words : List Text) → walk_fault s names (at_name before) words ≡ []
  unfolding clap_on_literals
  name_fault before [] = refl
  name_fault before (word ∷ words) = name_fault (before ++ word ∷ []) words

  name_walk : (before words : List Text) → fold (walked s.rules names) (at_name before) words ≡ at_name (before ++ words)
  unfolding clap_on_literals
  name_walk before [] = ap at_name (sym (append-nil before))
  name_walk before (word ∷ words) = name_walk (before ++ word ∷ []) words ∙ ap at_name (append_assoc before (word ∷ []) words)

module _ (k m : Option ValueParser) where
  abbrev pub app : App
  app = livingstone k m

  abbrev top : Shape
  top = (built app).top

  abbrev below_top : Names
  below_top = names_below (built app)

  abbrev start : Walk
  start = walk_from nothing_held

  -- what is told at the end of a walk
  abbrev told_by : Kinds → Walk → Kinds
  told_by ks w =
      or_else ks (or_else (entered_fault (built app) w.stopped) (or_else (settle_fault top.rules top.args_override_self w.held)
      (or_else (defaults_fault (settled top.rules w.held).rows top.rules) (check_fault top (finished top.rules w.held) (is_some (entered (built app) w.stopped))))))

  run_told : (program : Text) (words : List Text) → fault_of app (program ∷ codes "run" ∷ words) ≡ or_else (faults (two (codes "run") None None) start words) []
  unfolding clap_on_literals
  run_told program words = ap₂ told_by (name_fault top below_top start (codes "run") [] words) (name_walk top below_top start (codes "run") [] words)

  run_entered : (program : Text) (words : List Text) → subcommand_of app (program ∷ codes "run" ∷ words) ≡ Some (codes "run", all_rows (two (codes "run") None None) start words)
  unfolding clap_on_literals
  run_entered program words = ap (λ (w : Walk). entered (built app) w.stopped) (name_walk top below_top start (codes "run") [] words)

  lanes_told : (program : Text) (words : List Text) → fault_of app (program ∷ codes "lanes" ∷ words) ≡ or_else (faults (two (codes "lanes") None None) start words) []
  unfolding clap_on_literals
  lanes_told program words = ap₂ told_by (name_fault top below_top start (codes "lanes") [] words) (name_walk top below_top start (codes "lanes") [] words)

  lanes_entered : (program : Text) (words : List Text) → subcommand_of app (program ∷ codes "lanes" ∷ words) ≡ Some (codes "lanes", all_rows (two (codes "lanes") None None) start words)
  unfolding clap_on_literals
  lanes_entered program words = ap (λ (w : Walk). entered (built app) w.stopped) (name_walk top below_top start (codes "lanes") [] words)

  plant_told : (program : Text) (words : List Text) → fault_of app (program ∷ codes "plant" ∷ words) ≡ or_else (faults (two (codes "plant") None None) start words) []
  unfolding clap_on_literals
  plant_told program words = ap₂ told_by (name_fault top below_top start (codes "plant") [] words) (name_walk top below_top start (codes "plant") [] words)

  plant_entered : (program : Text) (words : List Text) → subcommand_of app (program ∷ codes "plant" ∷ words) ≡ Some (codes "plant", all_rows (two (codes "plant") None None) start words)
  unfolding clap_on_literals
  plant_entered program words = ap (λ (w : Walk). entered (built app) w.stopped) (name_walk top below_top start (codes "plant") [] words)

  check_told : (program : Text) (words : List Text) → fault_of app (program ∷ codes "check" ∷ words) ≡ or_else (faults (two (codes "check") None None) start words) []
  unfolding clap_on_literals
  check_told program words = ap₂ told_by (name_fault top below_top start (codes "check") [] words) (name_walk top below_top start (codes "check") [] words)

  check_entered : (program : Text) (words : List Text) → subcommand_of app (program ∷ codes "check" ∷ words) ≡ Some (codes "check", all_rows (two (codes "check") None None) start words)
  unfolding clap_on_literals
  check_entered program words = ap (λ (w : Walk). entered (built app) w.stopped) (name_walk top below_top start (codes "check") [] words)

  print_told : (program : Text) (words : List Text) → fault_of app (program ∷ codes "print" ∷ words) ≡ or_else (faults (one (codes "print") None) start words) []
  unfolding clap_on_literals
  print_told program words = ap₂ told_by (name_fault top below_top start (codes "print") [] words) (name_walk top below_top start (codes "print") [] words)

  print_entered : (program : Text) (words : List Text) → subcommand_of app (program ∷ codes "print" ∷ words) ≡ Some (codes "print", all_rows (one (codes "print") None) start words)
  unfolding clap_on_literals
  print_entered program words = ap (λ (w : Walk). entered (built app) w.stopped) (name_walk top below_top start (codes "print") [] words)

  generate_told : (program : Text) (words : List Text) → fault_of app (program ∷ codes "generate" ∷ words) ≡ or_else (faults (two (codes "generate") k m) start words) []
  unfolding clap_on_literals
  generate_told program words = ap₂ told_by (name_fault top below_top start (codes "generate") [] words) (name_walk top below_top start (codes "generate") [] words)

  generate_entered : (program : Text) (words : List Text) → subcommand_of app (program ∷ codes "generate" ∷ words) ≡ Some (codes "generate", all_rows (two (codes "generate") k m) start words)
  unfolding clap_on_literals
  generate_entered program words = ap (λ (w : Walk). entered (built app) w.stopped) (name_walk top below_top start (codes "generate") [] words)

  drive_told : (program : Text) (words : List Text) → fault_of app (program ∷ codes "drive" ∷ words) ≡ or_else (faults (one (codes "drive") m) start words) []
  unfolding clap_on_literals
  drive_told program words = ap₂ told_by (name_fault top below_top start (codes "drive") [] words) (name_walk top below_top start (codes "drive") [] words)

  drive_entered : (program : Text) (words : List Text) → subcommand_of app (program ∷ codes "drive" ∷ words) ≡ Some (codes "drive", all_rows (one (codes "drive") m) start words)
  unfolding clap_on_literals
  drive_entered program words = ap (λ (w : Walk). entered (built app) w.stopped) (name_walk top below_top start (codes "drive") [] words)

  -- ---- without a command's name

  no_command : (program : Text) → fault_of app (program ∷ []) ≡ kind_told.MissingSubcommand ∷ []
  unfolding clap_on_literals
  no_command program = refl

  no_program : fault_of app [] ≡ kind_told.MissingSubcommand ∷ []
  unfolding clap_on_literals
  no_program = refl

  abbrev others_told : Text → List Text → Kinds
  others_told word words = walk_fault top below_top (walked top.rules below_top start word) words

  abbrev at_end : Text → List Text → Walk
  at_end word words = fold (walked top.rules below_top) (walked top.rules below_top start word) words

  -- what is told of the first word, and then of the others
  first_told : (program word : Text) (words : List Text)
      → fault_of app (program ∷ word ∷ words) ≡ told_by (or_else (turn_fault top below_top start word) (others_told word words)) (at_end word words)
  unfolding walk_fault
  first_told program word words = refl

  told_at_once : (t : Kinds) (w : Walk) (ks more : Kinds) (e : ErrorKind) → t ≡ e ∷ ks → told_by (or_else t more) w ≡ [] → ⊥
  told_at_once t w ks more e is none =
      let first : told_by (or_else (e ∷ ks) more) w ≡ [] = subst (λ (x : Kinds). told_by (or_else x more) w ≡ []) is none in
      absurd (cc first)

  -- behind a `--` there is no command
  behind_dashes : (words : List Text) → told_by (walk_fault top below_top (record start { is_trailing = true }) words) (fold (walked top.rules below_top) (record start { is_trailing = true }) words) ≡ [] → ⊥
  unfolding clap_on_literals
  behind_dashes [] none = cc none
  behind_dashes (word ∷ words) none = cc none

  top_long : (n : Text) → arg_by_long top.rules n ≡ None
  top_long n = refl

  top_short : (c : ℕ) → arg_by_short top.rules c ≡ None
  top_short c = refl

  pub other_told : (program word : Text) (words : List Text) → subcommand_met below_top idle word ≡ None
      → has_lone (word ∷ words) ≡ false → has_flag word ≡ true → fault_of app (program ∷ word ∷ words) ≡ [] → ⊥
  other_told program word words named lone flag none = by (is_dashes word) (is_plain word) refl refl
    where
      so : told_by (or_else (turn_fault top below_top start word) (others_told word words)) (at_end word words) ≡ []
      so = sym (first_told program word words) ∙ none

      by : (d e : Bool) → is_dashes word ≡ d → is_plain word ≡ e → ⊥
      by true e is plain =
          let turn = dashes_turn top below_top nothing_held 1 word named is in
          behind_dashes words (sym (ap₂ (λ (t : Kinds) (w : Walk). told_by (or_else t (walk_fault top below_top w words)) (fold (walked top.rules below_top) w words)) turn.0 turn.1) ∙ so)
      by false true is plain =
          let turn = value_turn top below_top nothing_held 1 word named plain in
          told_at_once (turn_fault top below_top start word) (at_end word words) (kind_told.InvalidSubcommand ∷ []) (others_told word words) kind_told.UnknownArgument turn.0 so
      by false false is plain =
          let told = flag_told top top_long top_short nothing_held word refl plain is (lone_parts word words is lone).0 flag in
          told_at_once (turn_fault top below_top start word) (at_end word words) [] (others_told word words) kind_told.UnknownArgument (told_turn top below_top nothing_held 1 word named (kind_told.UnknownArgument ∷ []) told) so

-- ---- what is read is what the words say

-- nothing is told, and what was read is what the words say; or something is told, and they say nothing
pub data Judged (told : Kinds) (found : Option (Text × List Row)) (said : Option Said) : Type 0 where
  was_read : (name : Text) (rows : List Row) → told ≡ [] → found ≡ Some (name, rows) → said ≡ said_of name (values_in rows) → Judged told found said
  not_read : (told ≡ [] → ⊥) → said ≡ None → Judged told found said

or_else_first : (a b : Kinds) → or_else a b ≡ [] → a ≡ []
or_else_first [] b none = refl
or_else_first (k ∷ ks) b none = absurd (cc none)

module _ (name : Text) (told ks : Kinds) (found : Option (Text × List Row)) (rows : List Row)
    (is : told ≡ or_else ks []) (entered_is : found ≡ Some (name, rows)) where
  judged_two : (p q : Option ValueParser) (among : Option (List Text)) → TwoRead ks rows (two_of p q among)
      → said_of name [] ≡ None → ((a : Text) → said_of name (a ∷ []) ≡ None) → ((a b : Text) → (passes p a && passes q b) ≡ false → said_of name (a ∷ b ∷ []) ≡ None)
      → Judged told found (option_and_then (said_of name) among)
  judged_two p q None read none for_one for_two = not_read (λ t. read (or_else_first ks [] (sym is ∙ t))) refl
  judged_two p q (Some []) read none for_one for_two = not_read (λ t. read (or_else_first ks [] (sym is ∙ t))) none
  judged_two p q (Some (a ∷ [])) read none for_one for_two = not_read (λ t. read (or_else_first ks [] (sym is ∙ t))) (for_one a)
  judged_two p q (Some (a ∷ b ∷ c ∷ more)) read none for_one for_two = not_read (λ t. read (or_else_first ks [] (sym is ∙ t))) refl
  judged_two p q (Some (a ∷ b ∷ [])) read none for_one for_two = by (passes p a && passes q b) refl read
    where
      by : (c : Bool) → (passes p a && passes q b) ≡ c → TwoRead ks rows (cond c (Some (a, b)) None) → Judged told found (said_of name (a ∷ b ∷ []))
      by true ok read =
          was_read name rows (is ∙ ap (λ (x : Kinds). or_else x []) read.0) entered_is
          (ap (said_of name) (sym (ap₂ values_by read.1 read.2)))
      by false bad read = not_read (λ t. read (or_else_first ks [] (sym is ∙ t))) (for_two a b bad)

  judged_one : (p : Option ValueParser) (among : Option (List Text)) → OneRead ks rows (one_of p among)
      → said_of name [] ≡ None → ((a b : Text) → said_of name (a ∷ b ∷ []) ≡ None) → ((a : Text) → passes p a ≡ false → said_of name (a ∷ []) ≡ None)
      → Judged told found (option_and_then (said_of name) among)
  judged_one p None read none for_two for_one = not_read (λ t. read (or_else_first ks [] (sym is ∙ t))) refl
  judged_one p (Some []) read none for_two for_one = not_read (λ t. read (or_else_first ks [] (sym is ∙ t))) none
  judged_one p (Some (a ∷ b ∷ [])) read none for_two for_one = not_read (λ t. read (or_else_first ks [] (sym is ∙ t))) (for_two a b)
  judged_one p (Some (a ∷ b ∷ c ∷ more)) read none for_two for_one = not_read (λ t. read (or_else_first ks [] (sym is ∙ t))) refl
  judged_one p (Some (a ∷ [])) read none for_two for_one = by (passes p a) refl read
    where
      by : (c : Bool) → passes p a ≡ c → OneRead ks rows (cond c (Some a) None) → Judged told found (said_of name (a ∷ []))
      by true ok read =
          was_read name rows (is ∙ ap (λ (x : Kinds). or_else x []) read.0) entered_is
          (ap (said_of name) (sym (ap₂ values_by read.1 read.2)))
      by false bad read = not_read (λ t. read (or_else_first ks [] (sym is ∙ t))) (for_one a bad)

-- what the kind and the number of a generated text have to be
pub record AreTests (k m : Option ValueParser) : Type 0 where
  pub kind : (word : Text) → passes k word ≡ false → kind_of word ≡ None
  pub number : (word : Text) → passes m word ≡ false → number_of word ≡ None

is_not_named : (name word : Text) → is_word name word ≡ false → bytes_eq name word ≡ false
is_not_named name word apart = by (bytes_eq name word) refl
  where
    by : (e : Bool) → bytes_eq name word ≡ e → e ≡ false
    by false e = refl
    by true e = sym ((bytes_decides word name).1 (sym ((bytes_decides name word).0 e))) ∙ apart

named : (name word : Text) → is_word name word ≡ true → word ≡ name
named name word is = (bytes_decides word name).0 is

module _ (k m : Option ValueParser) (tests : AreTests k m) (program : Text) (words : List Text) where
  abbrev JudgedAs : Text → Type 0
  JudgedAs command = Judged (fault_of (app k m) (program ∷ command ∷ words)) (subcommand_of (app k m) (program ∷ command ∷ words)) (option_and_then (said_of command) (values_among words))

  made_none : (a b : Text) → (passes k a && passes m b) ≡ false → made_of a b ≡ None
  made_none a b bad = by (passes k a) refl bad
    where
      none : (o : Option Kind) → option_and_then (λ (t : Kind). option_map (generates t) None) o ≡ None
      none None = refl
      none (Some t) = refl

      by : (c : Bool) → passes k a ≡ c → (c && passes m b) ≡ false → made_of a b ≡ None
      by true is bad =
          ap (λ (n : Option ℕ). option_and_then (λ (t : Kind). option_map (generates t) n) (kind_of a)) (tests.number b bad) ∙ none (kind_of a)
      by false is bad = ap (λ (o : Option Kind). option_and_then (λ (t : Kind). option_map (generates t) (number_of b)) o) (tests.kind a is)

  module _ (lone : has_lone words ≡ false) (flags : list_all has_flag words ≡ true) where
    two_judged : (name : Text) (p q : Option ValueParser) → fault_of (app k m) (program ∷ name ∷ words) ≡ or_else (faults (two name p q) (walk_from nothing_held) words) []
        → subcommand_of (app k m) (program ∷ name ∷ words) ≡ Some (name, all_rows (two name p q) (walk_from nothing_held) words)
        → ((a : Text) → said_of name (a ∷ []) ≡ None) → ((a b : Text) → (passes p a && passes q b) ≡ false → said_of name (a ∷ b ∷ []) ≡ None)
        → JudgedAs name
    two_judged name p q told entered_is for_one for_two =
        judged_two name (fault_of (app k m) (program ∷ name ∷ words)) (faults (two name p q) (walk_from nothing_held) words)
        (subcommand_of (app k m) (program ∷ name ∷ words)) (all_rows (two name p q) (walk_from nothing_held) words)
        told entered_is p q (values_among words) (two_read name p q words lone flags) refl for_one for_two

    one_judged : (name : Text) (p : Option ValueParser) → fault_of (app k m) (program ∷ name ∷ words) ≡ or_else (faults (one name p) (walk_from nothing_held) words) []
        → subcommand_of (app k m) (program ∷ name ∷ words) ≡ Some (name, all_rows (one name p) (walk_from nothing_held) words)
        → ((a b : Text) → said_of name (a ∷ b ∷ []) ≡ None) → ((a : Text) → passes p a ≡ false → said_of name (a ∷ []) ≡ None)
        → JudgedAs name
    one_judged name p told entered_is for_two for_one =
        judged_one name (fault_of (app k m) (program ∷ name ∷ words)) (faults (one name p) (walk_from nothing_held) words)
        (subcommand_of (app k m) (program ∷ name ∷ words)) (all_rows (one name p) (walk_from nothing_held) words)
        told entered_is p (values_among words) (one_read name p words lone flags) refl for_two for_one

    run_judged : JudgedAs (codes "run")
    run_judged = two_judged (codes "run") None None (run_told k m program words) (run_entered k m program words) (λ a. refl) (λ a b bad. absurd (cc bad))

    lanes_judged : JudgedAs (codes "lanes")
    lanes_judged = two_judged (codes "lanes") None None (lanes_told k m program words) (lanes_entered k m program words) (λ a. refl) (λ a b bad. absurd (cc bad))

    plant_judged : JudgedAs (codes "plant")
    plant_judged = two_judged (codes "plant") None None (plant_told k m program words) (plant_entered k m program words) (λ a. refl) (λ a b bad. absurd (cc bad))

    check_judged : JudgedAs (codes "check")
    check_judged = two_judged (codes "check") None None (check_told k m program words) (check_entered k m program words) (λ a. refl) (λ a b bad. absurd (cc bad))

    print_judged : JudgedAs (codes "print")
    print_judged = one_judged (codes "print") None (print_told k m program words) (print_entered k m program words) (λ a b. refl) (λ a bad. absurd (cc bad))

    generate_judged : JudgedAs (codes "generate")
    generate_judged = two_judged (codes "generate") k m (generate_told k m program words) (generate_entered k m program words) (λ a. refl) made_none

    drive_judged : JudgedAs (codes "drive")
    drive_judged = one_judged (codes "drive") m (drive_told k m program words) (drive_entered k m program words) (λ a b. refl) (λ a bad. ap (option_map drives) (tests.number a bad))

-- ---- a word that is no command's name

module _ (k m : Option ValueParser) (word : Text) (run : is_word (codes "run") word ≡ false) (lanes : is_word (codes "lanes") word ≡ false) (plant : is_word (codes "plant") word ≡ false) (check : is_word (codes "check") word ≡ false)
    (print : is_word (codes "print") word ≡ false) (generate : is_word (codes "generate") word ≡ false) (drive : is_word (codes "drive") word ≡ false) where
  met_by : Bool → Bool → Bool → Bool → Bool → Bool → Bool → Option Text
  met_by a b p c d e f =
      option_map (λ (s : Text × List Text). s.0)
      (cond (a || false) (Some (codes "run", [])) (cond (b || false) (Some (codes "lanes", [])) (cond (p || false) (Some (codes "plant", [])) (cond (c || false) (Some (codes "check", []))
      (cond (d || false) (Some (codes "print", [])) (cond (f || false) (Some (codes "drive", [])) (cond (e || false) (Some (codes "generate", [])) None)))))))

  met_none : subcommand_met (below_top k m) idle word ≡ None
  unfolding met_by
  met_none = met_is ∙ all_none
    where
      met_is : subcommand_met (below_top k m) idle word
          ≡ met_by (bytes_eq (codes "run") word) (bytes_eq (codes "lanes") word) (bytes_eq (codes "plant") word) (bytes_eq (codes "check") word) (bytes_eq (codes "print") word) (bytes_eq (codes "generate") word) (bytes_eq (codes "drive") word)
      met_is = refl

      all_none : met_by (bytes_eq (codes "run") word) (bytes_eq (codes "lanes") word) (bytes_eq (codes "plant") word) (bytes_eq (codes "check") word) (bytes_eq (codes "print") word) (bytes_eq (codes "generate") word) (bytes_eq (codes "drive") word) ≡ None
      all_none = rw (
        is_not_named (codes "run") word run,
        is_not_named (codes "lanes") word lanes,
        is_not_named (codes "plant") word plant,
        is_not_named (codes "check") word check,
        is_not_named (codes "print") word print,
        is_not_named (codes "generate") word generate,
        is_not_named (codes "drive") word drive,
      ) refl

  says_none : (values : Option (List Text)) → option_and_then (said_of word) values ≡ None
  says_none None = refl
  says_none (Some []) = refl
  says_none (Some (a ∷ [])) = rw (print, drive) refl
  says_none (Some (a ∷ b ∷ [])) = rw (run, check, generate, lanes, plant) refl
  says_none (Some (a ∷ b ∷ c ∷ more)) = refl

-- ---- all words

module _ (k m : Option ValueParser) (tests : AreTests k m) where
  by_name : (program command : Text) (words : List Text) → has_lone (command ∷ words) ≡ false → has_flag command ≡ true → list_all has_flag words ≡ true
      → JudgedAs k m tests program words command
  by_name program command words lone flag flags = run_or_not (is_word (codes "run") command) refl
    where
      -- where the command is this one
      so : (name : Text) → is_word name command ≡ true → is_dashes name ≡ false → (has_lone words ≡ false → JudgedAs k m tests program words name) → JudgedAs k m tests program words command
      so name is other judged =
          let command_is = named name command is in
          subst (JudgedAs k m tests program words) (sym command_is) (judged (lone_parts command words (ap is_dashes command_is ∙ other) lone).1)

      drive_or_not : (run : is_word (codes "run") command ≡ false) (lanes : is_word (codes "lanes") command ≡ false) (plant : is_word (codes "plant") command ≡ false) (check : is_word (codes "check") command ≡ false)
          (print : is_word (codes "print") command ≡ false) (generate : is_word (codes "generate") command ≡ false) (f : Bool) → is_word (codes "drive") command ≡ f → JudgedAs k m tests program words command
      drive_or_not run lanes plant check print generate true is = so (codes "drive") is refl (λ none. drive_judged k m tests program words none flags)
      drive_or_not run lanes plant check print generate false drive =
          not_read (other_told k m program command words (met_none k m command run lanes plant check print generate drive) lone flag)
          (says_none k m command run lanes plant check print generate drive (values_among words))

      generate_or_not : (run : is_word (codes "run") command ≡ false) (lanes : is_word (codes "lanes") command ≡ false) (plant : is_word (codes "plant") command ≡ false) (check : is_word (codes "check") command ≡ false)
          (print : is_word (codes "print") command ≡ false) (e : Bool) → is_word (codes "generate") command ≡ e → JudgedAs k m tests program words command
      generate_or_not run lanes plant check print true is = so (codes "generate") is refl (λ none. generate_judged k m tests program words none flags)
      generate_or_not run lanes plant check print false generate = drive_or_not run lanes plant check print generate (is_word (codes "drive") command) refl

      print_or_not : (run : is_word (codes "run") command ≡ false) (lanes : is_word (codes "lanes") command ≡ false) (plant : is_word (codes "plant") command ≡ false) (check : is_word (codes "check") command ≡ false)
          (d : Bool) → is_word (codes "print") command ≡ d → JudgedAs k m tests program words command
      print_or_not run lanes plant check true is = so (codes "print") is refl (λ none. print_judged k m tests program words none flags)
      print_or_not run lanes plant check false print = generate_or_not run lanes plant check print (is_word (codes "generate") command) refl

      check_or_not : (run : is_word (codes "run") command ≡ false) (lanes : is_word (codes "lanes") command ≡ false) (plant : is_word (codes "plant") command ≡ false) (c : Bool) → is_word (codes "check") command ≡ c → JudgedAs k m tests program words command
      check_or_not run lanes plant true is = so (codes "check") is refl (λ none. check_judged k m tests program words none flags)
      check_or_not run lanes plant false check = print_or_not run lanes plant check (is_word (codes "print") command) refl

      plant_or_not : (run : is_word (codes "run") command ≡ false) (lanes : is_word (codes "lanes") command ≡ false) (p : Bool) → is_word (codes "plant") command ≡ p → JudgedAs k m tests program words command
      plant_or_not run lanes true is = so (codes "plant") is refl (λ none. plant_judged k m tests program words none flags)
      plant_or_not run lanes false plant = check_or_not run lanes plant (is_word (codes "check") command) refl

      lanes_or_not : (run : is_word (codes "run") command ≡ false) (b : Bool) → is_word (codes "lanes") command ≡ b → JudgedAs k m tests program words command
      lanes_or_not run true is = so (codes "lanes") is refl (λ none. lanes_judged k m tests program words none flags)
      lanes_or_not run false lanes = plant_or_not run lanes (is_word (codes "plant") command) refl

      run_or_not : (a : Bool) → is_word (codes "run") command ≡ a → JudgedAs k m tests program words command
      run_or_not true is = so (codes "run") is refl (λ none. run_judged k m tests program words none flags)
      run_or_not false run = lanes_or_not run (is_word (codes "lanes") command) refl

  -- what is read of all words is what they say
  pub judged : (words : List Text) → has_lone (drop 1 words) ≡ false → list_all has_flag (drop 1 words) ≡ true
      → Judged (fault_of (app k m) words) (subcommand_of (app k m) words) (command_of words)
  judged [] lone flags = not_read (λ none. cc (sym (no_program k m) ∙ none)) refl
  judged (program ∷ []) lone flags = not_read (λ none. cc (sym (no_command k m program) ∙ none)) refl
  judged (program ∷ command ∷ words) lone flags =
      let parts = both_true (has_flag command) (list_all has_flag words) flags in
      subst (λ (o : Option (List Text)). Judged (fault_of (app k m) (program ∷ command ∷ words)) (subcommand_of (app k m) (program ∷ command ∷ words)) (option_and_then (said_of command) o))
      (sym (names_among words)) (by_name program command words lone parts.0 parts.1)

-- ---- a `-` that stands alone

lone_among : (words : List Text) → has_lone words ≡ true → values_among words ≡ None
lone_among [] lone = absurd (cc lone)
lone_among (word ∷ words) lone = by (is_lone word) (is_dashes word) refl refl (lone_among words)
  where
    by : (a b : Bool) → is_lone word ≡ a → is_dashes word ≡ b → (has_lone words ≡ true → values_among words ≡ None) → values_among (word ∷ words) ≡ None
    by true b is dashes later = ap (λ (w : Text). values_among (w ∷ words)) (named (codes "-") word is)
    by false true is dashes later =
        let told : is_lone word ≡ true = sym (ap₂ (λ (p q : Bool). option_map_or is_lone (cond (p || q) (Some word) (find (λ w. is_lone w || is_dashes w) words)) false) is dashes) ∙ lone in
        absurd (cc (sym is ∙ told))
    by false false is dashes later =
        let left : has_lone words ≡ true = sym (ap₂ (λ (p q : Bool). option_map_or is_lone (cond (p || q) (Some word) (find (λ w. is_lone w || is_dashes w) words)) false) is dashes) ∙ lone in
        ap₂ (λ (d : Bool) (o : Option (List Text)). cond d (Some words) (cond (is_plain word) (option_map (λ (values : List Text). word ∷ values) o) None)) dashes (later left)
        ∙ nothing (is_plain word)
      where
        nothing : (p : Bool) → cond p (option_map (λ (values : List Text). word ∷ values) None) None ≡ None
        nothing true = refl
        nothing false = refl

dash_says : (values : Option (List Text)) → option_and_then (said_of (codes "-")) values ≡ None
dash_says None = refl
dash_says (Some []) = refl
dash_says (Some (a ∷ [])) = refl
dash_says (Some (a ∷ b ∷ [])) = refl
dash_says (Some (a ∷ b ∷ c ∷ more)) = refl

pub lone_refused : (words : List Text) → has_lone (drop 1 words) ≡ true → command_of words ≡ None
lone_refused [] lone = absurd (cc lone)
lone_refused (program ∷ []) lone = absurd (cc lone)
lone_refused (program ∷ command ∷ words) lone = by (is_lone command) (is_dashes command) refl refl
  where
    by : (a b : Bool) → is_lone command ≡ a → is_dashes command ≡ b → option_and_then (said_of command) (names_of words) ≡ None
    by true b is dashes = ap (λ (w : Text). option_and_then (said_of w) (names_of words)) (named (codes "-") command is) ∙ dash_says (names_of words)
    by false true is dashes =
        let told : is_lone command ≡ true = sym (ap₂ (λ (p q : Bool). option_map_or is_lone (cond (p || q) (Some command) (find (λ w. is_lone w || is_dashes w) words)) false) is dashes) ∙ lone in
        absurd (cc (sym is ∙ told))
    by false false is dashes =
        let left : has_lone words ≡ true = sym (ap₂ (λ (p q : Bool). option_map_or is_lone (cond (p || q) (Some command) (find (λ w. is_lone w || is_dashes w) words)) false) is dashes) ∙ lone in
        ap (option_and_then (said_of command)) (names_among words ∙ lone_among words left)

-- ---- what a parse comes to

some_told : (k : ErrorKind) (ks : Kinds) → IsAmong k ks → ks ≡ [] → ⊥
some_told k [] among none = among
some_told k (x ∷ xs) among none = cc none

module _ (kind : ValueParser) (is_kind : IsKindParser kind) where
  kinds_are : AreTests (Some kind) (Some number_parser)
  kinds_are = record { kind = of_kind; number = number_none }
    where
      of_kind : (word : Text) → accepts false kind word ≡ false → kind_of word ≡ None
      of_kind word bad = by (is_word (codes "model") word) (is_word (codes "session") word) (sym (is_kind.tells word) ∙ bad)
        where
          by : (a b : Bool) → (a || b) ≡ false → cond a (Some Model) (cond b (Some Session) None) ≡ None
          by true b bad = absurd (cc bad)
          by false true bad = absurd (cc bad)
          by false false bad = refl

  is_simple_too : is_simple (app (Some kind) (Some number_parser)) ≡ true
  unfolding clap_on_literals
  is_simple_too = refl

  is_exact : is_simple_and_free (app (Some kind) (Some number_parser)) ≡ true
  unfolding clap_on_literals
  is_exact = refl

  module _ (words : List Text) (lone : has_lone (drop 1 words) ≡ false) (flags : list_all has_flag (drop 1 words) ≡ true) where
    pub read_off : fault_of (app (Some kind) (Some number_parser)) words ≡ [] → IsReadOff words (subcommand_of (app (Some kind) (Some number_parser)) words)
    read_off none = by (judged (Some kind) (Some number_parser) kinds_are words lone flags)
      where
        by : Judged (fault_of (app (Some kind) (Some number_parser)) words) (subcommand_of (app (Some kind) (Some number_parser)) words) (command_of words) → IsReadOff words (subcommand_of (app (Some kind) (Some number_parser)) words)
        by (was_read name rows told found said) = record { name = name; rows = rows; found_is = found; said = said }
        by (not_read told said) = absurd (told none)

    pub refused_off : (fault_of (app (Some kind) (Some number_parser)) words ≡ [] → ⊥) → command_of words ≡ None
    refused_off some = by (judged (Some kind) (Some number_parser) kinds_are words lone flags)
      where
        by : Judged (fault_of (app (Some kind) (Some number_parser)) words) (subcommand_of (app (Some kind) (Some number_parser)) words) (command_of words) → command_of words ≡ None
        by (was_read name rows told found said) = absurd (some told)
        by (not_read told said) = said

    module _ (a : App) (is : a ≡ app (Some kind) (Some number_parser)) where
      exact : is_simple_and_free a ≡ true
      exact = ap is_simple_and_free is ∙ is_exact

      pub read_matches : {P : Type 0} (found : Option (Text × List Row)) → (is_simple_and_free a ≡ true → fault_of a words ≡ []) → (is_simple a ≡ true → P × (found ≡ subcommand_of a words)) → IsReadOff words found
      read_matches found kinds matches =
          subst (IsReadOff words) (sym ((matches (ap is_simple is ∙ is_simple_too)).1 ∙ ap (λ (x : App). subcommand_of x words) is))
          (read_off (ap (λ (x : App). fault_of x words) (sym is) ∙ kinds exact))

      pub refused_matches : (k : ErrorKind) → (is_simple_and_free a ≡ true → (k ≡ kind_told.OutOfMemory) ⊎ IsAmong k (fault_of a words)) → fault_by k ≡ Refused → command_of words ≡ None
      refused_matches k kinds refused = refused_off (λ none. by (kinds exact) none)
        where
          by : (k ≡ kind_told.OutOfMemory) ⊎ IsAmong k (fault_of a words) → fault_of (app (Some kind) (Some number_parser)) words ≡ [] → ⊥
          by (inl memory) none = let told : fault_by kind_told.OutOfMemory ≡ Refused = ap fault_by (sym memory) ∙ refused in absurd (cc told)
          by (inr among) none = some_told k (fault_of a words) among (ap (λ (x : App). fault_of x words) is ∙ none)
