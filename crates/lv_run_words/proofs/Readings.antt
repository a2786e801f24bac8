-- From what the calls of `clap` say to what the words do.
use Rattle.std.proofs.Common.{◌≡◌, Bool, true, false, cond, ◌&&◌, ◌||◌, List, [], ◌∷◌, map, codes, Option, None, Some, refl, sym, ◌∙◌, ap, ap₂, drop, take, length, ◌-◌, arith, Result, Ok, Err}
use Rattle.std.specs.List.{list_any, list_all}
use Rattle.std.specs.Option.{option_map_or}
use Rattle.std.specs.Borrow.{Bor}
use Rattle.std.specs.Str.{bytes_eq}
use Rattle.std.proofs.Common.{String}
use Rattle.std.specs.Cmp.Lexicographic.{bytes_decides}
use Rattle.std.specs.Prelude.{option_map, find, string_bytes, IsErrAnd}
use Rattle.std.proofs.lemmas.List.{take_all, length-drop, drop-map}
use Rattle.std.proofs.lemmas.Str.{IsUtf8-string_bytes}
use Rattle.clap.specs.Words.{App, Text, app_of, first_value, rows_of, with_subcommand}
use Rattle.clap.specs.Simple.{app_of_fields}
use Rattle.clap.specs.Built.{AddsSubcommand}
use Rattle.clap.specs.declared.builder.command.Command.{Command}
use Rattle.clap.specs.declared.builder.command.Command.TheViews.{out-Command}
use Rattle.clap.specs.declared.parser.matches.Found.{Found}
use Rattle.clap.proofs.WalkLemmas.{first_value-rows}
use Rattle.lv_run_words.specs.declared.WordsFault.{WordsFault}
use Rattle.lv_run_words.specs.declared.WordsFault.TheVariants.{Refused}
use Rattle.lv_run_words.specs.Words.{is_word, is_dashes}
use Rattle.lv_run_words.specs.Parser.{IsCommand, is_lone, has_lone, has_lone_by, values_by, values_in}
use Rattle.lv_run_words.proofs.ClapWords.{has_flag, flag_of_text}

-- the values that are read
values_are : (f : Found) (a b : Option (Bor Text)) → option_map (λ (s : Bor Text). s.now) a ≡ first_value f (codes "first") → option_map (λ (s : Bor Text). s.now) b ≡ first_value f (codes "second")
    → values_in (rows_of f) ≡ values_by (option_map (λ (s : Bor Text). s.now) a) (option_map (λ (s : Bor Text). s.now) b)
values_are f a b first second = ap₂ values_by (sym (first ∙ first_value-rows f (codes "first"))) (sym (second ∙ first_value-rows f (codes "second")))

turned : (a b : Text) → bytes_eq a b ≡ bytes_eq b a
turned a b = by (bytes_eq a b) (bytes_eq b a) refl refl
  where
    by : (c d : Bool) → bytes_eq a b ≡ c → bytes_eq b a ≡ d → c ≡ d
    by true true e f = refl
    by false false e f = refl
    by true false e f = sym ((bytes_decides b a).1 (sym ((bytes_decides a b).0 e))) ∙ f
    by false true e f = sym (sym ((bytes_decides a b).1 (sym ((bytes_decides b a).0 f))) ∙ e)

-- one of two names
pub one_of_names : (names : List (Bor Text)) (a b word : Text) → map (λ (s : Bor Text). s.now) names ≡ a ∷ b ∷ []
    → list_any (λ (name : Bor Text). bytes_eq name.now word) names ≡ (is_word a word || is_word b word)
one_of_names [] a b word are = absurd (cc are)
one_of_names (x ∷ []) a b word are = absurd (cc are)
one_of_names (x ∷ y ∷ z ∷ more) a b word are = absurd (cc are)
one_of_names (x ∷ y ∷ []) a b word are =
    let first : x.now ≡ a = cc in
    let second : y.now ≡ b = cc in
    ap₂ (λ (s t : Text). bytes_eq s word || (bytes_eq t word || false)) first second
    ∙ ap₂ (λ (p q : Bool). p || (q || false)) (turned a word) (turned b word) ∙ by (bytes_eq word a) (bytes_eq word b)
  where
    by : (p q : Bool) → (p || (q || false)) ≡ (p || q)
    by true q = refl
    by false true = refl
    by false false = refl

-- words are text
pub flags_of_words : {Z : Type 0} (words : List (String Z)) → list_all has_flag (map string_bytes words) ≡ true
flags_of_words [] = refl
flags_of_words (word ∷ words) = ap₂ (λ (p q : Bool). p && q) (flag_of_text (string_bytes word) (IsUtf8-string_bytes word)) (flags_of_words words)

-- the words of things
pub lone_words : {X : Type 0} (word : X → Text) (xs : List X) → has_lone (map word xs) ≡ has_lone_by word xs
lone_words {X} word xs = ap (λ (o : Option Text). option_map_or is_lone o false) (found xs) ∙ by (find (λ x. is_lone (word x) || is_dashes (word x)) xs)
  where
    by : (o : Option X) → option_map_or is_lone (option_map word o) false ≡ option_map_or (λ x. is_lone (word x)) o false
    by None = refl
    by (Some x) = refl

    found : (xs : List X) → find (λ w. is_lone w || is_dashes w) (map word xs) ≡ option_map word (find (λ x. is_lone (word x) || is_dashes (word x)) xs)
    found [] = refl
    found (x ∷ xs) = pick (is_lone (word x) || is_dashes (word x)) (found xs)
      where
        pick : (c : Bool) → find (λ w. is_lone w || is_dashes w) (map word xs) ≡ option_map word (find (λ x. is_lone (word x) || is_dashes (word x)) xs)
            → cond c (Some (word x)) (find (λ w. is_lone w || is_dashes w) (map word xs)) ≡ option_map word (cond c (Some x) (find (λ x. is_lone (word x) || is_dashes (word x)) xs))
        pick true later = refl
        pick false later = later

-- a word that is neither is passed over
pub passed_over : {X : Type 0} (word : X → Text) (xs rest : List X) (x : X) → xs ≡ x ∷ rest → is_lone (word x) ≡ false → is_dashes (word x) ≡ false
    → has_lone_by word xs ≡ has_lone_by word rest
passed_over word xs rest x is lone dashes =
    ap (has_lone_by word) is
    ∙ ap₂ (λ (p q : Bool). option_map_or (λ y. is_lone (word y)) (cond (p || q) (Some x) (find (λ y. is_lone (word y) || is_dashes (word y)) rest)) false) lone dashes

module _ (f : Found) (a b : Option (Bor Text)) (first : option_map (λ (s : Bor Text). s.now) a ≡ first_value f (codes "first")) (second : option_map (λ (s : Bor Text). s.now) b ≡ first_value f (codes "second")) where
  pub two_are : (x y : Bor Text) → a ≡ Some x → b ≡ Some y → values_in (rows_of f) ≡ x.now ∷ y.now ∷ []
  two_are x y is is_too =
      values_are f a b first second ∙ ap₂ (λ (o p : Option (Bor Text)). values_by (option_map (λ (s : Bor Text). s.now) o) (option_map (λ (s : Bor Text). s.now) p)) is is_too

  pub one_is : (x : Bor Text) → a ≡ Some x → b ≡ None → values_in (rows_of f) ≡ x.now ∷ []
  one_is x is none =
      values_are f a b first second ∙ ap₂ (λ (o p : Option (Bor Text)). values_by (option_map (λ (s : Bor Text). s.now) o) (option_map (λ (s : Bor Text). s.now) p)) is none

  pub none_is : a ≡ None → values_in (rows_of f) ≡ []
  none_is none =
      values_are f a b first second ∙ ap (λ (o : Option (Bor Text)). values_by (option_map (λ (s : Bor Text). s.now) o) (option_map (λ (s : Bor Text). s.now) b)) none

-- ---- the command line as it is made

module _ (old new : Command) (a : App) (is : app_of old ≡ a) where
  pub without_help_flag : out-Command new ≡ record (out-Command old) { disable_help_flag = true } → app_of new ≡ record a { top = record a.top { disable_help_flag = true } }
  without_help_flag made = ap app_of_fields made ∙ ap (λ (x : App). record x { top = record x.top { disable_help_flag = true } }) is

  pub without_help : out-Command new ≡ record (out-Command old) { disable_help_subcommand = true } → app_of new ≡ record a { top = record a.top { disable_help_subcommand = true } }
  without_help made = ap app_of_fields made ∙ ap (λ (x : App). record x { top = record x.top { disable_help_subcommand = true } }) is

  pub with_commands : out-Command new ≡ record (out-Command old) { subcommand_required = true } → app_of new ≡ record a { top = record a.top { subcommand_required = true } }
  with_commands made = ap app_of_fields made ∙ ap (λ (x : App). record x { top = record x.top { subcommand_required = true } }) is

  pub adds : (sub : Command) (b : App) → IsCommand b sub → AddsSubcommand old sub new → app_of new ≡ with_subcommand a b.top
  adds sub b command added = added.shape command.local ∙ ap₂ (λ (x y : App). with_subcommand x y.top) is command.app_is

-- ---- words behind the first

module _ {Z : Type 0} (words : List (String Z)) where
  behind : take (length words - 1) (drop 1 words) ≡ drop 1 words
  behind = take_all (length words - 1) (drop 1 words) (let l = length-drop 1 words in omega arith)

  pub lone_behind : (result : Bool) → result ≡ has_lone_by string_bytes (take (length words - 1) (drop 1 words)) → has_lone (drop 1 (map string_bytes words)) ≡ result
  lone_behind result is =
      ap has_lone (drop-map string_bytes 1 words) ∙ lone_words string_bytes (drop 1 words) ∙ ap (has_lone_by string_bytes) (sym behind) ∙ sym is

  pub flags_behind : list_all has_flag (drop 1 (map string_bytes words)) ≡ true
  flags_behind = ap (list_all has_flag) (drop-map string_bytes 1 words) ∙ flags_of_words (drop 1 words)

-- a fault that was handed on
pub handed : {T : Type 0} (result : Result T WordsFault) (fault : WordsFault) → IsErrAnd result (λ e. e ≡ fault) → result ≡ Err Refused → fault ≡ Refused
handed (Ok x) fault same is = absurd same
handed (Err e) fault same is = let refused : e ≡ Refused = cc in sym same ∙ refused
