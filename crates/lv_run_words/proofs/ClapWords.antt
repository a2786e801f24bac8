-- What `clap` takes a word for that stands before any `--`.
use Rattle.std.proofs.Common.{◌≡◌, ℕ, Bool, true, false, not, ◌&&◌, ◌||◌, nat_eq, List, [], ◌∷◌, length, drop, slice_get, Option, None, Some, refl, sym, ◌∙◌, ap, ap₂, subst}
use Rattle.std.specs.Option.{option_map_or}
use Rattle.std.specs.Prelude.{if◌then◌else◌, option_and_then, encode_utf8}
use Rattle.std.specs.Str.{IsUtf8, chars, encode_utf8_all}
use Rattle.std.proofs.lemmas.Str.{encodes-chars}
use Rattle.std.proofs.lemmas.Bool.{eqb-true}
use Rattle.clap.specs.Lexer.{long_of, long_of_rest, short_of, short_of_rest, strip_byte, name_and_value}
use Rattle.clap.specs.Words.{Text}
use Rattle.clap.specs.Simple.{Shape}
use Rattle.clap.specs.Walk.{Held, Walk, Rule, Names, Step, idle, value, trailing, walked, after_step, word_met, subcommand_met, subcommand_or_other, arg_by_long, arg_by_short, arg_by_index, to_positional, long_or_other, short_or_plain}
use Rattle.clap.specs.Kinds.{Kinds, or_else}
use Rattle.clap.specs.Faults.{turn_fault, step_fault, word_fault, other_fault, flag_word_fault, long_fault, short_fault, bundle_fault, bundle_step_fault, flags_fault}
use Rattle.clap.specs.declared.error.kind.ErrorKind.TheVariants as kind
use Rattle.clap.proofs.OnLiterals.{clap_on_literals}
use Rattle.lv_run_words.specs.Words.{is_plain, is_dashes}
use Rattle.lv_run_words.specs.Parser.{is_lone}

is_false : (b : Bool) → not b ≡ true → b ≡ false
is_false true h = absurd (cc)
is_false false h = refl

-- a word that doesn't begin with `-`
pub value_parts : (word : Text) → is_plain word ≡ true → (is_dashes word ≡ false) × (long_of word ≡ None) × (short_of word ≡ None)
value_parts [] plain = (refl, refl, refl)
value_parts (b ∷ more) plain =
    let other : nat_eq b 45 ≡ false = is_false (nat_eq b 45) plain in (
      ap (λ (e : Bool). e && is_dashes (45 ∷ more)) other,
      ap (λ (e : Bool). option_and_then long_of_rest (option_and_then (strip_byte 45) (if e then Some more else None))) other,
      ap (λ (e : Bool). option_and_then short_of_rest (if e then Some more else None)) other,
    )

abbrev pub has_some : List ℕ → Bool
has_some [] = false
has_some (x ∷ xs) = true

-- some character stands behind the `-` of a flag
abbrev pub has_flag : Text → Bool
has_flag [] = true
has_flag (b ∷ []) = true
has_flag (b ∷ x ∷ more) = not (nat_eq b 45) || has_some (chars (x ∷ more))

first_there : (xs : List ℕ) → has_some xs ≡ true → (x : ℕ) × (slice_get xs 0 ≡ Some x)
first_there [] some = absurd (cc)
first_there (x ∷ xs) some = (x, refl)

-- where the walk stands before a `--`
abbrev pub standing : Held → ℕ → Walk
standing h position = record { held = h; waiting = idle; position = position; is_trailing = false; stopped = None }

is_true : (b : Bool) → not b ≡ false → b ≡ true
is_true true h = refl
is_true false h = absurd (cc)

module _ (s : Shape) where
  -- a flag, where the command has none
  module _ (no_long : (name : Text) → arg_by_long s.rules name ≡ None) (no_short : (c : ℕ) → arg_by_short s.rules c ≡ None) where
    bundle_told : (h : Held) (x : ℕ) (more : Text) → h.skip ≡ 0 → has_some (chars (x ∷ more)) ≡ true
        → bundle_fault s.rules s.args_override_self (x ∷ more) h ≡ kind.UnknownArgument ∷ []
    unfolding clap_on_literals
    bundle_told h x more none some =
        let first = first_there (chars (x ∷ more)) some in
        let rest = (λ (c : ℕ). drop (length (encode_utf8 c)) (x ∷ more)) in
        ap₂ (λ (skip : ℕ) (o : Option ℕ). bundle_step_fault s.rules s.args_override_self o (x ∷ more) skip (record h { skip = 0 }) (flags_fault s.rules s.args_override_self (length more))) none first.1
        ∙ ap (λ (o : Option Rule). short_fault s.rules s.args_override_self o (rest first.0) (record h { skip = 0 }) (flags_fault s.rules s.args_override_self (length more) (rest first.0) 0)) (no_short first.0)

    flag_45 : (h : Held) (x : ℕ) (more : Text) → h.skip ≡ 0 → is_dashes (45 ∷ x ∷ more) ≡ false → has_some (chars (x ∷ more)) ≡ true
        → flag_word_fault s.rules s.args_override_self (long_of (45 ∷ x ∷ more)) (45 ∷ x ∷ more) h ≡ kind.UnknownArgument ∷ []
    flag_45 h x more none dashes flag = by (nat_eq x 45) refl more dashes (bundle_told h x more none flag)
      where
        by : (e : Bool) → nat_eq x 45 ≡ e → (more : Text) → is_dashes (45 ∷ x ∷ more) ≡ false
            → bundle_fault s.rules s.args_override_self (x ∷ more) h ≡ kind.UnknownArgument ∷ []
            → flag_word_fault s.rules s.args_override_self (long_of (45 ∷ x ∷ more)) (45 ∷ x ∷ more) h ≡ kind.UnknownArgument ∷ []
        by true is [] dashes told = absurd (cc (sym dashes ∙ ap (λ (t : Bool). t && true) is))
        by true is (y ∷ ys) dashes told =
            ap (λ (t : Bool). flag_word_fault s.rules s.args_override_self (option_and_then long_of_rest (if t then Some (y ∷ ys) else None)) (45 ∷ x ∷ y ∷ ys) h) is
            ∙ ap (λ (o : Option Rule). long_fault s.rules s.args_override_self o (name_and_value (y ∷ ys)).1 h) (no_long (name_and_value (y ∷ ys)).0)
        by false is more dashes told =
            ap (λ (t : Bool). flag_word_fault s.rules s.args_override_self (option_and_then long_of_rest (if t then Some more else None)) (45 ∷ x ∷ more) h) is
            ∙ ap (λ (t : Bool). option_map_or (λ flags. bundle_fault s.rules s.args_override_self flags h) (if t then None else Some (x ∷ more)) []) is
            ∙ told

    pub flag_told : (h : Held) (word : Text) → h.skip ≡ 0 → is_plain word ≡ false → is_dashes word ≡ false → is_lone word ≡ false → has_flag word ≡ true
        → other_fault s None word h ≡ kind.UnknownArgument ∷ []
    flag_told h [] none plain dashes lone flag = absurd (cc plain)
    flag_told h (b ∷ []) none plain dashes lone flag = absurd (cc (sym lone ∙ ap (λ (t : Bool). t && true) (is_true (nat_eq b 45) plain)))
    flag_told h (b ∷ x ∷ more) none plain dashes lone flag =
        let dash : b ≡ 45 = eqb-true b 45 (is_true (nat_eq b 45) plain) in
        let dashes_45 : is_dashes (45 ∷ x ∷ more) ≡ false = ap (λ (c : ℕ). is_dashes (c ∷ x ∷ more)) (sym dash) ∙ dashes in
        ap (λ (c : ℕ). other_fault s None (c ∷ x ∷ more) h) dash
        ∙ ap (λ (t : Bool). if t then [] else flag_word_fault s.rules s.args_override_self (long_of (45 ∷ x ∷ more)) (45 ∷ x ∷ more) h) dashes_45
        ∙ flag_45 h x more none dashes_45 (sym (ap (λ (t : Bool). not t || has_some (chars (x ∷ more))) (is_true (nat_eq b 45) plain)) ∙ flag)

-- ---- a word that stands before any `--`

module _ (s : Shape) (names : Names) (h : Held) (position : ℕ) (word : Text) (none : subcommand_met names idle word ≡ None) where
  module _ (plain : is_plain word ≡ true) where
    value_met : word_met s.rules names false idle position word h ≡ (h, value)
    value_met =
        let parts = value_parts word plain in
        ap (λ (o : Option Text). subcommand_or_other s.rules o idle position word h) none
        ∙ ap (λ (t : Bool). if t then (h, trailing position) else long_or_other s.rules idle word (long_of word) h) parts.0
        ∙ ap (λ o. long_or_other s.rules idle word o h) parts.1
        ∙ ap (λ o. short_or_plain s.rules idle word o h) parts.2

    value_fault : word_fault s names false idle word h ≡ []
    value_fault =
        let parts = value_parts word plain in
        ap (λ (o : Option Text). other_fault s o word h) none
        ∙ ap (λ (t : Bool). if t then [] else flag_word_fault s.rules s.args_override_self (long_of word) word h) parts.0
        ∙ ap (λ o. flag_word_fault s.rules s.args_override_self o word h) parts.1
        ∙ ap (λ o. option_map_or (λ flags. bundle_fault s.rules s.args_override_self flags h) o []) parts.2

    pub value_turn : (turn_fault s names (standing h position) word ≡ step_fault s position h value)
        × (walked s.rules names (standing h position) word ≡ to_positional s.rules (arg_by_index s.rules position) word (standing h position) h)
    unfolding clap_on_literals
    value_turn = (
      ap₂ (λ (ks : Kinds) (met : Held × Step). or_else ks (step_fault s position met.0 met.1)) value_fault value_met,
      ap (λ (met : Held × Step). after_step s.rules word (standing h position) met.0 met.1) value_met,
    )

  module _ (dashes : is_dashes word ≡ true) where
    dashes_met : word_met s.rules names false idle position word h ≡ (h, trailing position)
    dashes_met =
        ap (λ (o : Option Text). subcommand_or_other s.rules o idle position word h) none
        ∙ ap (λ (t : Bool). if t then (h, trailing position) else long_or_other s.rules idle word (long_of word) h) dashes

    dashes_fault : word_fault s names false idle word h ≡ []
    dashes_fault =
        ap (λ (o : Option Text). other_fault s o word h) none
        ∙ ap (λ (t : Bool). if t then [] else flag_word_fault s.rules s.args_override_self (long_of word) word h) dashes

    pub dashes_turn : (turn_fault s names (standing h position) word ≡ []) × (walked s.rules names (standing h position) word ≡ record (standing h position) { is_trailing = true })
    unfolding clap_on_literals
    dashes_turn = (
      ap₂ (λ (ks : Kinds) (met : Held × Step). or_else ks (step_fault s position met.0 met.1)) dashes_fault dashes_met,
      ap (λ (met : Held × Step). after_step s.rules word (standing h position) met.0 met.1) dashes_met,
    )

  -- a word that is told is told first
  pub told_turn : (k : Kinds) → other_fault s None word h ≡ k
      → turn_fault s names (standing h position) word ≡ or_else k (step_fault s position (word_met s.rules names false idle position word h).0 (word_met s.rules names false idle position word h).1)
  told_turn k told =
      ap (λ (ks : Kinds). or_else ks (step_fault s position (word_met s.rules names false idle position word h).0 (word_met s.rules names false idle position word h).1))
      (ap (λ (o : Option Text). other_fault s o word h) none ∙ told)

-- ---- words are text

dash_of_text : (x : ℕ) (more : Text) → IsUtf8 (45 ∷ x ∷ more) → has_some (chars (x ∷ more)) ≡ true
unfolding clap_on_literals
dash_of_text x more text = by (chars (x ∷ more)) refl
  where
    by : (cs : List ℕ) → chars (x ∷ more) ≡ cs → has_some (chars (x ∷ more)) ≡ true
    by [] none =
        let short : 45 ∷ [] ≡ 45 ∷ x ∷ more = subst (λ (l : List ℕ). encode_utf8_all (45 ∷ l) ≡ 45 ∷ x ∷ more) none (encodes-chars (45 ∷ x ∷ more) text) in
        absurd (cc short)
    by (c ∷ cs) some = ap (λ (l : List ℕ). has_some l) some

pub flag_of_text : (word : Text) → IsUtf8 word → has_flag word ≡ true
flag_of_text [] text = refl
flag_of_text (b ∷ []) text = refl
flag_of_text (b ∷ x ∷ more) text = by (nat_eq b 45) refl
  where
    by : (e : Bool) → nat_eq b 45 ≡ e → has_flag (b ∷ x ∷ more) ≡ true
    by false other = ap (λ (t : Bool). not t || has_some (chars (x ∷ more))) other
    by true dash =
        ap (λ (t : Bool). not t || has_some (chars (x ∷ more))) dash
        ∙ dash_of_text x more (subst (λ (c : ℕ). IsUtf8 (c ∷ x ∷ more)) (eqb-true b 45 dash) text)
