-- A number as it is printed is a token, has its own value, and is no longer than digits of that value.
use Rattle.std.proofs.Common.{◌≡◌, ℕ, ◌^◌, ◌<◌, ◌≤◌, Bool, true, false, cond, nat_lt, List, [], ◌∷◌, length, get_or, fold, Some, None, ap, subst, ◌∙◌, arith, rules, decimal}
use Rattle.std.proofs.lemmas.Bool.{and_parts, and_from}
use Rattle.std.proofs.lemmas.Bool.Decides.{nat_tests}
use Rattle.std.proofs.lemmas.Fmt.{length-decimal-le, decimal_nonempty}
use Rattle.std.proofs.lemmas.Str.Parse.{IsNumeralModel, numerals_by_fold, digits_value_short}
use Rattle.std.specs.List.{list_all}
use Rattle.lv_text.specs.declared.lexer.TokenKind.TheVariants.{Number}
use Rattle.lv_text.specs.Bytes.{is_digit}
use Rattle.lv_text.specs.Kinds.{has_kind, is_ascii_byte}
use Rattle.lv_text.specs.Laws.{IsLexeme}
use Rattle.lv_text.specs.Numbers.{with_digit, number_value, in_range, number_in_range}
use Rattle.lv_text.proofs.Choices.{list_all-weaker}
use Rattle.lv_text.proofs.NumberFacts.{printed_law}
use Rattle.lv_reader.specs.declared.words.TheConstants.{OVER_EVERY_LIMIT}
use Rattle.lv_reader.specs.Words.{capped}
use Rattle.lv_reader.specs.CanonicalTokens.{number}

-- digits and their value, as what is printed speaks of them
numerals : IsNumeralModel (λ ds. list_all is_digit ds ≡ true) number_value
numerals = numerals_by_fold (λ ds. list_all is_digit ds ≡ true) (search rules) (fold with_digit) (search rules)

-- a number that is over no limit is told as it is
value_told : (text : List ℕ) (n : ℕ) → capped (number_in_range text) ≡ n → n < OVER_EVERY_LIMIT → number_value text ≡ n
value_told text n e small = by (nat_lt (number_value text) (2 ^ 128)) e
  where
    below : (b : Bool) → cond b (number_value text) OVER_EVERY_LIMIT ≡ n → number_value text ≡ n
    below true e = e
    below false e = absurd (omega arith)

    by : (a : Bool) → capped (cond a (Some (number_value text)) None) ≡ n → number_value text ≡ n
    by true e = below (nat_lt (number_value text) OVER_EVERY_LIMIT) e
    by false e = absurd (omega arith)

-- digits are some
digits_some : (text : List ℕ) → has_kind Number text ≡ true → 0 < length text
digits_some [] h = absurd (cc)
digits_some (b ∷ more) h = omega arith

pub number_no_longer : (text : List ℕ) (n : ℕ) → has_kind Number text ≡ true → capped (number_in_range text) ≡ n → n < OVER_EVERY_LIMIT → length (decimal n) ≤ length text
number_no_longer text n h e small =
    let value = value_told text n e small in
    let digits = (and_parts (is_digit (get_or text 0 0)) (list_all is_digit text) h).1 in
    let below : number_value text < 10 ^ length text = digits_value_short numerals text (length text) digits (omega arith) in
    length-decimal-le (length text) n (digits_some text h) (subst (λ v. v < 10 ^ length text) value below) (omega arith)

pub number_told : (n : ℕ) → n < OVER_EVERY_LIMIT → capped (number_in_range (decimal n)) ≡ n
number_told n small =
    let value : number_value (decimal n) ≡ n = (printed_law n (omega arith)).1 in
    let fits : nat_lt n (2 ^ 128) ≡ true = grind (arith, nat_tests) in
    let below : nat_lt n OVER_EVERY_LIMIT ≡ true = grind (arith, nat_tests) in
    ap (λ v. capped (in_range v)) value ∙ ap (λ b. capped (cond b (Some n) None)) fits ∙ ap (λ b. cond b n OVER_EVERY_LIMIT) below

digit_is_ascii : (b : ℕ) → is_digit b ≡ true → is_ascii_byte b ≡ true
digit_is_ascii b h = grind (arith, nat_tests)

begins_with_digit : (text : List ℕ) → list_all is_digit text ≡ true → 0 < length text → is_digit (get_or text 0 0) ≡ true
begins_with_digit [] h some = absurd (omega arith)
begins_with_digit (b ∷ more) h some = (and_parts (is_digit b) (list_all is_digit more) h).0

pub number_is_lexeme : (n : ℕ) → n < OVER_EVERY_LIMIT → IsLexeme (number n)
number_is_lexeme n small =
    let digits = (printed_law n (omega arith)).0 in
    let some = decimal_nonempty n (omega arith) in
    record {
      kind = and_from _ _ (begins_with_digit (decimal n) digits some) digits;
      ascii = list_all-weaker is_digit is_ascii_byte digit_is_ascii (decimal n) digits;
    }
