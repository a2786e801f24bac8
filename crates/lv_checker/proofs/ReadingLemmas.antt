-- The verdict that the function tells is that of the bytes.
use Rattle.std.proofs.Common.{◌≡◌, ◌≢◌, ◌≤◌, ◌<◌, ℕ, ◌+◌, Bool, true, false, nat_eq, nat_le, cond, List, [], ◌∷◌, length, Option, Some, None, is_some, refl, sym, ◌∙◌, ap, arith}
use Rattle.std.proofs.lemmas.Bool.{eqb-true, eqb-false}
use Rattle.lv_base.specs.declared.limits.TheConstants.{MODEL_BYTES}
use Rattle.lv_formula_text.specs.lv_text.Lexemes.{Lexeme, Reading, reads, has_bad_byte, is_too_long, line_reading}
use Rattle.lv_formula_text.specs.lv_text.Lines.{lines_of}
use Rattle.lv_formula_text.specs.Nesting.{is_too_deep}
use Rattle.lv_reader.specs.declared.code.ModelCode.TheVariants.{TextTooLong, Form, NumberOutOfRange, TooDeep}
use Rattle.lv_reader.specs.declared.keyword.Keyword.{Keyword}
use Rattle.lv_reader.specs.declared.statement.Statement.{Statement}
use Rattle.lv_reader.specs.declared.version.Version.{Version}
use Rattle.lv_reader.specs.Keywords.{keyword_of}
use Rattle.lv_reader.specs.Statements.{word_of, has_form_of, number_fits, HasForm, HasNoFormIn}
use Rattle.lv_reader.specs.Versions.{version_in, known_behind, stated}
use Rattle.lv_reader.specs.Lines.{SaysBy, SaysOf, RefusedBy, RefusedOf}
use Rattle.lv_reader.specs.Texts.{numbered, AreStatements, none_left, one_more, IsFirstRefused, at_once, later, too_long, refused as on_line}
use Rattle.lv_reader.proofs.FormLemmas.{not_of_version}
use Rattle.lv_checker.specs.Verdicts.{refused, IsVerdict, not_read, is_checked}
use Rattle.lv_checker.specs.Forms.{form_by}
use Rattle.lv_checker.specs.Reading.{Told, says, fails, told_of_form, told_of_word, told_of_lexemes, told_of, Statements, are, stop_at, behind, with_line, statements_of, verdict_by, verdict_on}
use Rattle.lv_checker.specs.Laws.{VerdictExists}
use Rattle.lv_checker.proofs.FormLemmas.{complete, sound}

-- what is told of lexemes holds of them
abbrev IsTold : Version → List Lexeme → Told → Type 0
IsTold version line (says said) = SaysBy version line said
IsTold version line (fails code) = RefusedBy version line code

none_is_some : {A : Type 0} (x : A) → None ≡ Some x → ⊥
none_is_some x e = cc e

some_is_one : {A : Type 0} (x y : A) → Some x ≡ Some y → x ≡ y
some_is_one x y e = cc e

module _ (version : Version) (line : List Lexeme) (some : length line ≢ 0) (word : Keyword) (begins : keyword_of line ≡ Some word) (shallow : is_too_deep line ≡ false) where
  begun : is_some (keyword_of line) ≡ true
  begun = rw begins refl

  by_number : (s : Statement) → HasForm line s → has_form_of version s ≡ true → (b : Bool) → number_fits s ≡ b → IsTold version line (cond b (says (Some s)) (fails NumberOutOfRange))
  by_number s form known true fits = record { shallow = shallow; form = form; known = known; number = fits }
  by_number s form known false fits = record { some = some; why = record { shallow = shallow; statement = s; form = form; known = known; number = fits } }

  by_version : (s : Statement) → HasForm line s → (b : Bool) → has_form_of version s ≡ b
      → IsTold version line (cond b (cond (number_fits s) (says (Some s)) (fails NumberOutOfRange)) (fails Form))
  by_version s form true known = by_number s form known (number_fits s) refl
  by_version s form false known = record { some = some; why = record { known = begun; shallow = shallow; form = not_of_version version line s form known } }

  no_form : form_by word line ≡ None → HasNoFormIn version line
  no_form none =
      record {
        none = λ s form known.
            let same : word ≡ word_of s = some_is_one word (word_of s) (sym begins ∙ form.word) in
            none_is_some s (sym none ∙ ap (λ w. form_by w line) same ∙ complete line s form.shape);
      }

  by_form : (o : Option Statement) → form_by word line ≡ o → IsTold version line (told_of_form version o)
  by_form None e = record { some = some; why = record { known = begun; shallow = shallow; form = no_form e } }
  by_form (Some s) e =
      let has = sound word line s e in
      by_version s (record { word = begins ∙ ap (λ (w : Keyword). Some w) (sym has.word_is); shape = has.shape }) (has_form_of version s) refl

module _ (version : Version) (line : List Lexeme) where
  by_depth : length line ≢ 0 → (word : Keyword) → keyword_of line ≡ Some word → (b : Bool) → is_too_deep line ≡ b → IsTold version line (cond b (fails TooDeep) (told_of_form version (form_by word line)))
  by_depth some word begins true deep = record { some = some; why = record { known = rw begins refl; deep = deep } }
  by_depth some word begins false shallow = by_form version line some word begins shallow (form_by word line) refl

  by_word : length line ≢ 0 → (o : Option Keyword) → keyword_of line ≡ o → IsTold version line (told_of_word version line o)
  by_word some None e = record { some = some; why = e }
  by_word some (Some word) e = by_depth some word e (is_too_deep line) refl

  by_length : (b : Bool) → nat_eq (length line) 0 ≡ b → IsTold version line (cond b (says None) (told_of_word version line (keyword_of line)))
  by_length true e = eqb-true (length line) 0 e
  by_length false e = by_word (eqb-false (length line) 0 e) (keyword_of line) refl

  lexemes_told : IsTold version line (told_of_lexemes version line)
  lexemes_told = by_length (nat_eq (length line) 0) refl

-- and what is told of what a line reads as
abbrev IsToldOf : Version → Reading → Told → Type 0
IsToldOf version reading (says said) = SaysOf version reading said
IsToldOf version reading (fails code) = RefusedOf version reading code

lexemes_read : (version : Version) (line : List Lexeme) (t : Told) → IsTold version line t → IsToldOf version (reads line) t
lexemes_read version line (says said) h = h
lexemes_read version line (fails code) h = h

line_told : (version : Version) (reading : Reading) → IsToldOf version reading (told_of version reading)
line_told version (reads line) = lexemes_read version line (told_of_lexemes version line) (lexemes_told version line)
line_told version (has_bad_byte place) = refl
line_told version is_too_long = refl

-- and what is told of lines
abbrev AreTold : Option Version → ℕ → List (List ℕ) → Statements → Type 0
AreTold known before lines (are ss) = AreStatements known before lines ss
AreTold known before lines (stop_at code at) = IsFirstRefused known before lines code at

line_added : (known : Option Version) (before : ℕ) (line : List ℕ) (lines : List (List ℕ)) (said : Option Statement) → SaysOf (version_in known) (line_reading line) said → (rest : Statements)
    → AreTold (known_behind known said) (before + 1) lines rest → AreTold known before (line ∷ lines) (behind (numbered (before + 1) (stated known said)) rest)
line_added known before line lines said is (are ss) h = one_more said is h refl
line_added known before line lines said is (stop_at code at) h = later said is h

line_before : (known : Option Version) (before : ℕ) (line : List ℕ) (lines : List (List ℕ)) (t : Told) → IsToldOf (version_in known) (line_reading line) t → (rest : Option Version → Statements)
    → ((next : Option Version) → AreTold next (before + 1) lines (rest next)) → AreTold known before (line ∷ lines) (with_line known (before + 1) t rest)
line_before known before line lines (says said) is rest h = line_added known before line lines said is (rest (known_behind known said)) (h (known_behind known said))
line_before known before line lines (fails code) is rest h = at_once is refl

lines_told : (known : Option Version) (before : ℕ) (lines : List (List ℕ)) → AreTold known before lines (statements_of known before lines)
lines_told known before [] = none_left
lines_told known before (line ∷ lines) =
    line_before known before line lines (told_of (version_in known) (line_reading line)) (line_told (version_in known) (line_reading line)) (λ next. statements_of next (before + 1) lines)
    (λ next. lines_told next (before + 1) lines)

-- and of bytes
module _ (bytes : List ℕ) where
  by_statements : length bytes ≤ MODEL_BYTES → (t : Statements) → AreTold None 0 (lines_of bytes) t → IsVerdict bytes (verdict_by (length (lines_of bytes)) t)
  by_statements within (are ss) h =
      is_checked (record { statements = ss; lines = length (lines_of bytes) }) (record { within = within; statements = h; lines = refl }) refl
  by_statements within (stop_at code at) h = not_read code at (on_line (record { within = within; first = h })) refl

  by_bytes : (b : Bool) → nat_le (length bytes) MODEL_BYTES ≡ b
      → IsVerdict bytes (cond b (verdict_by (length (lines_of bytes)) (statements_of None 0 (lines_of bytes))) (refused TextTooLong 0))
  by_bytes true e = let within : length bytes ≤ MODEL_BYTES = grind arith in by_statements within (statements_of None 0 (lines_of bytes)) (lines_told None 0 (lines_of bytes))
  by_bytes false e =
      let beyond : MODEL_BYTES < length bytes = grind arith in
      not_read TextTooLong 0 (too_long (record { beyond = beyond; code_is = refl; line_is = refl })) refl

  pub told : IsVerdict bytes (verdict_on bytes)
  unfolding verdict_on
  told = by_bytes (nat_le (length bytes) MODEL_BYTES) refl

pub exists : VerdictExists
exists bytes = told bytes
