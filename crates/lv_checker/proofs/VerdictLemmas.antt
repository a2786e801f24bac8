-- A text has one verdict, by what its lines read as.
use Rattle.std.proofs.Common.{◌≡◌, ◌≤◌, ℕ, List, [], ◌∷◌, length, map, Option, refl, sym, ◌∙◌, ap, ap₂, subst, arith}
use Rattle.lv_base.specs.declared.limits.TheConstants.{MODEL_BYTES}
use Rattle.lv_formula_text.specs.lv_text.Lexemes.{Reading, line_reading}
use Rattle.lv_formula_text.specs.lv_text.Lines.{lines_of}
use Rattle.lv_reader.specs.declared.code.ModelCode.{ModelCode}
use Rattle.lv_reader.specs.declared.statement.NumberedStatement.{NumberedStatement}
use Rattle.lv_reader.specs.declared.statement.ModelText.{ModelText}
use Rattle.lv_reader.specs.declared.version.Version.{Version}
use Rattle.lv_reader.specs.Versions.{version_in}
use Rattle.lv_reader.specs.Lines.{SaysOf, RefusedOf}
use Rattle.lv_reader.specs.Texts.{AreStatements, none_left, one_more, IsFirstRefused, at_once, later, ReadsAs, IsReadingFault, too_long, refused as on_line}
use Rattle.lv_reader.proofs.ReadingLemmas.{text_one, fault_code_one, fault_line_one, text_or_fault}
use Rattle.lv_checker.specs.Checking.{checked}
use Rattle.lv_checker.specs.Verdicts.{Verdict, refused, verdict_of, IsVerdict, not_read, is_checked}

pub verdict_one : (bytes : List ℕ) (v w : Verdict) → IsVerdict bytes v → IsVerdict bytes w → v ≡ w
verdict_one bytes v w (not_read c m g e) (not_read d n h f) = e ∙ ap₂ refused (fault_code_one bytes c d m n g h) (fault_line_one bytes c d m n g h) ∙ sym f
verdict_one bytes v w (not_read c m g e) (is_checked t h f) = absurd (text_or_fault bytes t c m h g)
verdict_one bytes v w (is_checked t g e) (not_read d n h f) = absurd (text_or_fault bytes t d n g h)
verdict_one bytes v w (is_checked t g e) (is_checked u h f) = e ∙ ap (λ (x : ModelText). verdict_of (checked x)) (text_one bytes t u g h) ∙ sym f

first_alike : (x y : Reading) (xs ys : List Reading) → x ∷ xs ≡ y ∷ ys → x ≡ y
first_alike x y xs ys e = (cc)

rest_alike : (x y : Reading) (xs ys : List Reading) → x ∷ xs ≡ y ∷ ys → xs ≡ ys
rest_alike x y xs ys e = (cc)

statements_alike : {known : Option Version} {before : ℕ} {ls : List (List ℕ)} {ss : List NumberedStatement} → AreStatements known before ls ss → (ms : List (List ℕ))
    → map line_reading ls ≡ map line_reading ms → AreStatements known before ms ss
statements_alike none_left [] e = none_left
statements_alike none_left (m ∷ ms) e = absurd (cc)
statements_alike (one_more said says are f) [] e = absurd (cc)
statements_alike (one_more {known} {before} {line} {lines} said says are f) (m ∷ ms) e =
    one_more said (subst (λ r. SaysOf (version_in known) r said) (first_alike (line_reading line) (line_reading m) (map line_reading lines) (map line_reading ms) e) says)
    (statements_alike are ms (rest_alike (line_reading line) (line_reading m) (map line_reading lines) (map line_reading ms) e)) f

refused_alike : {known : Option Version} {before at : ℕ} {ls : List (List ℕ)} {code : ModelCode} → IsFirstRefused known before ls code at → (ms : List (List ℕ))
    → map line_reading ls ≡ map line_reading ms → IsFirstRefused known before ms code at
refused_alike (at_once why f) [] e = absurd (cc)
refused_alike (at_once {known} {before} {at} {line} {lines} {code} why f) (m ∷ ms) e =
    at_once (subst (λ r. RefusedOf (version_in known) r code) (first_alike (line_reading line) (line_reading m) (map line_reading lines) (map line_reading ms) e) why) f
refused_alike (later said says first) [] e = absurd (cc)
refused_alike (later {known} {before} {at} {line} {lines} said says first) (m ∷ ms) e =
    later said (subst (λ r. SaysOf (version_in known) r said) (first_alike (line_reading line) (line_reading m) (map line_reading lines) (map line_reading ms) e) says)
    (refused_alike first ms (rest_alike (line_reading line) (line_reading m) (map line_reading lines) (map line_reading ms) e))

count_alike : (ls ms : List (List ℕ)) → map line_reading ls ≡ map line_reading ms → length ls ≡ length ms
count_alike [] [] e = refl
count_alike [] (m ∷ ms) e = absurd (cc)
count_alike (l ∷ ls) [] e = absurd (cc)
count_alike (l ∷ ls) (m ∷ ms) e =
    let rest : length ls ≡ length ms = count_alike ls ms (rest_alike (line_reading l) (line_reading m) (map line_reading ls) (map line_reading ms) e) in
    omega (arith, rest)

text_alike : (a b : List ℕ) (t : ModelText) → length b ≤ MODEL_BYTES → map line_reading (lines_of a) ≡ map line_reading (lines_of b) → ReadsAs a t → ReadsAs b t
text_alike a b t within e reads =
    record {
      within = within;
      statements = statements_alike reads.statements (lines_of b) e;
      lines = reads.lines ∙ count_alike (lines_of a) (lines_of b) e;
    }

fault_alike : (a b : List ℕ) (code : ModelCode) (line : ℕ) → length a ≤ MODEL_BYTES → length b ≤ MODEL_BYTES
    → map line_reading (lines_of a) ≡ map line_reading (lines_of b) → IsReadingFault a code line → IsReadingFault b code line
fault_alike a b code line within_a within e (too_long h) = let beyond = h.beyond in absurd (omega arith)
fault_alike a b code line within_a within e (on_line h) = on_line (record { within = within; first = refused_alike h.first (lines_of b) e })

pub verdict_alike : (a b : List ℕ) (v : Verdict) → length a ≤ MODEL_BYTES → length b ≤ MODEL_BYTES
    → map line_reading (lines_of a) ≡ map line_reading (lines_of b) → IsVerdict a v → IsVerdict b v
verdict_alike a b v within_a within e (not_read code line h f) = not_read code line (fault_alike a b code line within_a within e h) f
verdict_alike a b v within_a within e (is_checked text h f) = is_checked text (text_alike a b text within e h) f
