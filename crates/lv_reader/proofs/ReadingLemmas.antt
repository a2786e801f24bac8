-- A text reads as one text or has one first fault, and never both.
use Rattle.std.proofs.Common.{◌≡◌, ◌≢◌, ℕ, ◌+◌, List, [], ◌∷◌, ◌++◌, length, Option, Some, None, refl, sym, ◌∙◌, ap, ap₂, subst, arith, rules}
use Rattle.lv_text.specs.Lexemes.{Lexeme, Reading, reads, has_bad_byte, is_too_long, line_reading}
use Rattle.lv_reader.specs.declared.code.ModelCode.{ModelCode}
use Rattle.lv_reader.specs.declared.code.ModelCode.TheVariants.{UnknownStatement, Form, NumberOutOfRange, TooDeep}
use Rattle.lv_reader.specs.declared.version.Version.{Version}
use Rattle.lv_reader.specs.declared.statement.Statement.{Statement}
use Rattle.lv_reader.specs.declared.statement.NumberedStatement.{NumberedStatement}
use Rattle.lv_reader.specs.declared.statement.ModelText.{ModelText}
use Rattle.lv_reader.specs.Keywords.{keyword_of}
use Rattle.lv_reader.specs.Statements.{HasForm, IsStatement, IsRefusedBy, number_fits, NestsTooDeep, IsOutOfForm}
use Rattle.lv_reader.specs.Versions.{version_in, known_behind, stated}
use Rattle.lv_reader.specs.Lines.{SaysOf, RefusedOf, Says}
use Rattle.lv_reader.specs.Texts.{numbered, AreStatements, none_left, one_more, IsFirstRefused, at_once, later, ReadsAs, IsReadingFault, too_long, refused}
use Rattle.lv_reader.proofs.FormLemmas.{form_one}

-- a line that has a form begins with a statement's word
word_known : (line : List Lexeme) (s : Statement) → HasForm line s → keyword_of line ≢ None
word_known line s form e = let w = form.word in (cc)

-- tokens that are a statement are not refused
statement_stands : (v : Version) (line : List Lexeme) (s : Statement) (code : ModelCode) → IsStatement v line s → IsRefusedBy v line code → ⊥
statement_stands v line s UnknownStatement is h = word_known line s is.form h
statement_stands v line s TooDeep is h = let a = is.shallow in let b = h.deep in (cc)
statement_stands v line s Form is h = h.form.none s is.form is.known
statement_stands v line s NumberOutOfRange is h =
    let a = is.number in
    let b = h.number in
    let e = ap number_fits (form_one line s h.statement is.form h.form) in
    (cc)
statement_stands v line s code is h = h

refused_known : (line : List Lexeme) (h : NestsTooDeep line) → keyword_of line ≢ None
refused_known line h e = let k = rw e at h.known in (cc)

form_known : (v : Version) (line : List Lexeme) (h : IsOutOfForm v line) → keyword_of line ≢ None
form_known v line h e = let k = rw e at h.known in (cc)

code_of_tokens : (v : Version) (line : List Lexeme) (c d : ModelCode) → IsRefusedBy v line c → IsRefusedBy v line d → c ≡ d
code_of_tokens v line UnknownStatement UnknownStatement g h = refl
code_of_tokens v line UnknownStatement TooDeep g h = absurd (refused_known line h g)
code_of_tokens v line UnknownStatement Form g h = absurd (form_known v line h g)
code_of_tokens v line UnknownStatement NumberOutOfRange g h = absurd (word_known line h.statement h.form g)
code_of_tokens v line TooDeep UnknownStatement g h = absurd (refused_known line g h)
code_of_tokens v line TooDeep TooDeep g h = refl
code_of_tokens v line TooDeep Form g h = let a = g.deep in let b = h.shallow in absurd (cc)
code_of_tokens v line TooDeep NumberOutOfRange g h = let a = g.deep in let b = h.shallow in absurd (cc)
code_of_tokens v line Form UnknownStatement g h = absurd (form_known v line g h)
code_of_tokens v line Form TooDeep g h = let a = h.deep in let b = g.shallow in absurd (cc)
code_of_tokens v line Form Form g h = refl
code_of_tokens v line Form NumberOutOfRange g h = absurd (g.form.none h.statement h.form h.known)
code_of_tokens v line NumberOutOfRange UnknownStatement g h = absurd (word_known line g.statement g.form h)
code_of_tokens v line NumberOutOfRange TooDeep g h = let a = h.deep in let b = g.shallow in absurd (cc)
code_of_tokens v line NumberOutOfRange Form g h = absurd (h.form.none g.statement g.form g.known)
code_of_tokens v line NumberOutOfRange NumberOutOfRange g h = refl
code_of_tokens v line c d g h = absurd (search rules)

nothing_known : (line : List Lexeme) → length line ≡ 0 → keyword_of line ≡ None
unfolding keyword_of
nothing_known [] e = refl
nothing_known (l ∷ ls) e = absurd (omega arith)

nothing_stated : (v : Version) (line : List Lexeme) (s : Statement) → length line ≡ 0 → IsStatement v line s → ⊥
nothing_stated v line s e is = word_known line s is.form (nothing_known line e)

said_one : (v : Version) (r : Reading) (a b : Option Statement) → SaysOf v r a → SaysOf v r b → a ≡ b
said_one v (reads line) None None h k = refl
said_one v (reads line) None (Some t) h k = absurd (nothing_stated v line t h k)
said_one v (reads line) (Some s) None h k = absurd (nothing_stated v line s k h)
said_one v (reads line) (Some s) (Some t) h k = ap Some (form_one line s t h.form k.form)
said_one v (has_bad_byte place) a b h k = absurd h
said_one v is_too_long a b h k = absurd h

refused_one : (v : Version) (r : Reading) (c d : ModelCode) → RefusedOf v r c → RefusedOf v r d → c ≡ d
refused_one v (reads line) c d g h = code_of_tokens v line c d g.why h.why
refused_one v (has_bad_byte place) c d g h = g ∙ sym h
refused_one v is_too_long c d g h = g ∙ sym h

not_both : (v : Version) (r : Reading) (said : Option Statement) (c : ModelCode) → SaysOf v r said → RefusedOf v r c → ⊥
not_both v (reads line) None c h g = g.some h
not_both v (reads line) (Some s) c h g = statement_stands v line s c h g.why
not_both v (has_bad_byte place) said c h g = h
not_both v is_too_long said c h g = h

-- what is known behind a line, by either of what it says
known_same : (known : Option Version) (line : List ℕ) (a b : Option Statement) → Says (version_in known) line a → Says (version_in known) line b → known_behind known b ≡ known_behind known a
known_same known line a b h k = ap (known_behind known) (said_one (version_in known) (line_reading line) b a k h)

statements_one : {known : Option Version} {before : ℕ} {lines : List (List ℕ)} {ss ts : List NumberedStatement} → AreStatements known before lines ss → AreStatements known before lines ts → ss ≡ ts
statements_one none_left none_left = refl
statements_one (one_more {known} {before} {line} {lines} said says are e) (one_more {ss = rest} said' says' are' e') =
    e ∙ ap₂ (λ (o : Option Statement) (xs : List NumberedStatement). numbered (before + 1) (stated known o) ++ xs) (said_one (version_in known) (line_reading line) said said' says says')
    (statements_one are (subst (λ v. AreStatements v (before + 1) lines rest) (known_same known line said said' says says') are')) ∙ sym e'

code_one : {known : Option Version} {before m n : ℕ} {lines : List (List ℕ)} {c d : ModelCode} → IsFirstRefused known before lines c m → IsFirstRefused known before lines d n → c ≡ d
code_one (at_once {known} {before} {at} {line} g e) (at_once h f) = refused_one (version_in known) (line_reading line) _ _ g h
code_one (at_once {known} {before} {at} {line} g e) (later said says first) = absurd (not_both (version_in known) (line_reading line) said _ says g)
code_one (later {known} {before} {at} {line} said says first) (at_once h f) = absurd (not_both (version_in known) (line_reading line) said _ says h)
code_one {n = n} {d = d} (later {known} {before} {at} {line} {lines} said says first) (later said' says' first') =
    code_one first (subst (λ v. IsFirstRefused v (before + 1) lines d n) (known_same known line said said' says says') first')

line_one : {known : Option Version} {before m n : ℕ} {lines : List (List ℕ)} {c d : ModelCode} → IsFirstRefused known before lines c m → IsFirstRefused known before lines d n → m ≡ n
line_one (at_once g e) (at_once h f) = e ∙ sym f
line_one (at_once {known} {before} {at} {line} g e) (later said says first) = absurd (not_both (version_in known) (line_reading line) said _ says g)
line_one (later {known} {before} {at} {line} said says first) (at_once h f) = absurd (not_both (version_in known) (line_reading line) said _ says h)
line_one {n = n} {d = d} (later {known} {before} {at} {line} {lines} said says first) (later said' says' first') =
    line_one first (subst (λ v. IsFirstRefused v (before + 1) lines d n) (known_same known line said said' says says') first')

never_both : {known : Option Version} {before n : ℕ} {lines : List (List ℕ)} {ss : List NumberedStatement} {c : ModelCode} → AreStatements known before lines ss → IsFirstRefused known before lines c n → ⊥
never_both none_left h = (elim h [ ])
never_both (one_more {known} {before} {line} said says are e) (at_once h f) = not_both (version_in known) (line_reading line) said _ says h
never_both {n = n} {c = c} (one_more {known} {before} {line} {lines} said says are e) (later said' says' first) =
    never_both are (subst (λ v. IsFirstRefused v (before + 1) lines c n) (known_same known line said said' says says') first)

pub text_one : (bytes : List ℕ) (t u : ModelText) → ReadsAs bytes t → ReadsAs bytes u → t ≡ u
text_one bytes t u g h =
    ap₂ (λ (ss : List NumberedStatement) (n : ℕ). record { statements = ss; lines = n }) (statements_one g.statements h.statements) (g.lines ∙ sym h.lines)

pub fault_code_one : (bytes : List ℕ) (c d : ModelCode) (m n : ℕ) → IsReadingFault bytes c m → IsReadingFault bytes d n → c ≡ d
fault_code_one bytes c d m n (too_long g) (too_long h) = g.code_is ∙ sym h.code_is
fault_code_one bytes c d m n (too_long g) (refused h) = let a = g.beyond in let b = h.within in absurd (omega arith)
fault_code_one bytes c d m n (refused g) (too_long h) = let a = h.beyond in let b = g.within in absurd (omega arith)
fault_code_one bytes c d m n (refused g) (refused h) = code_one g.first h.first

pub fault_line_one : (bytes : List ℕ) (c d : ModelCode) (m n : ℕ) → IsReadingFault bytes c m → IsReadingFault bytes d n → m ≡ n
fault_line_one bytes c d m n (too_long g) (too_long h) = g.line_is ∙ sym h.line_is
fault_line_one bytes c d m n (too_long g) (refused h) = let a = g.beyond in let b = h.within in absurd (omega arith)
fault_line_one bytes c d m n (refused g) (too_long h) = let a = h.beyond in let b = g.within in absurd (omega arith)
fault_line_one bytes c d m n (refused g) (refused h) = line_one g.first h.first

pub text_or_fault : (bytes : List ℕ) (t : ModelText) (c : ModelCode) (n : ℕ) → ReadsAs bytes t → IsReadingFault bytes c n → ⊥
text_or_fault bytes t c n g (too_long h) = let a = h.beyond in let b = g.within in absurd (omega arith)
text_or_fault bytes t c n g (refused h) = never_both g.statements h.first
