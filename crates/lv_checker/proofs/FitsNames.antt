-- What is read of a text: the names of its statements are not empty, and its numbers are within their limits.
use Rattle.std.proofs.Common.{◌≡◌, ◌+◌, ◌<◌, ℕ, Bool, true, false, ◌&&◌, nat_le, nat_lt, nat_eq, List, [], ◌∷◌, ◌++◌, length, drop, slice_get, Option, Some, None, option_map, if◌then◌else◌, refl, sym, ap, subst, arith, All}
use Rattle.std.specs.List.{list_all}
use Rattle.std.specs.Option.{option_and_then}
use Rattle.std.proofs.lemmas.Bool.{and_from, lt-ltb, leb-true}
use Rattle.std.proofs.lemmas.List.{length-drop}
use Rattle.std.proofs.lemmas.List.Elements.{All-head, All-tail, All-drop}
use Rattle.lv_formula_text.specs.lv_text.Laws.{IsLexeme}
use Rattle.lv_formula_text.specs.lv_text.Lexemes.{Lexeme, Reading, reads, has_bad_byte, is_too_long, line_reading, is_word, word_of, word_at}
use Rattle.lv_formula_text.specs.lv_text.Kinds.{has_kind}
use Rattle.lv_formula_text.specs.lv_text.declared.lexer.TokenKind.{TokenKind}
use Rattle.lv_formula_text.specs.lv_text.declared.lexer.TokenKind.TheVariants.{Word, Number, Iff, Implies, Arrow, Equals, Not, And, Or, Open, Close, Dot}
use Rattle.lv_formula_text.proofs.lv_text.ReadBack.{lexemes_have}
use Rattle.lv_model.proofs.Reading.{All-at}
use Rattle.lv_reader.specs.declared.statement.Statement.{Statement}
use Rattle.lv_reader.specs.declared.statement.Statement.TheVariants.{ModelLine, DomainLine, TypeLine, VariableLine, ModeLine, LawLine, InLine, StepLine, FaultLine, FaultsLine, RepairLine, EndLine, PartLine, PriceLine, VersionLine}
use Rattle.lv_reader.specs.declared.statement.NumberedStatement.{NumberedStatement}
use Rattle.lv_reader.specs.declared.words.NameAndNames.{NameAndNames}
use Rattle.lv_reader.specs.declared.words.TwoNames.{TwoNames}
use Rattle.lv_reader.specs.declared.words.ThreeNames.{ThreeNames}
use Rattle.lv_reader.specs.Words.{words_of, is_reserved, free_word_at, only_name, name_and_names, two_names, three_names}
use Rattle.lv_reader.specs.Statements.{HasShape, number_fits}
use Rattle.lv_reader.specs.declared.version.Version.{Version}
use Rattle.lv_reader.specs.Versions.{version_in, gives_version, stated}
use Rattle.lv_reader.specs.Lines.{Says, SaysOf}
use Rattle.lv_reader.specs.Texts.{AreStatements, none_left, one_more, numbered}
use Rattle.lv_checker.proofs.FitsLists.{chained, mapped, guarded}

abbrev pub is_spelled : List ℕ → Bool
is_spelled name = nat_lt 0 (length name)

-- the new names of a statement are not empty, and a domain has a value
abbrev pub has_names : Statement → Bool
has_names (ModelLine name) = is_spelled name
has_names (DomainLine name values) = is_spelled name && (nat_lt 0 (length values) && list_all is_spelled values)
has_names (TypeLine name) = is_spelled name
has_names (VariableLine class name domain) = is_spelled name
has_names (ModeLine name) = is_spelled name
has_names (PartLine name kind start) = is_spelled name
has_names s = true

abbrev pub is_sound : NumberedStatement → Bool
is_sound s = has_names s.statement && number_fits s.statement

text_spelled : (kind : TokenKind) (text : List ℕ) → is_word kind ≡ true → has_kind kind text ≡ true → is_spelled text ≡ true
text_spelled Word [] w h = absurd (cc)
text_spelled Word (b ∷ more) w h = lt-ltb 0 (length (b ∷ more)) (omega arith)
text_spelled Number text w h = absurd (cc)
text_spelled Iff text w h = absurd (cc)
text_spelled Implies text w h = absurd (cc)
text_spelled Arrow text w h = absurd (cc)
text_spelled Equals text w h = absurd (cc)
text_spelled Not text w h = absurd (cc)
text_spelled And text w h = absurd (cc)
text_spelled Or text w h = absurd (cc)
text_spelled Open text w h = absurd (cc)
text_spelled Close text w h = absurd (cc)
text_spelled Dot text w h = absurd (cc)

lexeme_spelled : (l : Lexeme) (name : List ℕ) → IsLexeme l → word_of l ≡ Some name → is_spelled name ≡ true
lexeme_spelled l name fact h =
    let two = guarded (is_word l.kind) (Some l.text) name h in
    let same : l.text ≡ name = cc two.1 in
    subst (λ (text : List ℕ). is_spelled text ≡ true) same (text_spelled l.kind l.text two.0 fact.kind)

words_spelled : (ls : List Lexeme) (names : List (List ℕ)) → All IsLexeme ls → words_of ls ≡ Some names → (list_all is_spelled names ≡ true) × (length names ≡ length ls)
words_spelled [] names facts h = let e : [] ≡ names = cc h in (subst (λ (ns : List (List ℕ)). list_all is_spelled ns ≡ true) e refl, sym (ap (λ (ns : List (List ℕ)). length ns) e))
words_spelled (l ∷ ls) names facts h =
    let one = chained (λ word. option_map (λ words. word ∷ words) (words_of ls)) (word_of l) names h in
    let rest = mapped (λ words. one.0 ∷ words) (words_of ls) names one.2 in
    let spelled = words_spelled ls rest.0 (All-tail IsLexeme l ls facts) rest.1 in
    let first = lexeme_spelled l one.0 (All-head IsLexeme l ls facts) one.1 in
    let count : length rest.0 ≡ length ls = spelled.1 in (
      subst (λ (ns : List (List ℕ)). list_all is_spelled ns ≡ true) rest.2 (and_from (is_spelled one.0) (list_all is_spelled rest.0) first spelled.0),
      subst (λ (ns : List (List ℕ)). length ns ≡ length (l ∷ ls)) rest.2 (omega (arith, count)),
    )

module _ (ls : List Lexeme) (facts : All IsLexeme ls) where
  word_spelled : (n : ℕ) (name : List ℕ) → word_at ls n ≡ Some name → is_spelled name ≡ true
  word_spelled n name h = let one = chained word_of (slice_get ls n) name h in lexeme_spelled one.0 name (All-at IsLexeme ls n one.0 facts one.1) one.2

  free_spelled : (n : ℕ) (name : List ℕ) → free_word_at ls n ≡ Some name → is_spelled name ≡ true
  free_spelled n name h =
      let one = chained (λ word. if is_reserved word then None else Some word) (word_at ls n) name h in
      subst (λ (w : List ℕ). is_spelled w ≡ true) (by (is_reserved one.0) one.0 one.2) (word_spelled n one.0 one.1)
    where
      by : (b : Bool) (w : List ℕ) → (if b then None else Some w) ≡ Some name → w ≡ name
      by true w e = absurd (cc)
      by false w e = cc e

  only_spelled : (name : List ℕ) → only_name ls ≡ Some name → is_spelled name ≡ true
  only_spelled name h = word_spelled 1 name (guarded (nat_eq (length ls) 2) (word_at ls 1) name h).1

  two_spelled : (r : TwoNames) → two_names ls ≡ Some r → is_spelled r.first ≡ true
  two_spelled r h =
      let inside = guarded (nat_eq (length ls) 3) _ r h in
      let one = chained (λ a. option_map (λ b. record { first = a; second = b }) (word_at ls 2)) (free_word_at ls 1) r inside.1 in
      let two = mapped (λ b. record { first = one.0; second = b }) (word_at ls 2) r one.2 in
      subst (λ (w : List ℕ). is_spelled w ≡ true) (ap (λ (x : TwoNames). x.first) two.2) (free_spelled 1 one.0 one.1)

  three_spelled : (r : ThreeNames) → three_names ls ≡ Some r → is_spelled r.first ≡ true
  three_spelled r h =
      let inside = guarded (nat_eq (length ls) 4) _ r h in
      let one = chained (λ a. option_and_then (λ b. option_map (λ c. record { first = a; second = b; third = c }) (word_at ls 3)) (word_at ls 2)) (free_word_at ls 1) r inside.1 in
      let two = chained (λ b. option_map (λ c. record { first = one.0; second = b; third = c }) (word_at ls 3)) (word_at ls 2) r one.2 in
      let three = mapped (λ c. record { first = one.0; second = two.0; third = c }) (word_at ls 3) r two.2 in
      subst (λ (w : List ℕ). is_spelled w ≡ true) (ap (λ (x : ThreeNames). x.first) three.2) (free_spelled 1 one.0 one.1)

  list_spelled : (r : NameAndNames) → name_and_names ls ≡ Some r → is_spelled r.name && (nat_lt 0 (length r.others) && list_all is_spelled r.others) ≡ true
  list_spelled r h =
      let inside = guarded (nat_le 3 (length ls)) _ r h in
      let one = chained (λ n. option_map (λ ns. record { name = n; others = ns }) (words_of (drop 2 ls))) (word_at ls 1) r inside.1 in
      let two = mapped (λ ns. record { name = one.0; others = ns }) (words_of (drop 2 ls)) r one.2 in
      let words = words_spelled (drop 2 ls) two.0 (All-drop IsLexeme 2 ls facts) two.1 in
      let long = leb-true 3 (length ls) inside.0 in
      let left = length-drop 2 ls in
      let count : length two.0 ≡ length (drop 2 ls) = words.1 in
      let some : 0 < length two.0 = omega (arith, long, left, count) in
      subst (λ (x : NameAndNames). is_spelled x.name && (nat_lt 0 (length x.others) && list_all is_spelled x.others) ≡ true) two.2
      (and_from (is_spelled one.0) _ (word_spelled 1 one.0 one.1) (and_from (nat_lt 0 (length two.0)) _ (lt-ltb 0 (length two.0) some) words.0))

  shape_named : (s : Statement) → HasShape ls s → has_names s ≡ true
  shape_named (ModelLine name) h = only_spelled name h
  shape_named (DomainLine name values) h = list_spelled (record { name = name; others = values }) h
  shape_named (TypeLine name) h = only_spelled name h
  shape_named (VariableLine class name domain) h = two_spelled (record { first = name; second = domain }) h
  shape_named (ModeLine name) h = only_spelled name h
  shape_named (LawLine f) h = refl
  shape_named (InLine modes f) h = refl
  shape_named (StepLine source target guard) h = refl
  shape_named (FaultLine source target cost guard) h = refl
  shape_named (FaultsLine target cost guard) h = refl
  shape_named (RepairLine source target cost repair guard) h = refl
  shape_named EndLine h = refl
  shape_named (PartLine name kind start) h = three_spelled (record { first = name; second = kind; third = start }) h
  shape_named (PriceLine part control value cost) h = refl
  shape_named (VersionLine n) h = refl

line_sound : (v : Version) (line : List ℕ) (s : Statement) → Says v line (Some s) → has_names s && number_fits s ≡ true
line_sound v line s says = by (line_reading line) refl says
  where
    by : (r : Reading) → line_reading line ≡ r → SaysOf v r (Some s) → has_names s && number_fits s ≡ true
    by (reads ls) e h = and_from (has_names s) (number_fits s) (shape_named ls (lexemes_have line ls e) s h.form.shape) h.number
    by (has_bad_byte place) e h = absurd h
    by is_too_long e h = absurd h

said_sound : (known : Option Version) (before : ℕ) (line : List ℕ) (ss : List NumberedStatement) (said : Option Statement) → Says (version_in known) line said → list_all is_sound ss ≡ true
    → list_all is_sound (numbered before (stated known said) ++ ss) ≡ true
said_sound known before line ss None says h = h
said_sound known before line ss (Some s) says h = by (gives_version known s)
  where
    by : (b : Bool) → list_all is_sound (numbered before (if b then None else Some s) ++ ss) ≡ true
    by true = h
    by false = and_from (has_names s && number_fits s) (list_all is_sound ss) (line_sound (version_in known) line s says) h

pub statements_sound : {known : Option Version} {before : ℕ} {ls : List (List ℕ)} {ss : List NumberedStatement} → AreStatements known before ls ss → list_all is_sound ss ≡ true
statements_sound none_left = refl
statements_sound (one_more {known} {before} {line} {lines} {ss} said says are f) =
    subst (λ (xs : List NumberedStatement). list_all is_sound xs ≡ true) (sym f) (said_sound known (before + 1) line ss said says (statements_sound are))
