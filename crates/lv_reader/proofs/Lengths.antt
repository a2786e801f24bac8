-- A canonical text is little longer than its source: by the model's name, and by a last line feed.
use Rattle.std.proofs.Common.{ℕ, zero, suc, ◌++◌, ◌+◌, ◌-◌, ◌≤◌, Bool, true, false, cond, nat_eq, List, [], ◌∷◌, length, take, map, get_or, Option, Some, None, sym, ap, subst, ◌∙◌, arith, length-append}
use Rattle.std.specs.List.{flat_map, onto_first}
use Rattle.std.specs.Str.Lines.{strip_carriage_return}
use Rattle.std.proofs.lemmas.Grind.{flat_map-append}
use Rattle.lv_text.specs.Lines.{is_line_feed, unended_lines, lines_of}
use Rattle.lv_reader.specs.declared.version.TheConstants.{NEWEST}
use Rattle.lv_reader.specs.declared.version.Version.{Version}
use Rattle.lv_reader.specs.Versions.{version_in, gives_version}
use Rattle.lv_reader.specs.declared.statement.Statement.{Statement}
use Rattle.lv_reader.specs.declared.statement.Statement.TheVariants.{VersionLine}
use Rattle.lv_reader.specs.declared.statement.NumberedStatement.{NumberedStatement}
use Rattle.lv_reader.specs.Texts.{AreStatements, none_left, one_more, numbered}
use Rattle.lv_reader.specs.CanonicalTokens.{statement_text}
use Rattle.lv_reader.specs.CanonicalTexts.{begins_with_name, default_name, name_before, named_statements, version_line, statements_of, ended_line}
use Rattle.lv_reader.specs.PrintLaws.{TextIsLittleLonger}
use Rattle.lv_reader.proofs.Lines.{line_printed, newest_short}

-- the bytes of lines, each with one for its end
abbrev with_ends : List (List ℕ) → ℕ
with_ends [] = 0
with_ends (line ∷ lines) = (length line + 1) + with_ends lines

onto_ends : (b : ℕ) (lines : List (List ℕ)) (n : ℕ) → with_ends lines ≤ n + 1 → with_ends (onto_first b lines) ≤ suc n + 1
onto_ends b [] n h = omega arith
onto_ends b (line ∷ lines) n h = omega arith

unended_ends : (text : List ℕ) → with_ends (unended_lines text) ≤ length text + 1
unended_ends [] = omega arith
unended_ends (b ∷ more) = by (is_line_feed b) (unended_ends more)
  where
    by : (c : Bool) → with_ends (unended_lines more) ≤ length more + 1
        → with_ends (cond c ([] ∷ unended_lines more) (onto_first b (unended_lines more))) ≤ length (b ∷ more) + 1
    by true h = omega arith
    by false h = onto_ends b (unended_lines more) (length more) h

take_less : (n : ℕ) (xs : List ℕ) → length (take n xs) ≤ length xs
take_less zero xs = omega arith
take_less (suc n) [] = omega arith
take_less (suc n) (x ∷ xs) = let more = take_less n xs in omega arith

strip_less : (line : List ℕ) → length (strip_carriage_return line) ≤ length line
strip_less line = by (nat_eq (get_or line (length line - 1) 0) 13)
  where
    by : (c : Bool) → length (cond c (take (length line - 1) line) line) ≤ length line
    by true = take_less (length line - 1) line
    by false = omega arith

strip_ends : (lines : List (List ℕ)) → with_ends (map strip_carriage_return lines) ≤ with_ends lines
strip_ends [] = omega arith
strip_ends (line ∷ lines) = let first = strip_less line in let others = strip_ends lines in omega arith

lines_ends : (text : List ℕ) → with_ends (lines_of text) ≤ length text + 1
lines_ends text = let a = strip_ends (unended_lines text) in let b = unended_ends text in omega arith

said_ends : {known : Option Version} {before : ℕ} {lines : List (List ℕ)} {ss : List NumberedStatement} → AreStatements known before lines ss
    → length (flat_map ended_line (statements_of ss)) ≤ with_ends lines
said_ends none_left = omega arith
said_ends (one_more {known = known} {before = before} {line = line} {lines = lines} {ss = ss} (Some s) says are is) =
    subst (λ ms. length (flat_map ended_line (statements_of ms)) ≤ with_ends (line ∷ lines)) (sym is) (by (gives_version known s) (said_ends are))
  where
    by : (b : Bool) → length (flat_map ended_line (statements_of ss)) ≤ with_ends lines
        → length (flat_map ended_line (statements_of (numbered (before + 1) (cond b None (Some s)) ++ ss))) ≤ with_ends (line ∷ lines)
    by true others = omega (arith, others)
    by false others =
        let first = (line_printed (version_in known) line s says).1 in
        let a = length-append (statement_text s) (10 ∷ []) in
        let b = length-append (ended_line s) (flat_map ended_line (statements_of ss)) in
        omega arith
said_ends (one_more {line = line} {lines = lines} None says are is) =
    let others = said_ends are in
    subst (λ ms. length (flat_map ended_line (statements_of ms)) ≤ with_ends (line ∷ lines)) (sym is) (omega arith)

name_length : (ss : List Statement) → length (flat_map ended_line (name_before ss)) ≤ 12
name_length ss = by (begins_with_name ss)
  where
    by : (b : Bool) → length (flat_map ended_line (cond b [] (default_name ∷ []))) ≤ 12
    by true = omega arith
    by false = omega arith

pub little_longer : TextIsLittleLonger
little_longer bytes text h =
    let ss = statements_of text.statements in
    let a = ap (length {A = ℕ}) (flat_map-append ended_line (name_before ss) ss) ∙ length-append (flat_map ended_line (name_before ss)) (flat_map ended_line ss) in
    let b = name_length ss in
    let c = said_ends h.statements in
    let d = lines_ends bytes in
    let first = newest_short in
    let ended = length-append (statement_text (VersionLine NEWEST)) (10 ∷ []) in
    let e = length-append version_line (flat_map ended_line (named_statements text.statements)) in
    omega arith
