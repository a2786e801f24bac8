-- The canonical text of a whole text.
use Rattle.std.proofs.Common.{◌≡◌, ℕ, ◌+◌, Bool, true, false, cond, List, [], ◌∷◌, ◌++◌, length, map, Option, Some, None, refl, sym, ap, subst, ◌∙◌, arith}
use Rattle.std.proofs.lemmas.List.{length-map}
use Rattle.std.specs.List.{flat_map}
use Rattle.lv_reader.specs.declared.version.TheConstants.{NEWEST}
use Rattle.lv_reader.specs.declared.version.Version.{Version}
use Rattle.lv_reader.specs.declared.version.Version.TheVariants.{One, Two}
use Rattle.lv_reader.specs.Versions.{version_in, gives_version}
use Rattle.lv_reader.specs.declared.statement.Statement.{Statement}
use Rattle.lv_reader.specs.declared.statement.Statement.TheVariants.{VersionLine}
use Rattle.lv_reader.specs.declared.statement.NumberedStatement.{NumberedStatement}
use Rattle.lv_reader.specs.declared.statement.ModelText.{ModelText}
use Rattle.lv_reader.specs.Texts.{AreStatements, none_left, one_more, numbered}
use Rattle.lv_reader.proofs.ReadingLemmas.{text_one}
use Rattle.lv_reader.specs.CanonicalTokens.{statement_text}
use Rattle.lv_reader.specs.CanonicalTexts.{begins_with_name, default_name, name_before, statements_of, named_statements, version_line, ended_line, canonical_model, numbered_from, canonical_reading}
use Rattle.lv_reader.specs.PrintLaws.{TextReadsBack, PrintedTwiceIsTheSame}
use Rattle.lv_reader.proofs.Lines.{AllPrinted, line_printed, default_printed, newest_printed, read_in_two, line_before, lines_printed}

-- all statements that lines say
all_printed : {known : Option Version} {before : ℕ} {lines : List (List ℕ)} {ss : List NumberedStatement} → AreStatements known before lines ss → AllPrinted (statements_of ss)
all_printed none_left = tt
all_printed (one_more {known = known} {before = before} {line = line} {ss = ss} (Some s) says are is) =
    subst (λ ms. AllPrinted (statements_of ms)) (sym is) (by (gives_version known s) (all_printed are))
  where
    by : (b : Bool) → AllPrinted (statements_of ss) → AllPrinted (statements_of (numbered (before + 1) (cond b None (Some s)) ++ ss))
    by true others = others
    by false others = ((line_printed Two line s (read_in_two (version_in known) line (Some s) says)).0, others)
all_printed (one_more None says are is) = subst (λ ms. AllPrinted (statements_of ms)) (sym is) (all_printed are)

-- the model's name before them
named_printed : (ss : List Statement) → AllPrinted ss → AllPrinted (name_before ss ++ ss)
named_printed ss h = by (begins_with_name ss)
  where
    by : (b : Bool) → AllPrinted (cond b [] (default_name ∷ []) ++ ss)
    by true = h
    by false = (default_printed, h)

-- lines that follow one another
numbered_printed : (before : ℕ) (ss : List Statement) → AllPrinted ss → AreStatements (Some Two) before (map statement_text ss) (numbered_from before ss)
numbered_printed before [] h = none_left
numbered_printed before (s ∷ ss) h = one_more (Some s) h.0.says (numbered_printed (before + 1) ss h.1) refl

-- the version first
version_read : (ss : List Statement) → AllPrinted ss → AreStatements None 0 (statement_text (VersionLine NEWEST) ∷ map statement_text ss) (numbered_from 1 ss)
version_read ss h = one_more (Some (VersionLine NEWEST)) newest_printed.says (numbered_printed 1 ss h) refl

pub reads_back : TextReadsBack
reads_back bytes text h le =
    let ss = named_statements text.statements in
    let printed = named_printed (statements_of text.statements) (all_printed h.statements) in
    let lines = line_before One (VersionLine NEWEST) newest_printed (flat_map ended_line ss) ∙ ap (λ xs. statement_text (VersionLine NEWEST) ∷ xs) (lines_printed ss printed) in
    let count = ap (length {A = List ℕ}) lines in
    let same = length-map ss statement_text in
    record {
      within = le;
      statements = subst (λ lines. AreStatements None 0 lines (numbered_from 1 ss)) (sym lines) (version_read ss printed);
      lines = omega (arith, count, same);
    }

unnumbered : (before : ℕ) (ss : List Statement) → statements_of (numbered_from before ss) ≡ ss
unnumbered before [] = refl
unnumbered before (s ∷ ss) = ap (λ others. s ∷ others) (unnumbered (before + 1) ss)

-- a name stands first already
name_stays : (ss : List Statement) → name_before (name_before ss ++ ss) ≡ []
name_stays ss = by (begins_with_name ss) refl
  where
    by : (b : Bool) → begins_with_name ss ≡ b → name_before (cond b [] (default_name ∷ []) ++ ss) ≡ []
    by true is = rw is refl
    by false is = refl

printed_same : (text : ModelText) → canonical_model (canonical_reading text) ≡ canonical_model text
printed_same text =
    let ss = named_statements text.statements in
    ap (λ others. version_line ++ flat_map ended_line (name_before others ++ others)) (unnumbered 1 ss)
    ∙ ap (λ first. version_line ++ flat_map ended_line (first ++ ss)) (name_stays (statements_of text.statements))

pub printed_twice : PrintedTwiceIsTheSame
printed_twice bytes text again h k =
    ap canonical_model (text_one (canonical_model text) again (canonical_reading text) k (reads_back bytes text h k.within)) ∙ printed_same text
