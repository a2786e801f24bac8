-- A text that is checked as it is read: where its statements stand so far.
use Rattle.std.specs.Prelude.{◌≡◌, ℕ, List, Option, Some, None, false}
use Rattle.lv_model.specs.declared.plant.Plant.{Plant}
use Rattle.lv_reader.specs.declared.statement.NumberedStatement.{NumberedStatement}
use Rattle.lv_reader.specs.declared.statement.ModelText.{ModelText}
use Rattle.lv_reader.specs.Texts.{ReadsAs}
use Rattle.lv_reader.specs.CanonicalTexts.{version_line, canonical_model, WritesLine}
use Rattle.lv_model_entries.specs.declared.draft.Draft.{Draft}
use Rattle.lv_checker.specs.declared.checking.Refused.{Refused}
use Rattle.lv_checker.specs.declared.checking.Checking.{Checking}
use Rattle.lv_checker.specs.declared.checking.Printing.{Printing}
use Rattle.lv_checker.specs.Drafts.{empty}
use Rattle.lv_checker.specs.Checking.{Checked, fine, faulty, after, one_added, all_added, finished, IsRead}
use Rattle.lv_checker.specs.Verdicts.{IsVerdict, accepted}

abbrev pub standing_by : Draft → Option Refused → Checked Draft
standing_by d None = fine d
standing_by d (Some r) = faulty r.code r.line

-- what the statements give so far, or the first that is refused
abbrev pub standing : Checking → Checked Draft
standing c = standing_by c.draft.value c.refused

-- a statement was added
abbrev pub AddsOne : NumberedStatement → Checking → Checking → Type 0
AddsOne s old new = standing new ≡ after (standing old) (λ d. one_added d s)

-- and its line was written
pub record AddsAndWrites (s : NumberedStatement) (old new : Printing) : Type 0 where
  pub adds : AddsOne s old.checking new.checking
  pub writes : WritesLine s.statement old.canonical new.canonical

-- nothing was added or written
pub record BeginsPrinting (p : Printing) : Type 0 where
  pub nothing : standing p.checking ≡ fine empty
  pub bytes : p.canonical.bytes.items ≡ version_line
  pub begun : p.canonical.has_begun ≡ false

-- what it comes to where the text ends, behind so many lines
abbrev pub ended : ℕ → Checking → Checked Plant
ended lines c = after (standing c) (finished lines)

-- the statements of some text with so many lines were added
pub record HasRead (lines : ℕ) (c : Checking) : Type 0 where
  pub text : ModelText
  pub read : IsRead text
  pub lines_are : text.lines ≡ lines
  pub stands : standing c ≡ all_added empty text.statements

-- the canonical text of the text that these bytes read as
pub record IsCanonical (bytes canonical : List ℕ) : Type 0 where
  pub text : ModelText
  pub reads : ReadsAs bytes text
  pub printed : canonical ≡ canonical_model text

-- the bytes have an accepted model, and that canonical text
pub record IsPrinted (bytes canonical : List ℕ) : Type 0 where
  pub plant : Plant
  pub verdict : IsVerdict bytes (accepted plant)
  pub canonical_is : IsCanonical bytes canonical
