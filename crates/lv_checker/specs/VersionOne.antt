-- What is kept of the first version: a line gives one formula or one move, and the moves of a type that are no stays are numbered
-- one after the other.
use Rattle.std.specs.Prelude.{◌≡◌, ◌+◌, Bool, true, List, length, Option, Some, None, Ok}
use Rattle.std.specs.List.{list_all}
use Rattle.lv_model.specs.declared.plant.Domain.{Domain}
use Rattle.lv_reader.specs.declared.version.Version.TheVariants.{One}
use Rattle.lv_reader.specs.declared.statement.Statement.{Statement}
use Rattle.lv_reader.specs.declared.statement.NumberedStatement.{NumberedStatement}
use Rattle.lv_reader.specs.Statements.{has_form_of}
use Rattle.lv_model_entries.specs.declared.draft.Draft.{Draft}
use Rattle.lv_model_entries.specs.declared.draft.TypeDraft.{TypeDraft}
use Rattle.lv_model_entries.specs.declared.draft.Entry.{Entry}
use Rattle.lv_model_entries.specs.declared.draft.Entry.TheVariants.{ModeLaws, NewMove, NewMoves}
use Rattle.lv_model_entries.specs.Entries.{inside_entry}
use Rattle.lv_checker.specs.Drafts.{empty}
use Rattle.lv_checker.specs.Checking.{fine, all_added}

-- the entry is one formula, or one move of the line behind those so far, or neither
abbrev pub AddsOne : TypeDraft → Entry → Type 0
AddsOne t (ModeLaws fs) = length fs ≡ 1
AddsOne t (NewMove line m) = line ≡ t.lines + 1
AddsOne t (NewMoves line ms) = (length ms ≡ 1) × (line ≡ t.lines + 1)
AddsOne t entry = Unit {0}

-- the lines of a type that has not ended are as many as its moves that are no stays
abbrev pub NumbersMoves : Option TypeDraft → Type 0
NumbersMoves None = Unit {0}
NumbersMoves (Some t) = t.lines + length t.lists.modes ≡ length t.lists.moves

abbrev pub is_of_one : NumberedStatement → Bool
is_of_one s = has_form_of One s.statement

-- so in a text of the first version the number of a step or fault is that of the moves before it that are no stays, and 1
pub record VersionOneIsKept : Type 0 where
  pub adds_one : (domains : List Domain) (t : TypeDraft) (s : Statement) (e : Entry) → has_form_of One s ≡ true → inside_entry domains t s ≡ Ok e → AddsOne t e
  pub numbers : (ss : List NumberedStatement) (d : Draft) → list_all is_of_one ss ≡ true → all_added empty ss ≡ fine d → NumbersMoves d.current
