-- The model that statements give, or the first of them that is refused.
use Rattle.std.specs.Prelude.{◌≡◌, ℕ, ◌+◌, List, [], ◌∷◌, length, nat_eq, is_some, if◌then◌else◌, Option, Some, None, Result, Ok, Err}
use Rattle.lv_model.specs.declared.plant.Plant.{Plant}
use Rattle.lv_reader.specs.declared.code.ModelCode.{ModelCode}
use Rattle.lv_reader.specs.declared.code.ModelCode.TheVariants.{NotEnded, NoPart}
use Rattle.lv_reader.specs.declared.fault.ModelFault.{ModelFault}
use Rattle.lv_reader.specs.declared.fault.ModelFault.TheVariants.{At, Memory}
use Rattle.lv_reader.specs.declared.statement.NumberedStatement.{NumberedStatement}
use Rattle.lv_reader.specs.declared.statement.ModelText.{ModelText}
use Rattle.lv_reader.specs.Texts.{ReadsAs}
use Rattle.lv_model_entries.specs.declared.draft.Draft.{Draft}
use Rattle.lv_checker.specs.Faults.{judged}
use Rattle.lv_checker.specs.Drafts.{empty, with_entry}

-- what there is, or the code and the line for which the text is refused
pub data Checked (A : Type 0) : Type 0 where
  fine : A → Checked A
  faulty : ModelCode → ℕ → Checked A

abbrev pub checked_by : {A B : Type 0} → Result A ModelCode → ℕ → (A → Checked B) → Checked B
checked_by (Ok x) line next = next x
checked_by (Err code) line next = faulty code line

abbrev pub after : {A B : Type 0} → Checked A → (A → Checked B) → Checked B
after (fine x) next = next x
after (faulty code line) next = faulty code line

-- a draft with one more statement
abbrev pub one_added : Draft → NumberedStatement → Checked Draft
one_added d s = checked_by (judged d s.statement) s.line (λ entry. fine (with_entry d entry))

-- a draft with these statements, one after the other
abbrev pub all_added : Draft → List NumberedStatement → Checked Draft
all_added d [] = fine d
all_added d (s ∷ ss) = after (one_added d s) (λ e. all_added e ss)

-- why a text may not end there, if it may not: a type is left that has not ended, or there is no part
abbrev pub ending_code : Draft → Option ModelCode
ending_code d = if is_some d.current then Some NotEnded else (if nat_eq (length d.plant.parts) 0 then Some NoPart else None)

-- what a draft comes to where the text ends, behind so many lines
abbrev pub finished : ℕ → Draft → Checked Plant
finished lines d = if is_some d.current then faulty NotEnded (lines + 1) else (if nat_eq (length d.plant.parts) 0 then faulty NoPart (lines + 1) else fine d.plant)

-- a text that some bytes read as
pub record IsRead (text : ModelText) : Type 0 where
  pub bytes : List ℕ
  pub reads : ReadsAs bytes text

-- the plant of a text, or its first fault of checking
unfoldable pub checked : ModelText → Checked Plant
checked text = after (all_added empty text.statements) (finished text.lines)

-- a fault is the one found; want of memory tells nothing
abbrev pub Finds : {A : Type 0} → ModelFault → Checked A → Type 0
Finds (At code line) (fine x) = ⊥
Finds (At code line) (faulty c n) = (code ≡ c) × (line ≡ n)
Finds Memory found = Unit {0}
