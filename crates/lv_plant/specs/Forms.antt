-- What a line asks for, wherever the plant stands.
use Rattle.std.specs.Prelude.{ℕ, ◌≡◌, List, [], ◌∷◌, Bool, false, ◌&&◌, ◌||◌, length, nat_eq, codes, if◌then◌else◌, Option}
use Rattle.std.specs.Option.{option_map_or}
use Rattle.lv_text.specs.Lexemes.{Lexeme, Reading, reads, has_bad_byte, is_too_long, line_reading, is_number, is_word, kind_at, word_at, number_at, says}
use Rattle.lv_plant.specs.declared.fault.PlantFault.{PlantFault}
use Rattle.lv_plant.specs.declared.fault.PlantFault.TheVariants.{LineTooLong, ByteNotAllowed, NoForm}
use Rattle.lv_plant.specs.declared.form.PlantLine.{PlantLine}
use Rattle.lv_plant.specs.declared.form.PlantLine.TheVariants.{Nothing, Refused, ForSession, Name, Step, Apply}

-- what a line asks for: nothing; or it is refused; or it is for the session; or a part is to take its present mode's fault of a line,
-- of which the number may be too great to be known; or a step; or that the recovery is applied
pub data Asked : Type 0 where
  nothing : Asked
  refused : PlantFault → Asked
  for_session : Asked
  name : List ℕ → Option ℕ → Asked
  step : Asked
  apply : Asked

-- the line begins with a word that is handed to the session
abbrev pub goes_to_session : List Lexeme → Bool
goes_to_session line =
    says (codes "track") line 0 || says (codes "budget") line 0 || says (codes "command") line 0 || says (codes "release") line 0
    || says (codes "goal") line 0 || says (codes "drop") line 0 || says (codes "recover") line 0 || says (codes "conflicts") line 0
    || says (codes "states") line 0

-- the word `fault`, a word and a number
abbrev pub is_naming : List Lexeme → Bool
is_naming line =
    nat_eq (length line) 3 && says (codes "fault") line 0 && option_map_or is_word (kind_at line 1) false && option_map_or is_number (kind_at line 2) false

abbrev pub naming_of : List Lexeme → Asked
naming_of line = option_map_or (λ part. name part (number_at line 2)) (word_at line 1) (refused NoForm)

-- the word alone
abbrev pub is_alone : List ℕ → List Lexeme → Bool
is_alone word line = nat_eq (length line) 1 && says word line 0

-- of a line of tokens
abbrev pub asked_of : List Lexeme → Asked
asked_of [] = nothing
asked_of (first ∷ more) =
    if goes_to_session (first ∷ more) then for_session
    else (if is_naming (first ∷ more) then naming_of (first ∷ more)
    else (if is_alone (codes "step") (first ∷ more) then step
    else (if is_alone (codes "apply") (first ∷ more) then apply
    else refused NoForm)))

abbrev pub asked_by_reading : Reading → Asked
asked_by_reading (reads line) = asked_of line
asked_by_reading (has_bad_byte place) = refused ByteNotAllowed
asked_by_reading is_too_long = refused LineTooLong

-- what a line asks for
abbrev pub asked_by : List ℕ → Asked
asked_by line = asked_by_reading (line_reading line)

-- the code's word for it
abbrev pub Asks : PlantLine → Asked → Type 0
Asks Nothing asked = asked ≡ nothing
Asks (Refused fault) asked = asked ≡ refused fault
Asks ForSession asked = asked ≡ for_session
Asks (Name part tag) asked = asked ≡ name part.now tag
Asks Step asked = asked ≡ step
Asks Apply asked = asked ≡ apply
