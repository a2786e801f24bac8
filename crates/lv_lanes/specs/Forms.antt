-- What a line of lanes asks for, whatever lanes there are.
use Rattle.std.specs.Prelude.{ℕ, ◌+◌, ◌≡◌, List, [], ◌∷◌, Bool, false, ◌&&◌, ◌||◌, length, take, drop, nat_eq, nat_le, nat_lt, slice_index, codes, if◌then◌else◌}
use Rattle.std.specs.List.{prefix_len}
use Rattle.std.specs.Option.{option_map_or}
use Rattle.lv_base.specs.declared.limits.TheConstants.{LINE_BYTES, NAME_BYTES, BUDGET}
use Rattle.lv_text.specs.Bytes.{is_letter, is_blank, is_word_byte}
use Rattle.lv_text.specs.Lexemes.{Lexeme, Reading, reads, has_bad_byte, is_too_long, line_reading, is_number, kind_at, number_at, says}
use Rattle.lv_lanes.specs.declared.fault.LaneFault.{LaneFault}
use Rattle.lv_lanes.specs.declared.fault.LaneFault.TheVariants.{LongLine, NoForm, NoLane, OutOfLimits}
use Rattle.lv_lanes.specs.declared.form.LaneLine.{LaneLine}
use Rattle.lv_lanes.specs.declared.form.LaneLine.TheVariants.{Nothing, Refused, ForLane, Turn}

-- what a line asks for: nothing; or it is refused; or a line is for the lane of a name; or it is a turn of so many trials
pub data Asked : Type 0 where
  nothing : Asked
  refused : LaneFault → Asked
  for_lane : List ℕ → List ℕ → Asked
  turn : ℕ → Asked

-- what stands behind an `@` is a word, and then the end or a blank
abbrev pub is_address : List ℕ → Bool
is_address rest =
    let end = prefix_len is_word_byte rest in
    is_letter (slice_index rest 0) && (nat_eq end (length rest) || is_blank (slice_index rest end))

-- by what stands behind an `@`: what follows the one blank behind the name is for the lane, nothing where the line ends there
abbrev pub addressed : List ℕ → Asked
addressed rest =
    let end = prefix_len is_word_byte rest in
    if is_address rest
    then (if nat_lt NAME_BYTES end then refused NoLane else for_lane (take end rest) (drop (end + 1) rest))
    else refused NoForm

-- the word `turn` and a number
abbrev pub is_turn : List Lexeme → Bool
is_turn line = nat_eq (length line) 2 && says (codes "turn") line 0 && option_map_or is_number (kind_at line 1) false

-- the turn of a number, which is from 1 up to what may be asked for at once
abbrev pub turn_within : ℕ → Asked
turn_within trials = if nat_le 1 trials && nat_le trials BUDGET then turn trials else refused OutOfLimits

-- of a line of tokens; a number that is too great for its value to be known is out of the limits
abbrev pub turn_of : List Lexeme → Asked
turn_of [] = nothing
turn_of (word ∷ more) = if is_turn (word ∷ more) then option_map_or turn_within (number_at (word ∷ more) 1) (refused OutOfLimits) else refused NoForm

abbrev pub asked_by_reading : Reading → Asked
asked_by_reading (reads line) = turn_of line
asked_by_reading (has_bad_byte place) = refused NoForm
asked_by_reading is_too_long = refused LongLine

-- what a line asks for that is not too long; one that begins with `@` is for a lane
abbrev pub asked_by_short : List ℕ → Asked
asked_by_short line = if nat_eq (slice_index line 0) 64 then addressed (drop 1 line) else asked_by_reading (line_reading line)

-- what a line asks for
abbrev pub asked_by : List ℕ → Asked
asked_by line = if nat_lt LINE_BYTES (length line) then refused LongLine else asked_by_short line

-- the code's word for it
abbrev pub Asks : LaneLine → Asked → Type 0
Asks Nothing asked = asked ≡ nothing
Asks (Refused fault) asked = asked ≡ refused fault
Asks (ForLane name line) asked = asked ≡ for_lane name.now line.now
Asks (Turn trials) asked = asked ≡ turn trials
