-- The statements of a text, gathered line by line.
use Rattle.std.proofs.Common.{◌≡◌, ℕ, ◌+◌, ◌-◌, ◌<◌, ◌≤◌, List, [], ◌∷◌, ◌++◌, length, take, drop, refl, sym, subst, ◌∙◌, ap, arith, append_assoc, length-drop, Option, None}
use Rattle.std.proofs.lemmas.List.{append-nil, take_all}
use Rattle.lv_base.specs.declared.limits.TheConstants.{MODEL_BYTES}
use Rattle.lv_text.specs.Lines.{lines_of, BeginsWithLine}
use Rattle.lv_reader.specs.declared.code.ModelCode.{ModelCode}
use Rattle.lv_reader.specs.declared.code.ModelCode.TheVariants.{TextTooLong}
use Rattle.lv_reader.specs.declared.fault.ModelFault.{ModelFault}
use Rattle.lv_reader.specs.declared.fault.ModelFault.TheVariants.{At, Memory}
use Rattle.lv_reader.specs.declared.statement.NumberedStatement.{NumberedStatement}
use Rattle.lv_reader.specs.declared.version.Version.{Version}
use Rattle.lv_reader.specs.Versions.{version_in, known_behind, stated}
use Rattle.lv_reader.specs.Lines.{IsRefused}
use Rattle.lv_reader.specs.Texts.{AreStatements, none_left, one_more, IsFirstRefused, at_once, later, numbered, ReadsAs, AddsLine, TellsLine, TellsLines, TellsReading, IsReadingFault, too_long, refused}

-- so many lines were read, and what they say was found: what the rest says goes behind it, and the first line of the rest that is
-- refused is the first of all
pub record IsUnderWay (bytes rest : List ℕ) (known : Option Version) (lines : ℕ) (found : List NumberedStatement) : Type 0 where
  pub count : lines + length (lines_of rest) ≡ length (lines_of bytes)
  pub room : lines + length rest ≤ length bytes
  pub joins : (ss : List NumberedStatement) → AreStatements known lines (lines_of rest) ss → AreStatements None 0 (lines_of bytes) (found ++ ss)
  pub faults : (code : ModelCode) (at : ℕ) → IsFirstRefused known lines (lines_of rest) code at → IsFirstRefused None 0 (lines_of bytes) code at

pub at_start : (bytes : List ℕ) → IsUnderWay bytes bytes None 0 []
at_start bytes = record { count = omega arith; room = omega arith; joins = λ ss h. h; faults = λ code at h. h }

-- a slice to the end is what is left
rest_of_bytes : (whole : ℕ) (text : List ℕ) → drop whole text ≡ take (length text - whole) (drop whole text)
rest_of_bytes whole text =
    let left : length (drop whole text) ≡ length text - whole = length-drop whole text in
    sym (take_all (length text - whole) (drop whole text) (omega (arith, left)))

one_line_read : (bytes rest : List ℕ) (known next : Option Version) (lines shown whole : ℕ) (found longer : List NumberedStatement) → IsUnderWay bytes rest known lines found
    → BeginsWithLine rest shown whole → AddsLine known (lines + 1) (take shown rest) found longer next → IsUnderWay bytes (drop whole rest) next (lines + 1) longer
one_line_read bytes rest known next lines shown whole found longer u b a =
    let same : lines_of rest ≡ take shown rest ∷ lines_of (drop whole rest) = b.lines in
    let counted = rw same at u.count in
    let left : length (drop whole rest) ≡ length rest - whole = length-drop whole rest in
    let moves = b.moves in
    let inside = b.inside in
    let room = u.room in
    record {
      count = omega (arith, counted);
      room = omega (arith, left, moves, inside, room);
      joins = λ ss are.
          let behind : AreStatements (known_behind known a.said) (lines + 1) (lines_of (drop whole rest)) ss =
          subst (λ v. AreStatements v (lines + 1) (lines_of (drop whole rest)) ss) a.behind are in
          let whole_text : AreStatements None 0 (lines_of bytes) (found ++ (numbered (lines + 1) (stated known a.said) ++ ss)) =
          u.joins (numbered (lines + 1) (stated known a.said) ++ ss)
          (subst (λ ls. AreStatements known lines ls (numbered (lines + 1) (stated known a.said) ++ ss)) (sym same) (one_more a.said a.says behind refl)) in
          subst (λ xs. AreStatements None 0 (lines_of bytes) xs) (sym (append_assoc found (numbered (lines + 1) (stated known a.said)) ss) ∙ ap (λ xs. xs ++ ss) (sym a.added)) whole_text;
      faults = λ code at first.
          let behind : IsFirstRefused (known_behind known a.said) (lines + 1) (lines_of (drop whole rest)) code at =
          subst (λ v. IsFirstRefused v (lines + 1) (lines_of (drop whole rest)) code at) a.behind first in
          u.faults code at (subst (λ ls. IsFirstRefused known lines ls code at) (sym same) (later a.said a.says behind));
    }

-- one more line is read
pub line_read : (bytes rest : List ℕ) (known next : Option Version) (lines shown whole : ℕ) (found longer : List NumberedStatement) → IsUnderWay bytes rest known lines found
    → BeginsWithLine rest shown whole → AddsLine known (lines + 1) (take shown rest) found longer next
    → IsUnderWay bytes (take (length rest - whole) (drop whole rest)) next (lines + 1) longer
line_read bytes rest known next lines shown whole found longer u b a =
    subst (λ ls. IsUnderWay bytes ls next (lines + 1) longer) (rest_of_bytes whole rest) (one_line_read bytes rest known next lines shown whole found longer u b a)

-- a line that is refused is the first
pub line_refused : (bytes rest : List ℕ) (known : Option Version) (lines shown whole : ℕ) (found : List NumberedStatement) (code : ModelCode) → IsUnderWay bytes rest known lines found
    → BeginsWithLine rest shown whole → IsRefused (version_in known) (take shown rest) code → IsFirstRefused None 0 (lines_of bytes) code (lines + 1)
line_refused bytes rest known lines shown whole found code u b why =
    u.faults code (lines + 1) (subst (λ ls. IsFirstRefused known lines ls code (lines + 1)) (sym b.lines) (at_once why refl))

-- all lines are read
pub all_read : (bytes rest : List ℕ) (known : Option Version) (lines : ℕ) (found : List NumberedStatement) → IsUnderWay bytes rest known lines found → rest ≡ [] → length bytes ≤ MODEL_BYTES
    → ReadsAs bytes (record { statements = found; lines = lines })
all_read bytes rest known lines found u e within =
    let none : lines_of rest ≡ [] = ap lines_of e in
    let counted = rw none at u.count in
    record {
      within = within;
      statements = subst (λ xs. AreStatements None 0 (lines_of bytes) xs) (append-nil found) (u.joins [] (subst (λ ls. AreStatements known lines ls []) (sym none) none_left));
      lines = omega (arith, counted);
    }

-- a line that adds nothing gives the first fault
pub line_tells : (bytes rest : List ℕ) (known : Option Version) (lines shown whole : ℕ) (found : List NumberedStatement) (fault : ModelFault) → IsUnderWay bytes rest known lines found
    → BeginsWithLine rest shown whole → TellsLine fault known (lines + 1) (take shown rest) → TellsLines fault (lines_of bytes)
line_tells bytes rest known lines shown whole found (At code at) u b told =
    subst (λ n. IsFirstRefused None 0 (lines_of bytes) code n) (sym told.0) (line_refused bytes rest known lines shown whole found code u b told.1)
line_tells bytes rest known lines shown whole found Memory u b told = tt

-- what the lines tell of a text within its limit is what the text tells
pub lines_tell : (bytes : List ℕ) → length bytes ≤ MODEL_BYTES → (fault : ModelFault) → TellsLines fault (lines_of bytes) → TellsReading fault bytes
lines_tell bytes within (At code line) told = refused (record { within = within; first = told })
lines_tell bytes within Memory told = tt

pub beyond_limit : (bytes : List ℕ) → MODEL_BYTES < length bytes → IsReadingFault bytes TextTooLong 0
beyond_limit bytes beyond = too_long (record { beyond = beyond; code_is = refl; line_is = refl })
