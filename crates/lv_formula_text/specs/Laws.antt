-- What holds of formulas whatever their text.
use Rattle.std.specs.Prelude.{◌≡◌, ◌≤◌, ℕ, Bool, true, false, not, ◌||◌, List, ◌++◌, length, All}
use Rattle.std.specs.List.{list_all}
use Rattle.lv_base.specs.declared.limits.TheConstants.{LINE_BYTES}
use Rattle.lv_text.specs.Lexemes.{Lexeme, reads, line_reading}
use Rattle.lv_text.specs.Laws.{IsLexeme}
use Rattle.lv_formula_text.specs.PhraseTree.{PhraseTree}
use Rattle.lv_formula_text.specs.Grammar.{IsFormula}
use Rattle.lv_formula_text.specs.Nesting.{opens, closes, nests, is_too_deep}
use Rattle.lv_formula_text.specs.Spacing.{spaced}
use Rattle.lv_formula_text.specs.Canonical.{tokens_of}
use Rattle.lv_formula_text.specs.Omission.{Omits}

-- tokens have at most one tree
abbrev pub FormulaIsOne : Type 0
FormulaIsOne = (ts : List Lexeme) (f g : PhraseTree) → IsFormula ts f → IsFormula ts g → f ≡ g

-- the canonical tokens of what tokens derive derive it too
abbrev pub CanonicalReadsBack : Type 0
CanonicalReadsBack = (ts : List Lexeme) (f : PhraseTree) → IsFormula ts f → IsFormula (tokens_of f) f

-- they are the tokens that derive it, some pairs of parentheses left out
abbrev pub CanonicalOmits : Type 0
CanonicalOmits = (ts : List Lexeme) (f : PhraseTree) → All IsLexeme ts → IsFormula ts f → Omits ts (tokens_of f)

-- so they are tokens that a line can have
abbrev pub CanonicalIsText : Type 0
CanonicalIsText = (ts : List Lexeme) (f : PhraseTree) → All IsLexeme ts → IsFormula ts f → All IsLexeme (tokens_of f)

-- a token that doesn't count for how deep a line nests
abbrev pub is_flat : Lexeme → Bool
is_flat l = not (opens l.kind || (closes l.kind || nests l.kind))

-- they nest no deeper, whatever stands before them that doesn't nest
abbrev pub CanonicalIsShallow : Type 0
CanonicalIsShallow = (front back ts : List Lexeme) (f : PhraseTree) → list_all is_flat front ≡ true → list_all is_flat back ≡ true → All IsLexeme ts → IsFormula ts f
    → is_too_deep (front ++ ts) ≡ false → is_too_deep (back ++ tokens_of f) ≡ false

-- and their text is no longer, behind a word or not
abbrev pub CanonicalIsNoLonger : Type 0
CanonicalIsNoLonger = (after_word : Bool) (ts : List Lexeme) (f : PhraseTree) → All IsLexeme ts → IsFormula ts f
    → length (spaced after_word (tokens_of f)) ≤ length (spaced after_word ts)

-- the text of tokens is no longer than a line that reads as them
abbrev pub SpacedIsNoLonger : Type 0
SpacedIsNoLonger = (line : List ℕ) (ts : List Lexeme) → line_reading line ≡ reads ts → length (spaced false ts) ≤ length line

-- and reads as them, if it is not too long
abbrev pub SpacedIsReadAgain : Type 0
SpacedIsReadAgain = (ts : List Lexeme) → All IsLexeme ts → length (spaced false ts) ≤ LINE_BYTES → line_reading (spaced false ts) ≡ reads ts
