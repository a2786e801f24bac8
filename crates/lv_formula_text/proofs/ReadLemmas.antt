-- What is read before the tokens end is no reading of all of them.
use Rattle.std.proofs.Common.{◌≡◌, ℕ, false, List, drop, length, nat_eq, sym, ap, subst, arith}
use Rattle.lv_text.specs.Lexemes.{Lexeme}
use Rattle.lv_formula_text.specs.declared.connective.Connective.TheVariants.{Equivalence}
use Rattle.lv_formula_text.specs.PhraseTree.{PhraseTree}
use Rattle.lv_formula_text.specs.Grammar.{IsJoined, IsFormula}
use Rattle.lv_formula_text.specs.Reading.{Reads}
use Rattle.lv_formula_text.specs.Nesting.{is_too_deep}
use Rattle.lv_formula_text.specs.ReadPhrase.{IsNone}
use Rattle.lv_formula_text.proofs.GrammarLemmas.{joined_one}

pub ends_late : (line : List Lexeme) (place : ℕ) (ts rest : List Lexeme) (f : PhraseTree) → ts ≡ drop place line → is_too_deep line ≡ false
    → Reads (IsJoined Equivalence) 1 ts f rest → nat_eq (length rest) 0 ≡ false → IsNone line place
ends_late line place ts rest f start shallow read more = record {
  shallow = shallow;
  refuted = λ g whole.
      let same = joined_one Equivalence read.text (subst (λ xs. IsFormula xs g) (sym start) whole) read.ends (omega arith) in
      let none : length rest ≡ 0 = ap length same.1 in
      by (length rest) none more;
}
  where
    by : (n : ℕ) → n ≡ 0 → nat_eq n 0 ≡ false → ⊥
    by n e h = absurd (grind arith)
