-- A text has at least one token.
use Rattle.std.proofs.Common.{◌<◌, List, length, arith}
use Rattle.lv_text.specs.Lexemes.{Lexeme}
use Rattle.lv_formula_text.specs.declared.path.Path.{Path}
use Rattle.lv_formula_text.specs.declared.connective.Connective.{Connective}
use Rattle.lv_formula_text.specs.PhraseTree.{PhraseTree}
use Rattle.lv_formula_text.specs.Grammar.{IsPath, own_word, word_of_part, IsEquation, sides, IsAtom, truth, falsity, equation, IsUnary, negated, enclosed, atomic, IsOperand, implication, disjunction, conjunction, unary, IsChain, alone, followed, IsJoined, joining}

path_shorter : {ts rest : List Lexeme} {p : Path} → IsPath ts p rest → length rest < length ts
path_shorter (own_word w e last) = omega arith
path_shorter (word_of_part p d w a b c) = omega arith

pub equation_shorter : {ts rest : List Lexeme} {f : PhraseTree} → IsEquation ts f rest → length rest < length ts
equation_shorter (sides l r s p e q) = let a = path_shorter p in let b = path_shorter q in omega arith

atom_shorter : {ts rest : List Lexeme} {f : PhraseTree} → IsAtom ts f rest → length rest < length ts
atom_shorter (truth w e t) = omega arith
atom_shorter (falsity w e t) = omega arith
atom_shorter (equation free p) = equation_shorter p

mutual
  pub unary_shorter : {ts rest : List Lexeme} {f : PhraseTree} → IsUnary ts f rest → length rest < length ts
  unary_shorter (negated s e p) = let a = unary_shorter p in omega arith
  unary_shorter (enclosed o c eo ec p) = let a = joined_shorter p in omega arith
  unary_shorter (atomic p) = atom_shorter p

  pub operand_shorter : {c : Connective} {ts rest : List Lexeme} {f : PhraseTree} → IsOperand c ts f rest → length rest < length ts
  operand_shorter (implication p) = joined_shorter p
  operand_shorter (disjunction p) = joined_shorter p
  operand_shorter (conjunction p) = joined_shorter p
  operand_shorter (unary p) = unary_shorter p

  pub joined_shorter : {c : Connective} {ts rest : List Lexeme} {f : PhraseTree} → IsJoined c ts f rest → length rest < length ts
  joined_shorter (joining fs p) = chain_shorter p

  pub chain_shorter : {c : Connective} {ts rest : List Lexeme} {fs : List PhraseTree} → IsChain c ts fs rest → length rest < length ts
  chain_shorter (alone p) = operand_shorter p
  chain_shorter (followed s p e more) = let a = operand_shorter p in let b = chain_shorter more in omega arith
