-- each function is called with fewer tokens, or for what binds more tightly
use Rattle.std.proofs.Common.{◌+◌, ◌-◌, ◌*◌, ◌<◌, List, length, map}
use Rattle.lv_text.specs.Lexemes.{Lexeme}
use Rattle.lv_formula_text.specs.PhraseTree.{tree_of, tree_in}
use Rattle.lv_formula_text.specs.Connectives.{level}
use Rattle.lv_formula_text.specs.Grammar.{IsUnary}
use Rattle.lv_formula_text.specs.Reading.{Reads}
use Rattle.lv_formula_text.proofs.ParserLemmas.{Joining, Negating}
use Rattle.lv_formula_text.proofs.parser.+read.Given as goal

abbrev pub decreases-joined : goal.decreases-joined
decreases-joined l = 16 * length l.cursor.now + (12 - 2 * level l.connective)

abbrev pub decreases-joined_behind : goal.decreases-joined_behind
decreases-joined_behind l = 16 * length l.cursor.now + (10 - 2 * level l.connective)

abbrev pub decreases-operand_behind : goal.decreases-operand_behind
decreases-operand_behind l = 16 * length l.cursor.now + (9 - 2 * level l.connective)

abbrev pub decreases-operand : goal.decreases-operand
decreases-operand l = 16 * length l.cursor.now + (11 - 2 * level l.connective)

abbrev pub decreases-unary : goal.decreases-unary
decreases-unary l = 16 * length l.cursor.now + 1

abbrev pub decreases-primary : goal.decreases-primary
decreases-primary l = 16 * length l.cursor.now

-- the operands read so far are followed by a sign
abbrev pub invariant-joined_behind-operands : goal.invariant-joined_behind-operands
invariant-joined_behind-operands l = record {
  reading : (ts : List Lexeme) → Reads IsUnary 5 ts (tree_in l.fn.first) l.fn.cursor → Joining l.connective ts l.cursor (map tree_of l.operands.items);
  left : length l.cursor < length l.fn.cursor;
}

abbrev pub decreases-joined_behind-operands : goal.decreases-joined_behind-operands
decreases-joined_behind-operands l = length l.cursor

abbrev pub invariant-unary-signs : goal.invariant-unary-signs
invariant-unary-signs l = Negating l.fn.cursor l.cursor

abbrev pub decreases-unary-signs : goal.decreases-unary-signs
decreases-unary-signs l = length l.cursor
