use Rattle.lv_text.proofs.TokenSteps.{piece_tokens_at, piece_stands_at}
use Rattle.lv_text.proofs.lexer.piece_at.Goals as goal

pub returns-clause-tokens : goal.returns-clause-tokens
returns-clause-tokens c = piece_tokens_at c.args.line.now c.args.place c.piece_of.result c.piece_of.ensures

pub returns-clause-fits : goal.returns-clause-fits
returns-clause-fits c = piece_stands_at c.args.line.now c.args.place c.piece_of.result c.piece_of.ensures
