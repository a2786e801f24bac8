use Rattle.lv_text.proofs.LexemeFacts.{comment_keeps}
use Rattle.lv_text.proofs.TokenLaws.{comment_law}
use Rattle.lv_text.proofs.laws.comment_changes_nothing.Goals as goal

pub returns-clause-tokens : goal.returns-clause-tokens
returns-clause-tokens c = comment_law

pub returns-clause-reading : goal.returns-clause-reading
returns-clause-reading c = comment_keeps
