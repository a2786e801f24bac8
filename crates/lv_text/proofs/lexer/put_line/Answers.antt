use Rattle.std.proofs.lemmas.Result.{on_ok_weaker}
use Rattle.lv_text.proofs.TokenFacts.{all_tokens_each, all_tokens_follow}
use Rattle.lv_text.proofs.lexer.put_line.Goals as goal

pub returns-clause-each : goal.returns-clause-each
returns-clause-each c = on_ok_weaker c.put_tokens.result (λ is. all_tokens_each c.args.line.now _ is) c.put_tokens.ensures.ok

pub returns-clause-in_order : goal.returns-clause-in_order
returns-clause-in_order c = on_ok_weaker c.put_tokens.result (λ is. all_tokens_follow c.args.line.now _ is) c.put_tokens.ensures.ok
