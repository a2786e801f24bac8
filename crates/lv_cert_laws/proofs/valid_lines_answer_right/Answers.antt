-- what is proved of what was judged is so of the lines
use Rattle.lv_cert_laws.proofs.Right.{answers_right}
use Rattle.lv_cert_laws.proofs.valid_lines_answer_right.Goals as goal

pub returns : goal.returns
returns c = answers_right
