-- each kept conflict is a reason
use Rattle.std.proofs.lemmas.Result.{IfOk-weaker}
use Rattle.lv_cert_recovery.proofs.DoneLemmas.{kept_are, answer_on}
use Rattle.lv_cert_recovery.proofs.whole.push_answer.Goals as goal

pub push_blocks-requires-clause-given : goal.push_blocks-requires-clause-given
push_blocks-requires-clause-given c = kept_are c.args.asking.now.plant c.args.asking.now.aim c.args.answer.now.listed.now c.args.answer.now.kept.now c.requires

pub returns : goal.returns
returns c =
    IfOk-weaker c.push_blocks.result _ _
    (λ x all.
    answer_on c.args.asking.now.plant c.args.asking.now.aim c.args.answer.now.listed.now c.args.answer.now.kept.now c.requires c.args.lines.now.items c.push_listed.new.lines.items c.push_blocks.new.lines.items
    c.in_ok-push_listed.ensures.told all)
    c.push_blocks.ensures.told
