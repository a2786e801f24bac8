-- What a command says of the values that were read.
use Rattle.std.proofs.Common.{ap, ◌∙◌}
use Rattle.std.proofs.lemmas.Result.{IfOk-weaker}
use Rattle.clap.specs.Words.{found_of}
use Rattle.lv_run_words.specs.Words.{said_of}
use Rattle.lv_run_words.proofs.Readings.{two_are, one_is, none_is}
use Rattle.lv_run_words.proofs.commands.command_of_values.Goals as goal

pub returns-in-Some-Some-clause-ok : goal.returns-in-Some-Some-clause-ok
returns-in-Some-Some-clause-ok c =
    let values = two_are (found_of c.args.values.now) c.get_str.result c.get_str-2.result c.get_str.ensures c.get_str-2.ensures c.in-Some-Some.first c.in-Some-Some.second c.in-Some-Some.is-0 c.in-Some-Some.is-1 in
    IfOk-weaker c.command_of_two.result _ _ (λ given told. ap (said_of c.args.command.now) values ∙ told) c.command_of_two.ensures.ok

pub returns-in-Some-Some-clause-refused : goal.returns-in-Some-Some-clause-refused
returns-in-Some-Some-clause-refused c =
    let values = two_are (found_of c.args.values.now) c.get_str.result c.get_str-2.result c.get_str.ensures c.get_str-2.ensures c.in-Some-Some.first c.in-Some-Some.second c.in-Some-Some.is-0 c.in-Some-Some.is-1 in
    λ refused. ap (said_of c.args.command.now) values ∙ c.command_of_two.ensures.refused refused

pub returns-in-Some-None-clause-ok : goal.returns-in-Some-None-clause-ok
returns-in-Some-None-clause-ok c =
    let values = one_is (found_of c.args.values.now) c.get_str.result c.get_str-2.result c.get_str.ensures c.get_str-2.ensures c.in-Some-None.first c.in-Some-None.is-0 c.in-Some-None.is-1 in
    IfOk-weaker c.command_of_one.result _ _ (λ given told. ap (said_of c.args.command.now) values ∙ told) c.command_of_one.ensures.ok

pub returns-in-Some-None-clause-refused : goal.returns-in-Some-None-clause-refused
returns-in-Some-None-clause-refused c =
    let values = one_is (found_of c.args.values.now) c.get_str.result c.get_str-2.result c.get_str.ensures c.get_str-2.ensures c.in-Some-None.first c.in-Some-None.is-0 c.in-Some-None.is-1 in
    λ refused. ap (said_of c.args.command.now) values ∙ c.command_of_one.ensures.refused refused

pub returns-in-None-default-clause-refused : goal.returns-in-None-default-clause-refused
returns-in-None-default-clause-refused c =
    λ refused. ap (said_of c.args.command.now) (none_is (found_of c.args.values.now) c.get_str.result c.get_str-2.result c.get_str.ensures c.get_str-2.ensures c.in-None-default.is-0)
