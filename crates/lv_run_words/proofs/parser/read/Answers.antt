-- What was read is what the words say, as the walk over them tells.
use Rattle.std.proofs.Common.{◌∙◌, map, Global}
use Rattle.std.specs.Prelude.{string_bytes}
use Rattle.clap.specs.Words.{app_of, kind_of, subcommand_rows_of}
use Rattle.lv_run_words.specs.Parser.{fault_by}
use Rattle.lv_run_words.proofs.ClapCommands.{lone_refused, read_matches, refused_matches}
use Rattle.lv_run_words.proofs.Readings.{lone_behind, flags_behind, handed}
use Rattle.lv_run_words.proofs.parser.read.Goals as goal

pub returns-then-has_lone_dash-clause-refused : goal.returns-then-has_lone_dash-clause-refused
returns-then-has_lone_dash-clause-refused c =
    λ refused. lone_refused (map (string_bytes {Z = Global}) c.args.words.now)
    (lone_behind c.args.words.now c.has_lone_dash.result c.has_lone_dash.ensures ∙ c.if-has_lone_dash.true)

pub returns-in_err-try_get_matches_from-clause-refused :
    goal.returns-in_err-try_get_matches_from-clause-refused
returns-in_err-try_get_matches_from-clause-refused c =
    λ refused.
    let made = c.in_ok-parser.ensures in
    let error = c.in_err-try_get_matches_from.field-0.0 in
    refused_matches made.kind made.is_kind (map (string_bytes {Z = Global}) c.args.words.now)
    (lone_behind c.args.words.now c.has_lone_dash.result c.has_lone_dash.ensures ∙ c.if-has_lone_dash.false) (flags_behind c.args.words.now)
    (app_of c.in_ok-parser.field-0) made.app_is (kind_of error) c.in_err-try_get_matches_from.ensures.kinds
    (handed c.from_residual-in_err-try_get_matches_from.result (fault_by (kind_of error)) c.from_residual-in_err-try_get_matches_from.ensures.1 refused)

pub returns-clause-ok : goal.returns-clause-ok
returns-clause-ok c =
    let made = c.in_ok-parser.ensures in
    let found = c.in_ok-try_get_matches_from.field-0 in
    read_matches made.kind made.is_kind (map (string_bytes {Z = Global}) c.args.words.now)
    (lone_behind c.args.words.now c.has_lone_dash.result c.has_lone_dash.ensures ∙ c.if-has_lone_dash.false) (flags_behind c.args.words.now)
    (app_of c.in_ok-parser.field-0) made.app_is (subcommand_rows_of found) c.in_ok-try_get_matches_from.ensures.kinds c.in_ok-try_get_matches_from.ensures.matches
