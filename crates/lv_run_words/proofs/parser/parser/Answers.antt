-- The command line, command by command.
use Rattle.std.proofs.Common.{codes, None, Some, ◌∙◌, ap}
use Rattle.std.proofs.lemmas.Result.{IfOk-weaker}
use Rattle.clap.specs.Words.{App, with_subcommand}
use Rattle.lv_run_words.specs.Parser.{over_two, over_one, number_parser}
use Rattle.lv_run_words.proofs.Readings.{without_help_flag, without_help, with_commands, adds}
use Rattle.lv_run_words.proofs.parser.parser.Goals as goal

pub returns : goal.returns
returns c =
    let a = without_help_flag c.new.result c.disable_help_flag.result _ c.new.ensures.app c.disable_help_flag.ensures in
    let b = without_help c.disable_help_flag.result c.disable_help_subcommand.result _ a c.disable_help_subcommand.ensures in
    let d = with_commands c.disable_help_subcommand.result c.subcommand_required-parser.result _ b c.subcommand_required-parser.ensures in
    let more = (λ (command before : App). with_subcommand before command.top) in
    let run = c.in_ok-parser.ensures (over_two (codes "run") None None) c.over_files.ensures ∙ ap (more (over_two (codes "run") None None)) d in
    let lanes = c.in_ok-parser-2.ensures (over_two (codes "lanes") None None) c.over_files-2.ensures ∙ ap (more (over_two (codes "lanes") None None)) run in
    let plant = c.in_ok-parser-3.ensures (over_two (codes "plant") None None) c.over_files-3.ensures ∙ ap (more (over_two (codes "plant") None None)) lanes in
    let check = c.in_ok-parser-4.ensures (over_two (codes "check") None None) c.over_files-4.ensures ∙ ap (more (over_two (codes "check") None None)) plant in
    let print = c.in_ok-parser-5.ensures (over_one (codes "print") None) c.over_file.ensures ∙ ap (more (over_one (codes "print") None)) check in
    let drive = c.in_ok-parser-6.ensures (over_one (codes "drive") (Some number_parser)) c.drive.ensures ∙ ap (more (over_one (codes "drive") (Some number_parser))) print in
    let generate = c.in_ok-generate.ensures in
    IfOk-weaker c.subcommand.result _ _ (λ whole added. record {
      kind = generate.kind;
      is_kind = generate.is_kind;
      app_is = adds c.in_ok-parser-6.parser whole _ drive c.in_ok-generate.field-0 (over_two (codes "generate") (Some generate.kind) (Some number_parser)) generate.is added;
    }) c.subcommand.ensures
