-- A command as a value of the program.
use Rattle.std.specs.Prelude.{string_bytes}
use Rattle.lv_run_words.specs.Words.{Said, runs, checks, prints, generates, drives}
use Rattle.lv_run_words.specs.declared.commands.Command.{Command}
use Rattle.lv_run_words.specs.declared.commands.Command.TheVariants.{Run, Check, Print, Generate, Drive}

-- what the command says
abbrev pub said_by : Command → Said
said_by (Run service model session) = runs service (string_bytes model) (string_bytes session)
said_by (Check model cert) = checks (string_bytes model) (string_bytes cert)
said_by (Print model) = prints (string_bytes model)
said_by (Generate kind number) = generates kind number
said_by (Drive number) = drives number
