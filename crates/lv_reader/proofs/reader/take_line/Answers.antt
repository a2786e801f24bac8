-- what the line says is taken, or is the version of the text
use Rattle.std.proofs.Common.{rules, sym}
use Rattle.lv_reader.proofs.TakingLemmas.{statement_taken, version_passed, nothing_taken}
use Rattle.lv_reader.proofs.reader.take_line.Goals as goal

pub returns-in_ok-take-in-Ok-Some-clause-ok : goal.returns-in_ok-take-in-Ok-Some-clause-ok
returns-in_ok-take-in-Ok-Some-clause-ok g c =
    statement_taken _ _ _ _ _ _ _ c.in-Ok-Some.statement (search rules) (search rules) (search rules) (search rules)

pub returns-else-not-gives_version-clause-ok : goal.returns-else-not-gives_version-clause-ok
returns-else-not-gives_version-clause-ok g c =
    version_passed _ _ _ _ _ _ c.in-Ok-Some.statement (search rules) (search rules) (search rules)

pub returns-in-Ok-None-clause-ok : goal.returns-in-Ok-None-clause-ok
returns-in-Ok-None-clause-ok g c = nothing_taken _ _ _ _ _ (search rules)
