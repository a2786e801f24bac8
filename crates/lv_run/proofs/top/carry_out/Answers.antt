-- What was expected of words that say no command, or that were not read; and what is known of a text that is made.
use Rattle.std.proofs.Common.{◌≡◌, rules, subst, sym, map, Some, Option, Global}
use Rattle.std.specs.Prelude.{string_bytes}
use Rattle.lv_run_words.specs.Words.{Said, generates, drives, command_of}
use Rattle.lv_run.specs.Expected.{Follows, TellsVerdict}
use Rattle.lv_run.specs.Faults.{ended_status}
use Rattle.lv_run.proofs.ExpectedLemmas.{ended_at_words}
use Rattle.lv_run.proofs.top.carry_out.Goals as goal

pub returns-in_err-service-clause-meets : goal.returns-in_err-service-clause-meets
returns-in_err-service-clause-meets g c =
    ended_at_words _ _ c.in_err-service.field-0.0 _ _ c.in_err-service.ensures.refused c.from_residual.ensures.1

pub returns-in-Generate-clause-follows : goal.returns-in-Generate-clause-follows
returns-in-Generate-clause-follows g c =
    let said : command_of (map (string_bytes {Z = Global}) c.args.words.now) ≡ Some (generates c.in-Generate.kind c.in-Generate.number) = search rules in
    subst (λ (o : Option Said). Follows (g.F.Shelf.file c.args.shelf.now) o (ended_status c.generate.result)) (sym said)
    (c.generate.ensures.follows (g.F.Shelf.file c.args.shelf.now))

pub returns-in-Generate-clause-verdict : goal.returns-in-Generate-clause-verdict
returns-in-Generate-clause-verdict g c =
    let said : command_of (map (string_bytes {Z = Global}) c.args.words.now) ≡ Some (generates c.in-Generate.kind c.in-Generate.number) = search rules in
    subst (λ (o : Option Said). TellsVerdict (g.F.Shelf.file c.args.shelf.now) o c.generate.result) (sym said)
    (c.generate.ensures.verdict (g.F.Shelf.file c.args.shelf.now))

pub returns-in-Drive-clause-follows : goal.returns-in-Drive-clause-follows
returns-in-Drive-clause-follows g c =
    let said : command_of (map (string_bytes {Z = Global}) c.args.words.now) ≡ Some (drives c.in-Drive.number) = search rules in
    subst (λ (o : Option Said). Follows (g.F.Shelf.file c.args.shelf.now) o (ended_status c.drive.result)) (sym said)
    (c.drive.ensures.follows (g.F.Shelf.file c.args.shelf.now))

pub returns-in-Drive-clause-verdict : goal.returns-in-Drive-clause-verdict
returns-in-Drive-clause-verdict g c =
    let said : command_of (map (string_bytes {Z = Global}) c.args.words.now) ≡ Some (drives c.in-Drive.number) = search rules in
    subst (λ (o : Option Said). TellsVerdict (g.F.Shelf.file c.args.shelf.now) o c.drive.result) (sym said)
    (c.drive.ensures.verdict (g.F.Shelf.file c.args.shelf.now))
