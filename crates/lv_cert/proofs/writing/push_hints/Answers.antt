use Rattle.std.proofs.Common.{map}
use Rattle.std.specs.Prelude.{decimal}
use Rattle.lv_cert.proofs.WordLemmas.{hints_added}
use Rattle.lv_cert.proofs.writing.push_hints.Goals as goal

pub returns : goal.returns
returns c =
    hints_added c.args.out.now.items c.push_word.new.out.items c.push_numbers.new.out.items c.push_word-2.new.out.items (map decimal c.args.hints.now)
    c.in_ok-push_word.ensures c.in_ok-push_numbers.ensures c.in_ok-push_word-2.ensures
