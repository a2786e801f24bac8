use Rattle.std.proofs.Common.{◌∷◌, ◌++◌, [], map}
use Rattle.std.specs.Prelude.{codes, decimal}
use Rattle.lv_cert.specs.Texts.{literal_word}
use Rattle.lv_cert.proofs.WordLemmas.{clause_added}
use Rattle.lv_cert.proofs.writing.push_clause.Goals as goal

pub returns : goal.returns
returns c =
    clause_added c.args.out.now.items c.extend_from_slice.new.self.items c.push_literals.new.out.items c.push_hints.new.out.items
    (map literal_word c.args.literals.now) (codes "0" ∷ (map decimal c.args.hints.now ++ codes "0" ∷ []))
    c.in_ok-extend_from_slice.ensures.items c.in_ok-push_literals.ensures c.in_ok-push_hints.ensures
