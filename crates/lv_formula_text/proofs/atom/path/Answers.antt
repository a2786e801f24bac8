-- a path is found where its words and dot were taken
use Rattle.lv_formula_text.proofs.AtomLemmas.{own_found, part_found}
use Rattle.lv_formula_text.proofs.atom.path.Goals as goal

pub returns-then-not-takes-clause-found : goal.returns-then-not-takes-clause-found
returns-then-not-takes-clause-found c =
    rw c.in_ok-first.ensures (own_found c.args.cursor.now c.word.new.self c.takes.new.self c.in-Some.first.now c.in-Some.ensures.told c.if-not-takes.ensures.told)

pub returns-clause-found : goal.returns-clause-found
returns-clause-found c =
    rw (c.in_ok-first.ensures, c.in_ok-second.ensures)
    (part_found c.args.cursor.now c.word.new.self c.takes.new.self c.word-2.new.self c.in-Some.first.now c.in-Some-word.second.now c.in-Some.ensures.told c.if-not-takes.ensures.told c.in-Some-word.ensures.told)
