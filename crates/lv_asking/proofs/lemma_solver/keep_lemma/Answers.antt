-- a clause that follows changes nothing beside the others
use Rattle.lv_asking.proofs.LemmaLemmas.{lemma_added}
use Rattle.lv_asking.proofs.lemma_solver.keep_lemma.Goals as goal

pub returns-then-is_clause : goal.returns-then-is_clause
returns-then-is_clause c = lemma_added c.args.bound c.args.solver.now.set c.add.new.self.set c.in_ok-add.field-0.0 c.args.clause.now c.in_ok-add.ensures.vacant c.in_ok-add.ensures.added c.requires.follows c.requires.filled
