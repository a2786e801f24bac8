-- a clause at a number that had none, and the rest
use Rattle.std.proofs.Common.{◌+◌, [], ◌∷◌, List, drop, sym, ap, ◌∙◌}
use Rattle.std.proofs.lemmas.List.{drop_more, drop_all}
use Rattle.lv_base.specs.declared.ids.Lit.{Lit}
use Rattle.lv_reconf.specs.Narrowing.{Adds}
use Rattle.lv_reconf.proofs.NarrowingLemmas.{adds_one, adds_more, adds_all}
use Rattle.lv_reconf.proofs.clauses.add_all.Goals as goal

pub loop-clause-preserved : goal.loop-clause-preserved
loop-clause-preserved c =
    let cs = c.args.clauses.now in
    let i = c.loop-clause.clause-index in
    let x = c.clause-item.result in
    let one : Adds c.loop-clause.solver.set c.add.new.self.set (x ∷ []) = adds_one c.loop-clause.solver.set c.add.new.self.set c.in_ok-add.field-0.0 x c.in_ok-add.ensures.vacant (rw (← c.as_slice.ensures) c.in_ok-add.ensures.added) in
    record {
      bools = one.bools ∙ c.loop-clause.invariant.bools;
      says =
          adds_more c.args.solver.now.set c.loop-clause.solver.set c.add.new.self.set x (drop i cs) (drop (i + 1) cs) cs
          (drop_more cs i x c.loop-clause-test.true ∙ ap (λ (y : List Lit). y ∷ drop (i + 1) cs) (sym c.clause-item.is)) c.loop-clause.invariant.bools c.loop-clause.invariant.says one;
    }

pub returns : goal.returns
returns c =
    adds_all c.args.solver.now.set c.loop-clause.solver.set (drop c.loop-clause.clause-index c.args.clauses.now) c.args.clauses.now (drop_all c.loop-clause.clause-index c.args.clauses.now c.loop-clause-test.false)
    c.loop-clause.invariant.bools c.loop-clause.invariant.says
