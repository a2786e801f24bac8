-- one clause more is stated
use Rattle.std.proofs.Common.{◌≡◌, ◌+◌, ◌++◌, ◌∷◌, [], List, length, take, sym, subst, ap, ◌∙◌, arith}
use Rattle.std.proofs.lemmas.List.{take_more, length-take-le}
use Rattle.lv_base.specs.declared.ids.Lit.{Lit}
use Rattle.lv_cert_writing.specs.StatedClauses.{AreStated}
use Rattle.lv_cert_writing.proofs.block_solver.BlockSolver.state_all.Goals as goal

pub loop-at-preserved : goal.loop-at-preserved
loop-at-preserved c =
    let old = c.args.self.now in
    let own = c.args.own.now in
    let at = c.loop-at.at in
    let clause = c.as_slice.result.now in
    let long : length (take at own) ≡ at = length-take-le at own (let below = c.loop-at-test.true in omega (arith, below)) in
    let more : take (at + 1) own ≡ take at own ++ clause ∷ [] = take_more own at c.index-own-at.result c.loop-at-test.true ∙ ap (λ (d : List Lit). take at own ++ d ∷ []) (sym c.index-own-at.is ∙ sym c.as_slice.ensures) in
    let here = c.from.ensures in
    record {
      stated =
          subst (λ (cs : List (List Lit)). AreStated old.solver.set old.numbers.items c.args.models cs c.state.new.self.solver.set c.state.new.self.numbers.items c.state.new.assumed.lits.items c.state.new.assumed.numbers.items) (sym more)
          (c.in_ok-state.ensures.stated old.solver.set old.numbers.items c.args.models (take at own) (omega (arith, long, here)) c.loop-at.invariant.stated);
      shared = λ s is. c.state.ensures.shared s (c.loop-at.invariant.shared s is);
    }
