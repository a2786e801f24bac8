-- one move more
use Rattle.std.proofs.Common.{◌≡◌, ◌+◌, ◌∷◌, List, drop, sym, ap, ◌∙◌, subst}
use Rattle.std.proofs.lemmas.List.{drop_more, drop_all}
use Rattle.lv_sat.specs.Solver.{SolverValue}
use Rattle.lv_compile.specs.Laws.{move_number}
use Rattle.lv_model.specs.declared.plant.Move.{Move}
use Rattle.lv_model.specs.Meaning.{is_no_fault}
use Rattle.lv_reconf.specs.Narrowing.{NarrowsSoFar, no_fault_from}
use Rattle.lv_reconf.proofs.NarrowingLemmas.{fault_more, no_fault_more, narrows_end, no_fault_left, denied_not, allowed_not}
use Rattle.lv_reconf.proofs.clauses.exclude_faults_of.Goals as goal
use Rattle.lv_reconf.proofs.clauses.exclude_faults_of.Goals.{then-is_fault+in_ok-exclude_move, else-is_fault}

pub loop-n-preserved : goal.loop-n-preserved
loop-n-preserved c =
    let ms = c.args.moves.now in
    let n = c.loop-n.n in
    let m : Move = c.index-moves-n.result in
    let left : drop n ms ≡ m ∷ drop (n + 1) ms = drop_more ms n m c.loop-n-test.true ∙ ap (λ (x : Move). x ∷ drop (n + 1) ms) (sym c.index-moves-n.is) in
    let P : SolverValue → Type 0 = λ s. NarrowsSoFar c.args.compiled.now c.args.solver.now.set s.set (no_fault_left c.args.compiled.now (n + 1) (drop (n + 1) ms) c.args.part) (no_fault_left c.args.compiled.now 0 ms c.args.part) in
    elim c.if-is_fault.branch [
      | then-is_fault+in_ok-exclude_move w ↦ subst P (sym w.solver-is)
          (fault_more c.args.compiled.now c.args.solver.now.set c.loop-n.solver.set w.exclude_move.new.solver.set m n c.args.part (drop n ms) (drop (n + 1) ms) ms left
          (denied_not (is_no_fault m.kind) (sym c.is_fault.ensures ∙ w.if-is_fault.true)) c.loop-n.invariant w.in_ok-exclude_move.ensures)
      | else-is_fault w ↦ subst P (sym w.solver-is)
          (no_fault_more c.args.compiled.now c.args.solver.now.set c.loop-n.solver.set m n c.args.part (drop n ms) (drop (n + 1) ms) ms left
          (allowed_not (is_no_fault m.kind) (sym c.is_fault.ensures ∙ w.if-is_fault.false)) c.loop-n.invariant)
    ]

pub returns : goal.returns
returns c =
    narrows_end c.args.compiled.now c.args.solver.now.set c.loop-n.solver.set (no_fault_left c.args.compiled.now c.loop-n.n (drop c.loop-n.n c.args.moves.now) c.args.part)
    (no_fault_left c.args.compiled.now 0 c.args.moves.now c.args.part) c.loop-n.invariant
    (λ values a b ms code. ap (λ (xs : List Move). no_fault_from c.loop-n.n xs (move_number ms c.args.part)) (drop_all c.loop-n.n c.args.moves.now c.loop-n-test.false))
