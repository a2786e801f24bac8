-- a refutation is kept of copies
use Rattle.std.proofs.Common.{◌≡◌, List, ap, subst, sym, ◌∙◌}
use Rattle.lv_base.specs.declared.ids.Lit.{Lit}
use Rattle.lv_sat.specs.Answers.{IsRefutation}
use Rattle.lv_sat.specs.Solver.{Refutes}
use Rattle.lv_sat.proofs.RefutedLemmas.{refuted_now}
use Rattle.lv_sat.proofs.solver.Solver.seek.Goals as goal

pub invariant_of-self-in_ok-copy_of-in-Unsat : goal.invariant_of-self-in_ok-copy_of-in-Unsat
invariant_of-self-in_ok-copy_of-in-Unsat c =
    let told : IsRefutation c.self.inside.set c.args.assumptions.now c.in-Unsat.core c.in-Unsat.log = rw c.in-Unsat.is at c.in_ok-answer.ensures.answer in
    let same : c.in_ok-copy_of-in-Unsat.field-0 ≡ record { core = c.in-Unsat.core; log = c.in-Unsat.log } =
    c.in_ok-copy_of-in-Unsat.ensures ∙ ap (λ (core : List Lit). record { core = core; log = c.in-Unsat.log }) c.as_slice-in-Unsat.ensures in
    record {
      front = c.answer.ensures.kept;
      last = c.self.invariant.last;
      refuted = subst (Refutes c.self.inside.set) (sym same) (refuted_now c.self.inside.set c.args.assumptions.now c.in-Unsat.core c.in-Unsat.log told);
    }

pub invariant_of-self-in_ok-copy_of-in-Unsat-2 : goal.invariant_of-self-in_ok-copy_of-in-Unsat-2
invariant_of-self-in_ok-copy_of-in-Unsat-2 c =
    let told : IsRefutation c.self.inside.set c.args.assumptions.now c.in-Unsat.core c.in-Unsat.log = rw c.in-Unsat.is at c.in_ok-answer.ensures.answer in
    let same : c.in_ok-copy_of-in-Unsat.field-0 ≡ record { core = c.in-Unsat.core; log = c.in-Unsat.log } =
    c.in_ok-copy_of-in-Unsat.ensures ∙ ap (λ (core : List Lit). record { core = core; log = c.in-Unsat.log }) c.as_slice-in-Unsat.ensures in
    record {
      front = c.answer.ensures.kept;
      last = c.self.invariant.last;
      refuted = subst (Refutes c.self.inside.set) (sym same) (refuted_now c.self.inside.set c.args.assumptions.now c.in-Unsat.core c.in-Unsat.log told);
    }
