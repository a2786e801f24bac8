-- a refutation under the assumptions becomes the lines of the block
use Rattle.std.proofs.Common.{Bool, List, sym, subst}
use Rattle.lv_base.specs.declared.ids.Lit.{Lit}
use Rattle.lv_sat.specs.declared.answer.Answer.{Answer}
use Rattle.lv_sat.specs.Answers.{IsRefutation, Answers as SolverAnswers}
use Rattle.lv_cert_writing.specs.BlockNumbers.{HaveUnits}
use Rattle.lv_cert_writing.specs.Needed.{AreNeeded}
use Rattle.lv_cert_writing.proofs.AnsweredLemmas.{answered}
use Rattle.lv_cert_writing.proofs.refuter.answer.Goals as goal

pub returns-clause-told : goal.returns-clause-told
returns-clause-told c =
    λ clauses long given stated.
    let set = c.args.solver.now.set in
    let log = c.in-Unsat.log in
    let assumed = c.as_slice.result.now in
    let units = c.as_slice-units.result.now in
    let needed = c.as_slice-in-Unsat.result.now in
    let is : IsRefutation set assumed c.in-Unsat.core log = subst (λ (a : Answer). SolverAnswers set assumed a) c.in-Unsat.is c.in_ok-values.ensures.answer in
    let have : HaveUnits clauses assumed units =
    subst (λ (ls : List Lit). HaveUnits clauses ls units) (sym c.as_slice.ensures.value) (subst (HaveUnits clauses c.args.assumed.now.lits.items) (sym c.as_slice-units.ensures.value) stated) in
    let marks : AreNeeded log needed 0 = subst (λ (bs : List Bool). AreNeeded log bs 0) (sym c.as_slice-in-Unsat.ensures.value) c.in_ok-needed-in-Unsat.ensures in
    c.in_ok-lines-in-Unsat.ensures set clauses long (answered set clauses c.args.numbers.now units assumed c.in-Unsat.core log needed is given have marks)
