-- what is told of the solver under what is assumed is told of the system and the clauses stated
use Rattle.std.proofs.Common.{◌≡◌, ◌++◌, ℕ, List, length, subst, sym, ◌∙◌, arith}
use Rattle.std.proofs.lemmas.List.{length-append}
use Rattle.std.proofs.lemmas.Result.{IfOk-weaker}
use Rattle.lv_cert_meaning.specs.Blocks.{clauses_of}
use Rattle.lv_cert_writing.specs.BlockNumbers.{HaveNumbers}
use Rattle.lv_cert_writing.specs.StatedClauses.{IsShared, AreStated}
use Rattle.lv_cert_writing.proofs.StatedClauseLemmas.{clause_count}
use Rattle.lv_cert_writing.proofs.SharedLemmas.{all_shared, tells_of}
use Rattle.lv_cert_writing.proofs.refuter.ask.Goals as goal

pub returns-clause-told : goal.returns-clause-told
returns-clause-told c =
    λ plant is.
    let s = c.args.system.now in
    let own = c.args.own.now in
    let before = c.clear.new.self in
    let block = c.state_all.new.self in
    let assumed = c.in_ok-assumed.assumed in
    let models : ℕ = c.clause_total-models.result in
    let models_are : length (clauses_of s) ≡ models = clause_count s ∙ sym c.clause_total-models.ensures in
    let cleared : IsShared s before.solver.set before.added.items before.numbers.items = c.clear.ensures.shared s c.requires.shared in
    let shared : IsShared s block.solver.set block.added.items block.numbers.items = c.in_ok-assumed.ensures.shared s cleared in
    let are : AreStated before.solver.set before.numbers.items models own block.solver.set block.numbers.items assumed.lits.items assumed.numbers.items = c.in_ok-assumed.ensures.stated in
    let given : HaveNumbers block.solver.set.slots (clauses_of s ++ own) block.numbers.items =
    are.numbered_are (clauses_of s) models_are (all_shared plant s before.solver.set before.added.items before.numbers.items is c.clear.ensures.empty cleared) in
    IfOk-weaker c.answer.result _ _ (tells_of s before.solver.set block.solver.set block.added.items models own before.numbers.items block.numbers.items assumed.lits.items assumed.numbers.items shared are)
    (c.answer.ensures.told (clauses_of s ++ own) (let same = c.from.ensures in omega (arith, same, models_are, length-append (clauses_of s) own))
    (subst (λ (ns : List ℕ). HaveNumbers block.solver.set.slots (clauses_of s ++ own) ns) (sym c.as_slice.ensures.value) given) (are.units_are (clauses_of s) models_are))
