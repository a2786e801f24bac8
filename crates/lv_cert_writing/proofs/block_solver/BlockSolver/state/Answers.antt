-- the clause is assumed, or added
use Rattle.std.proofs.Common.{◌≡◌, length, true, false, nat_eq, slice_index, get_or, Result, Ok, Err, OnOk, sym, ◌∙◌, arith, rules}
use Rattle.std.proofs.lemmas.Bool.Decides.{nat_tests}
use Rattle.std.proofs.lemmas.Result.{on_ok_weaker}
use Rattle.lv_base.specs.declared.ids.Lit.{Lit}
use Rattle.lv_clauses.specs.Literals.{in_range}
use Rattle.lv_cert_writing.proofs.StatedClauseLemmas.{single, single_within, one_added, one_assumed}
use Rattle.lv_cert_writing.proofs.block_solver.BlockSolver.state.Goals as goal

both : {T E : Type 0} (P Q : Type 0) (r : Result T E) → OnOk r P → OnOk r Q → OnOk r (P × Q)
both P Q (Ok x) p q = (p, q)
both P Q (Err e) p q = p

pub returns-then-is_free-clause-stated : goal.returns-then-is_free-clause-stated
returns-then-is_free-clause-stated c =
    let clause = c.args.clause.now in
    let l : Lit = get_or clause 0 (record { var = record { 0 = 0 }; sign = false }) in
    let set = c.args.self.now.solver.set in
    let units = c.args.assumed.now.numbers.items in
    let one : length clause ≡ 1 = search rules in
    let told : nat_eq (slice_index units l.var.0) 0 ≡ true = sym c.is_free.ensures ∙ c.if-is_free.true in
    let free : slice_index units l.var.0 ≡ 0 = grind (arith, nat_tests, told) in
    let within : in_range set.bools l ≡ true = single_within set.bools clause (record { var = record { 0 = 0 }; sign = false }) one c.requires.over.clause in
    on_ok_weaker c.assume.result
    (λ two first kept models own count far.
    one_assumed first kept models own set c.args.self.now.numbers.items c.args.assumed.now.lits.items units far clause l (single clause (record { var = record { 0 = 0 }; sign = false }) one) free within c.args.number count
    c.assume.new.self.lits.items c.assume.new.self.numbers.items two.0 two.1)
    (both _ _ c.assume.result c.assume.ensures.lits c.assume.ensures.numbers)

pub returns-clause-stated : goal.returns-clause-stated
returns-clause-stated c =
    on_ok_weaker c.add.result
    (λ adds first kept models own count far.
    one_added first kept models own c.args.self.now.solver.set c.args.self.now.numbers.items c.args.assumed.now.lits.items c.args.assumed.now.numbers.items far c.args.clause.now c.add.new.self.solver.set c.add.new.self.numbers.items
    c.args.number count adds)
    c.add.ensures.added
