-- what the solver answers tells whether there is a step that ends with the value
use Rattle.std.proofs.Common.{true, ap, ◌∙◌}
use Rattle.lv_base.specs.declared.ids.Lit.{Lit}
use Rattle.lv_compile.specs.Booleans.{booleans_next, value_literal}
use Rattle.lv_reconf.specs.Assuming.{CommandedValue}
use Rattle.lv_reconf.proofs.ShowingLemmas.{shown_sat, shown_unsat}
use Rattle.lv_reconf.proofs.commanded.Commanded.shows.Goals as goal

pub assume-requires : goal.assume-requires
assume-requires c = ap (λ (l : Lit). l.sign) c.ends_with.ensures

pub returns-in-Sat-clause-answer : goal.returns-in-Sat-clause-answer
returns-in-Sat-clause-answer c =
    λ present ends asks.
    shown_sat c.args.self.now.plant present ends c.args.solver.now.set c.in_ok-lits.lits.items c.assume.new.lits.items c.args.state.now c.args.self.now.pairs asks (rw (← c.as_slice.ensures) c.in_ok-lits.ensures.says)
    c.ends_with.result c.in_ok-assume.ensures.says c.args.seen c.requires.value
    (c.ends_with.ensures ∙ ap (λ (v : CommandedValue). value_literal (booleans_next v.plant) c.args.seen.var.0 c.args.seen.val.0 true) c.self.view_is) c.as_slice-2.result.now
    c.as_slice-2.ensures.value c.in_ok-solve.field-0 c.in_ok-solve.ensures.answer c.in-Sat.values c.in-Sat.log c.in-Sat.is

pub returns-clause-answer : goal.returns-clause-answer
returns-clause-answer c =
    λ present ends asks.
    shown_unsat c.args.self.now.plant present ends c.args.solver.now.set c.in_ok-lits.lits.items c.assume.new.lits.items c.args.state.now c.args.self.now.pairs asks (rw (← c.as_slice.ensures) c.in_ok-lits.ensures.says)
    c.ends_with.result c.in_ok-assume.ensures.says c.args.seen c.requires.value
    (c.ends_with.ensures ∙ ap (λ (v : CommandedValue). value_literal (booleans_next v.plant) c.args.seen.var.0 c.args.seen.val.0 true) c.self.view_is) c.as_slice-2.result.now
    c.as_slice-2.ensures.value c.in_ok-solve.field-0 c.in_ok-solve.ensures.answer c.in-Unsat.core c.in-Unsat.log c.in-Unsat.is
