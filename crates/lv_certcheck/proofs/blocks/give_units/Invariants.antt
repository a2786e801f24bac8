use Rattle.std.proofs.Common.{◌≡◌, drop}
use Rattle.lv_cert_laws.specs.lv_cert_meaning.Units.{units}
use Rattle.lv_certcheck.specs.Giving.{with_clauses}
use Rattle.lv_certcheck.proofs.blocks.give_units.Given as goal

-- with those that are left, all are given
abbrev pub invariant-loop-lit : goal.invariant-loop-lit
invariant-loop-lit l = with_clauses l.block (units (drop l.lit-index l.lits)) ≡ with_clauses l.fn.block (units l.lits)
