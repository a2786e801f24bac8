use Rattle.std.proofs.Common.{◌≡◌, drop}
use Rattle.lv_cert_laws.specs.lv_cert_meaning.Units.{units, no_fault_of}
use Rattle.lv_certcheck.specs.Settings.{plant_of}
use Rattle.lv_certcheck.specs.Giving.{with_clauses}
use Rattle.lv_certcheck.proofs.blocks.give_no_fault_of.Given as goal

-- with those that are left, all are given
abbrev pub invariant-loop-n : goal.invariant-loop-n
invariant-loop-n l = with_clauses l.block (units (no_fault_of (plant_of l.setting) l.part.0 l.n (drop l.n l.moves))) ≡ with_clauses l.fn.block (units (no_fault_of (plant_of l.setting) l.part.0 0 l.moves))
