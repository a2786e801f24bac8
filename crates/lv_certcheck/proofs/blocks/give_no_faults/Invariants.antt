use Rattle.std.proofs.Common.{◌≡◌, drop}
use Rattle.lv_cert_laws.specs.lv_cert_meaning.Units.{units, no_fault_literals}
use Rattle.lv_certcheck.specs.Settings.{plant_of}
use Rattle.lv_certcheck.specs.Giving.{with_clauses}
use Rattle.lv_certcheck.proofs.blocks.give_no_faults.Given as goal

-- with those of the parts that are left, all are given
abbrev pub invariant-loop-k : goal.invariant-loop-k
invariant-loop-k l =
    with_clauses l.block (units (no_fault_literals (plant_of l.setting) l.k (drop l.k l.part-items))) ≡ with_clauses l.fn.block (units (no_fault_literals (plant_of l.setting) 0 (plant_of l.setting).parts))
