use Rattle.std.proofs.Common.{◌≡◌, drop}
use Rattle.lv_cert_laws.specs.lv_cert_meaning.Units.{units, mode_literals}
use Rattle.lv_certcheck.specs.Settings.{plant_of}
use Rattle.lv_certcheck.specs.Giving.{with_clauses}
use Rattle.lv_certcheck.proofs.blocks.give_modes.Given as goal

-- with those that are left, all are given
abbrev pub invariant-loop-k : goal.invariant-loop-k
invariant-loop-k l =
    with_clauses l.block (units (mode_literals (plant_of l.setting) (drop l.k l.part-items) (drop l.k l.modes))) ≡ with_clauses l.fn.block (units (mode_literals (plant_of l.setting) (plant_of l.setting).parts l.modes))
