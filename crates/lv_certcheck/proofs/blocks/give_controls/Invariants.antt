use Rattle.std.proofs.Common.{◌≡◌, drop, map}
use Rattle.lv_cert_laws.specs.lv_cert_meaning.Units.{units, control_literal}
use Rattle.lv_certcheck.specs.Settings.{plant_of}
use Rattle.lv_certcheck.specs.Giving.{with_clauses}
use Rattle.lv_certcheck.proofs.blocks.give_controls.Given as goal

-- with those that are left, all are given
abbrev pub invariant-loop-pair : goal.invariant-loop-pair
invariant-loop-pair l = with_clauses l.block (units (map (control_literal (plant_of l.setting)) (drop l.pair-index l.pairs))) ≡ with_clauses l.fn.block (units (map (control_literal (plant_of l.setting)) l.pairs))
