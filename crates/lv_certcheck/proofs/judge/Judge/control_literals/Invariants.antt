use Rattle.std.proofs.Common.{◌≡◌, ◌++◌, drop, map}
use Rattle.lv_model.specs.Lists.{controls}
use Rattle.lv_meaning.specs.Facts.{commanded}
use Rattle.lv_search_zones.specs.lv_compile.Booleans.{booleans_now}
use Rattle.lv_cert_laws.specs.lv_cert_meaning.Stated.{observed_literal}
use Rattle.lv_certcheck.specs.Settings.{plant_of}
use Rattle.lv_certcheck.proofs.judge.Judge.control_literals.Given as goal

-- with those that are left, these are all
abbrev pub invariant-loop-k : goal.invariant-loop-k
invariant-loop-k l =
    l.lits.items ++ map (observed_literal (booleans_now (plant_of l.self.setting))) (commanded (drop l.k l.control-items) (drop l.k l.values))
    ≡ map (observed_literal (booleans_now (plant_of l.self.setting))) (commanded (controls (plant_of l.self.setting)) l.values)
