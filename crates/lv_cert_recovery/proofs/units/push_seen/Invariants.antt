use Rattle.std.proofs.Common.{◌≡◌, ◌++◌, drop, map}
use Rattle.lv_search_zones.specs.lv_compile.Booleans.{booleans_now}
use Rattle.lv_cert_laws.specs.lv_cert_meaning.Stated.{observed_literal}
use Rattle.lv_cert_recovery.proofs.units.push_seen.Given as goal

abbrev pub invariant-loop-o : goal.invariant-loop-o
invariant-loop-o l = l.lits.items ++ map (observed_literal (booleans_now l.model)) (drop l.o-index l.present) ≡ l.initial.lits.items ++ map (observed_literal (booleans_now l.model)) l.present
