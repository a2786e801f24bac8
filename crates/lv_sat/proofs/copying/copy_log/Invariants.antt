-- the copies so far and what is left are the log
use Rattle.std.proofs.Common.{◌≡◌, ◌++◌, drop}
use Rattle.lv_sat.proofs.copying.copy_log.Given as goal

abbrev pub invariant-loop-place : goal.invariant-loop-place
invariant-loop-place l = l.copy ++ drop l.place l.log ≡ l.log
