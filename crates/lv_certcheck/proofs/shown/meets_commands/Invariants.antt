use Rattle.std.proofs.Common.{◌≡◌, drop}
use Rattle.lv_meaning.specs.Facts.{meets, commanded}
use Rattle.lv_certcheck.proofs.shown.meets_commands.Given as goal

-- those that are left are met exactly where all are
abbrev pub invariant-loop-k : goal.invariant-loop-k
invariant-loop-k l = meets l.a (commanded (drop l.k l.controls) (drop l.k l.values)) ≡ meets l.a (commanded l.controls l.values)
