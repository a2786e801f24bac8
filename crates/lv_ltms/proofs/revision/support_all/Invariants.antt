-- the booleans not gone over wait
use Rattle.std.proofs.Common.{drop}
use Rattle.lv_clauses.specs.Marks.{is_marked}
use Rattle.lv_ltms.proofs.SupportLemmas.{IsSupporting}
use Rattle.lv_ltms.proofs.revision.support_all.Given as goal

abbrev pub invariant-loop-lit : goal.invariant-loop-lit
invariant-loop-lit l = IsSupporting (is_marked l.grounds.assumed.now) l.grounds.near.now l.grounds.far.now l.both l.fn.labels l.fallen (drop l.lit-index l.fallen) l.labels
