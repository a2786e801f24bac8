-- where both differ so far
use Rattle.lv_search_bans.proofs.BanLemmas.{IsAlikeSoFar}
use Rattle.lv_search_bans.proofs.bans.differing.Given as goal

abbrev pub invariant-loop-place : goal.invariant-loop-place
invariant-loop-place l = IsAlikeSoFar l.one l.other l.place l.found
