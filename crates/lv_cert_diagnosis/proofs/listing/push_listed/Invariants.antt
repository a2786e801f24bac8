-- the candidates so far are shown
use Rattle.std.proofs.Common.{◌≡◌, take}
use Rattle.lv_cert_diagnosis.specs.Showing.{AddsShown}
use Rattle.lv_cert_diagnosis.proofs.listing.push_listed.Given as goal

abbrev pub invariant-loop-rank : goal.invariant-loop-rank
invariant-loop-rank l = record { shown : AddsShown l.asking.plant l.asking.facts (take l.rank-index l.listed) l.initial.lines.items l.lines.items; kept : l.refuter ≡ l.fn.refuter }
