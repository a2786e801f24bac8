-- the trail is as it was, or begins anew one time less
use Rattle.std.proofs.Common.{◌≡◌, true, rules, arith}
use Rattle.lv_sat.proofs.SearchLemmas.{search_back}
use Rattle.lv_sat.proofs.MeasureLemmas.{fewer_times}
use Rattle.lv_sat.proofs.search.Search.rest.Goals as goal

pub returns-clause-search : goal.returns-clause-search
returns-clause-search c =
    λ cs start log size here.
    search_back cs start log c.args.self.now.trail.marks.items c.take_back.new.self.trail.marks.items c.args.self.now.trail.entries.items c.take_back.new.self.trail.entries.items c.first_chosen-place.result (omega (arith, size, c.first_chosen-place.ensures.from)) c.take_back.ensures.entries (c.take_back.ensures.trail cs log) here

pub returns-clause-fewer : goal.returns-clause-fewer
returns-clause-fewer c =
    λ bools.
    let due : c.is_due.result ≡ true = search rules in
    fewer_times bools c.args.pace.now.left c.is_due.new.self.left c.args.self.now.trail.entries.items c.take_back.new.self.trail.entries.items (c.is_due.ensures.fewer due)
