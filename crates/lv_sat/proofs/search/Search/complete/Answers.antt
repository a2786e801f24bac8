-- the choices are taken back
use Rattle.std.proofs.Common.{ap, take, length, List, ◌∙◌}
use Rattle.lv_trail.specs.declared.trail.Entry.{Entry}
use Rattle.lv_sat.proofs.SearchLemmas.{trail_back}
use Rattle.lv_sat.proofs.search.Search.complete.Goals as goal

pub returns-clause-trail : goal.returns-clause-trail
returns-clause-trail c =
    trail_back c.args.set.now c.args.log.now c.args.self.now.trail.marks.items c.seek.new.self.trail.marks.items c.take_back.new.self.trail.marks.items c.args.self.now.trail.entries.items c.seek.new.self.trail.entries.items c.take_back.new.self.trail.entries.items
    c.requires.trail c.requires.log c.in_ok-found.ensures.trail (c.take_back.ensures.entries ∙ ap (λ (es : List Entry). take (length es) c.seek.new.self.trail.entries.items) c.entries-len.ensures) c.take_back.ensures.trail
