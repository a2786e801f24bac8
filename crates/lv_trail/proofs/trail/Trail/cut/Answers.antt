-- each turn takes the last entry back
use Rattle.std.proofs.Common.{◌<◌, ◌-◌, List, length, take, ap, ◌∙◌, arith}
use Rattle.std.proofs.lemmas.List.{take-take, length-take-le}
use Rattle.lv_trail.specs.declared.trail.Entry.{Entry}
use Rattle.lv_trail.proofs.TrailLemmas.{popped}
use Rattle.lv_trail.proofs.trail.Trail.cut.Goals as goal

pub loop-self-preserved : goal.loop-self-preserved
loop-self-preserved c =
    let some : c.args.len < length c.loop-self.self.entries.items = omega arith in
    let less = c.pop.ensures.entries in
    record {
      room = omega (arith, some, ap (λ (es : List Entry). length es) less, length-take-le (length c.loop-self.self.entries.items - 1) c.loop-self.self.entries.items (omega arith));
      entries = ap (take c.args.len) less ∙ take-take c.args.len (length c.loop-self.self.entries.items - 1) c.loop-self.self.entries.items (omega (arith, some)) ∙ c.loop-self.invariant.entries;
      trail = λ cs log start. popped cs log c.loop-self.self.marks.items c.pop.new.self.marks.items c.loop-self.self.entries.items c.pop.new.self.entries.items (omega (arith, some)) less c.pop.ensures.marks (c.loop-self.invariant.trail cs log start);
    }
