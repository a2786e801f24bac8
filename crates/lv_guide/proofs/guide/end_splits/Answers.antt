-- the zones before any split have the same members without a known conflict
use Rattle.std.proofs.Common.{◌≡◌, List, sym, subst, ap, ◌∙◌}
use Rattle.std.specs.Prelude.{Option}
use Rattle.lv_boxes.specs.Members.{ZoneValue}
use Rattle.lv_guide.specs.Guide.{IsWhole, WholeTells}
use Rattle.lv_guide.proofs.SplitLemmas.{anew_same}
use Rattle.lv_guide.proofs.guide.end_splits.Goals as goal

pub returns-in_ok-put_all-in-Some-clause-same : goal.returns-in_ok-put_all-in-Some-clause-same
returns-in_ok-put_all-in-Some-clause-same c =
    let same : c.into_vec.result.items ≡ c.in-Some.zones = cc (c.into_vec.ensures, c.in-Some.zones-is) in
    anew_same c.args.grid.now c.args.known.now c.args.queue.now.entries c.into_vec.result.items c.new.result.entries c.put_all.new.queue.entries c.new.ensures.empty
    (subst (λ (zones : List ZoneValue). IsWhole c.args.grid.now c.args.known.now c.args.queue.now.entries zones) (sym same)
    (subst (λ (whole : Option (List ZoneValue)). WholeTells c.args.grid.now c.args.known.now c.args.queue.now.entries whole) (sym (ap (λ course. course.whole) c.replace.ensures.value) ∙ c.in-Some.is) c.requires.whole))
    c.in_ok-put_all-in-Some.ensures
