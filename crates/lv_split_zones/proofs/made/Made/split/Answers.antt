-- what it is split by is kept, and the parts come behind the others
use Rattle.std.proofs.Common.{length, refl, ◌∙◌, ap}
use Rattle.std.specs.Prelude.{slice_get}
use Rattle.lv_boxes.specs.Parts.{parts_of}
use Rattle.lv_split_zones.specs.Made.{zones_made}
use Rattle.lv_split_zones.specs.Splits.{parts_at}
use Rattle.lv_split_zones.proofs.MadeLemmas.{caused, caused_zones, next_is, zone_there, on_ok, parts_are}
use Rattle.lv_split_zones.proofs.CauseLemmas.{known_conflict, conflict_parts, conflict_count}
use Rattle.lv_split_zones.proofs.made.Made.split.Goals as goal

pub returns-in_err-by-clause-made : goal.returns-in_err-by-clause-made
returns-in_err-by-clause-made c = caused c.args.self.now (record { first = c.args.self.now.first; causes = c.by_conflict.new.self; splits = c.args.self.now.splits; count = c.args.self.now.count }) c.by_conflict.ensures.kept refl refl refl c.requires.made

pub push-requires-clause-made : goal.push-requires-clause-made
push-requires-clause-made c = caused c.args.self.now (record { first = c.args.self.now.first; causes = c.by_conflict.new.self; splits = c.args.self.now.splits; count = c.args.self.now.count }) c.by_conflict.ensures.kept refl refl refl c.requires.made

pub push-requires-clause-split : goal.push-requires-clause-split
push-requires-clause-split c =
    next_is c.args.self.now (record { first = c.args.self.now.first; causes = c.by_conflict.new.self; splits = c.args.self.now.splits; count = c.args.self.now.count }) c.by_conflict.ensures.kept refl refl refl c.requires.made c.args.place c.in_ok-by.by c.requires.place (known_conflict c.by_conflict.new.self c.args.conflict.now c.in_ok-by.by c.in_ok-by.ensures.by)

pub push-requires-clause-parts : goal.push-requires-clause-parts
push-requires-clause-parts c =
    ap length c.pairs.ensures.pairs
    ∙ conflict_count c.by_conflict.new.self (zones_made (record { first = c.args.self.now.first; causes = c.by_conflict.new.self; splits = c.args.self.now.splits; count = c.args.self.now.count })) (record { zone = c.args.place; first = c.args.self.now.count; by = c.in_ok-by.by }) c.args.conflict.now c.in_ok-by.ensures.by
    (zone_there c.args.self.now (record { first = c.args.self.now.first; causes = c.by_conflict.new.self; splits = c.args.self.now.splits; count = c.args.self.now.count }) c.by_conflict.ensures.kept refl refl refl c.requires.made c.args.place c.requires.place)

pub returns-clause-parts : goal.returns-clause-parts
returns-clause-parts c =
    λ zone e.
    let same = caused_zones c.args.self.now (record { first = c.args.self.now.first; causes = c.by_conflict.new.self; splits = c.args.self.now.splits; count = c.args.self.now.count }) c.by_conflict.ensures.kept refl refl refl c.requires.made in
    on_ok c.push.result
    (parts_are (zones_made c.args.self.now) (zones_made (record { first = c.args.self.now.first; causes = c.by_conflict.new.self; splits = c.args.self.now.splits; count = c.args.self.now.count })) (zones_made c.push.new.self) (parts_at c.by_conflict.new.self (zones_made (record { first = c.args.self.now.first; causes = c.by_conflict.new.self; splits = c.args.self.now.splits; count = c.args.self.now.count })) (record { zone = c.args.place; first = c.args.self.now.count; by = c.in_ok-by.by })) (parts_of zone c.args.conflict.now) same
    (conflict_parts c.by_conflict.new.self (zones_made (record { first = c.args.self.now.first; causes = c.by_conflict.new.self; splits = c.args.self.now.splits; count = c.args.self.now.count })) (record { zone = c.args.place; first = c.args.self.now.count; by = c.in_ok-by.by }) zone c.args.conflict.now c.in_ok-by.ensures.by (ap (λ zones. slice_get zones c.args.place) same ∙ e)))
    c.push.ensures.parts
