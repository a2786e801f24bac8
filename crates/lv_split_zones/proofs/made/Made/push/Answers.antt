-- the splits with one more make the parts of that one behind the others
use Rattle.std.proofs.Common.{refl}
use Rattle.lv_split_zones.proofs.MadeLemmas.{pushed_made, pushed_zones}
use Rattle.lv_split_zones.proofs.made.Made.push.Goals as goal

pub returns-clause-made : goal.returns-clause-made
returns-clause-made c =
    pushed_made c.args.self.now (record { first = c.args.self.now.first; causes = c.args.self.now.causes; splits = c.push.new.self; count = c.in_ok-count.count }) c.args.parts (record { zone = c.args.place; first = c.args.self.now.count; by = c.args.by }) refl refl c.in_ok-push.ensures.items c.requires.made c.in_ok-count.ensures c.requires.split
    c.requires.parts

pub returns-clause-parts : goal.returns-clause-parts
returns-clause-parts c =
    pushed_zones c.args.self.now (record { first = c.args.self.now.first; causes = c.args.self.now.causes; splits = c.push.new.self; count = c.in_ok-count.count }) c.args.parts (record { zone = c.args.place; first = c.args.self.now.count; by = c.args.by }) refl refl c.in_ok-push.ensures.items c.requires.made
