-- no boolean is without a mark
use Rattle.std.proofs.Common.{◌≡◌, length, arith, rules}
use Rattle.lv_trail.proofs.TrailLemmas.{all_marked}
use Rattle.lv_trail.proofs.trail.Trail.is_full.Goals as goal

pub returns : goal.returns
returns c =
    λ full.
    let same : length c.args.self.now.entries.items ≡ length c.args.self.now.marks.items = grind (arith, rules, full, c.len.ensures, c.len-2.ensures) in
    all_marked c.args.self.now.marks.items (omega (arith, c.requires, same))
