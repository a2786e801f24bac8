-- The last part that begins at or before the variable is the only one that may have it.
use Rattle.std.proofs.Common.{◌≡◌, ◌-◌, true, false, nat_lt, slice_index_or, rules, arith, sym}
use Rattle.lv_model.specs.Lists.{part_width}
use Rattle.lv_model.proofs.Reading.{follow_pass}
use Rattle.lv_reply.proofs.OwnerLemmas.{positive, none_begun, is_owner, has_no_owner}
use Rattle.lv_reply.proofs.variables.owner_behind.Goals as goal

pub returns-then-begun-eq0 : goal.returns-then-begun-eq0
returns-then-begun-eq0 c =
    let plant = c.args.model.now in
    sym (none_begun plant.types c.args.x 0 plant.parts (follow_pass plant (search rules)) (λ k d below. c.requires.place.1 k d (omega arith) below))

pub returns-then-is_wider : goal.returns-then-is_wider
returns-then-is_wider c =
    let plant = c.args.model.now in
    let p = c.index-as_slice-begun.result in
    let is : p ≡ slice_index_or plant.parts (c.args.begun - 1) p = search rules in
    let wide : nat_lt (c.args.x - p.first.0) (part_width plant.types p) ≡ true = search rules in
    is_owner plant.types c.args.x plant.parts (follow_pass plant (search rules)) c.args.begun (positive _ c.if-begun-eq0.false)
    c.requires.few c.requires.place.0 c.requires.place.1 p is wide

pub returns-else-is_wider : goal.returns-else-is_wider
returns-else-is_wider c =
    let plant = c.args.model.now in
    let p = c.index-as_slice-begun.result in
    let is : p ≡ slice_index_or plant.parts (c.args.begun - 1) p = search rules in
    let narrow : nat_lt (c.args.x - p.first.0) (part_width plant.types p) ≡ false = search rules in
    has_no_owner plant.types c.args.x plant.parts (follow_pass plant (search rules)) c.args.begun (positive _ c.if-begun-eq0.false)
    c.requires.few c.requires.place.0 c.requires.place.1 p is narrow
