use Rattle.std.proofs.Common.{rules, ◌≡◌, ◌++◌, true, false, ◌||◌, length, take, drop, nat_lt, refl, sym, ◌∙◌, ap₂, subst}
use Rattle.std.specs.List.{list_any}
use Rattle.std.proofs.lemmas.Result.{IfOk-weaker}
use Rattle.lv_lanes.specs.declared.named.TheConstants.{LANES}
use Rattle.lv_lanes.specs.Standing.{is_lane, has_place}
use Rattle.lv_lanes.specs.Replies.{IsHandedOn}
use Rattle.lv_lanes.proofs.LoopLemmas.{handed_to_known, handed_to_none, none_there, handed_to_fresh, put_last, whole_written}
use Rattle.lv_lanes.proofs.named.answer_for.Goals as goal

pub returns-in-Some : goal.returns-in-Some
returns-in-Some g c =
    let old = c.args.lanes.now.items in
    let start = g.L.Lane.start c.args.first.now in
    let kept = whole_written c.args.lanes.now.len c.answer_named.new.lanes old (search rules) (search rules) in
    let slice = c.deref_mut.result.now in
    let alike : slice ≡ old = search rules in
    handed_to_known g.L.Responder.next g.L.Responder.says c.args.name.now c.args.line.now start slice old c.answer_named.new.lanes
    (take c.args.lanes.now.len (c.answer_named.new.lanes ++ drop (length c.answer_named.new.lanes) old))
    c.answer_named.result c.in_ok-text.field-0 (c.answer_named.ensures start) alike c.in_ok-text.was c.in-Some.text c.in-Some.is kept

pub returns-then-len-ge-LANES : goal.returns-then-len-ge-LANES
returns-then-len-ge-LANES g c =
    let old = c.args.lanes.now.items in
    let start = g.L.Lane.start c.args.first.now in
    let kept = whole_written c.args.lanes.now.len c.answer_named.new.lanes old (search rules) (search rules) in
    let slice = c.deref_mut.result.now in
    let alike : slice ≡ old = search rules in
    let full : nat_lt (length old) LANES ≡ false = search rules in
    handed_to_none g.L.Responder.next g.L.Responder.says c.args.name.now c.args.line.now start slice old c.answer_named.new.lanes
    (take c.args.lanes.now.len (c.answer_named.new.lanes ++ drop (length c.answer_named.new.lanes) old))
    c.answer_named.result c.in_ok-text.field-0 (c.answer_named.ensures start) alike c.in_ok-text.was c.in_default.is full kept

pub returns : goal.returns
returns g c =
    let old = c.args.lanes.now.items in
    let name = c.args.name.now in
    let line = c.args.line.now in
    let start = g.L.Lane.start c.args.first.now in
    let before = c.push_fresh.new.lanes.items in
    let kept = whole_written c.args.lanes.now.len c.answer_named.new.lanes old (search rules) (search rules) in
    let slice = c.deref_mut.result.now in
    let alike : slice ≡ old = search rules in
    let so = none_there g.L.Responder.next g.L.Responder.says name line start slice old c.answer_named.new.lanes old
    c.answer_named.result c.in_ok-text.field-0 (c.answer_named.ensures start) alike c.in_ok-text.was c.in_default.is in
    let some : nat_lt (length old) LANES ≡ true = search rules in
    let room : has_place name old ≡ true = ap₂ (λ p q. p || q) so.0 some in
    let slice-2 = c.deref_mut-2.result.now in
    let alike-2 : slice-2 ≡ before = search rules in
    let added = put_last g.L.Responder.next g.L.Responder.says (record { name = name; lane = start }) slice-2 before _ old alike-2 c.in_ok-push_fresh.ensures (kept ∙ so.1) in
    let whole = whole_written c.push_fresh.new.lanes.len c.answer_named-2.new.lanes before (search rules) (search rules) in
    IfOk-weaker c.answer_named-2.result
    (IsHandedOn g.L.Responder.says g.L.Responder.next (list_any (is_lane name) slice-2) name line start slice-2 c.answer_named-2.new.lanes)
    (IsHandedOn g.L.Responder.says g.L.Responder.next (has_place name old) name line start old
    (take c.push_fresh.new.lanes.len (c.answer_named-2.new.lanes ++ drop (length c.answer_named-2.new.lanes) before)))
    (λ found told.
    subst (λ xs. IsHandedOn g.L.Responder.says g.L.Responder.next (has_place name old) name line start old xs found) (sym whole)
    (handed_to_fresh g.L.Responder.next g.L.Responder.says name line start (record { name = name; lane = start }) old slice-2 c.answer_named-2.new.lanes found
    refl refl so.0 room added told))
    (c.answer_named-2.ensures start)
