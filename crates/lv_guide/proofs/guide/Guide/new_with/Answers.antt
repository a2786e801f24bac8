-- the zones are put in, and then the first is kept by a member that contains no known conflict
use Rattle.std.proofs.Common.{List, ◌∙◌, ap}
use Rattle.lv_base.specs.declared.search.Pair.{Pair}
use Rattle.lv_boxes.specs.RankedMembers.{ranked_members}
use Rattle.lv_search.specs.Free.{free_of}
use Rattle.lv_guide.specs.Guide.{left_in}
use Rattle.lv_guide.proofs.GuideLemmas.{room_in_empty, kept_at_start, known_at_start}
use Rattle.lv_guide.proofs.guide.Guide.new_with.Goals as goal

pub put_all-requires : goal.put_all-requires
put_all-requires c = room_in_empty c.args.grid c.args.zones.items c.new-queue.result.entries c.new-queue.ensures.empty c.requires

pub look_ahead-requires : goal.look_ahead-requires
look_ahead-requires c =
    kept_at_start c.args.grid c.in_ok-known.known c.args.zones.items c.new-queue.result.entries c.put_all.new.queue.entries c.new-queue.ensures.empty c.in_ok-put_all.ensures

pub returns : goal.returns
returns c =
    ap (λ (known : List (List Pair)). left_in c.args.grid known c.look_ahead.new.queue.entries) c.in_ok-look_ahead.ensures.known
    ∙ known_at_start c.args.grid c.in_ok-known.known c.args.zones.items c.new-queue.result.entries c.put_all.new.queue.entries c.look_ahead.new.queue.entries c.new-queue.ensures.empty c.in_ok-put_all.ensures
    c.in_ok-look_ahead.ensures.same
    ∙ ap (λ (known : List (List Pair)). free_of known (ranked_members c.args.grid c.args.zones.items)) c.in_ok-known.ensures
