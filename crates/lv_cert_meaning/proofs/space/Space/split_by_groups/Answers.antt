-- the zone at the number's place has its parts behind the others
use Rattle.std.proofs.Common.{◌∙◌, ap}
use Rattle.std.specs.Prelude.{slice_get}
use Rattle.lv_boxes.specs.GroupParts.{parts_by_groups}
use Rattle.lv_cert_meaning.specs.Space.{Space}
use Rattle.lv_cert_meaning.proofs.SpaceLemmas.{stands, split_gives}
use Rattle.lv_cert_meaning.proofs.space.Space.split_by_groups.Goals as goal

pub returns-in-Some : goal.returns-in-Some
returns-in-Some c =
    λ zone e.
    split_gives c.split_by_groups.result c.self.inside.grid c.self.inside.zones c.split_by_groups.new.self c.in-Some.place c.args.n (parts_by_groups zone c.args.groups.now c.args.member.now) c.args.self.now c.self.view_is c.in-Some.ensures.place
    (c.split_by_groups.ensures zone (ap (λ (s : Space). slice_get s.zones c.in-Some.place) c.self.view_is ∙ c.in-Some.ensures.zone ∙ stands c.args.self.now.zones c.args.n zone e))
