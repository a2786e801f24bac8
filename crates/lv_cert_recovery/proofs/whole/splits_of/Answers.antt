-- each command set is explained
use Rattle.std.proofs.Common.{◌≡◌, ◌∙◌, ◌++◌, ◌∷◌, [], List, ap}
use Rattle.std.specs.Option.{option_copied}
use Rattle.lv_search_zones.specs.lv_boxes.Members.{ZoneValue}
use Rattle.lv_search_zones.specs.Commands.{command_zone}
use Rattle.lv_cert_recovery.proofs.DoneLemmas.{one_listed, explained_so, closing, of_both}
use Rattle.lv_cert_recovery.proofs.whole.splits_of.Goals as goal

pub close-requires-clause-explained : goal.close-requires-clause-explained
close-requires-clause-explained c =
    let zones : c.push.new.self.items ≡ command_zone c.args.model.now ∷ [] =
    c.in_ok-push.ensures.items ∙ ap (λ (zs : List ZoneValue). zs ++ c.in_ok-command_zone.field-0 ∷ []) c.new-zones.ensures.items ∙ ap (λ (z : ZoneValue). z ∷ []) c.in_ok-command_zone.ensures in
    explained_so c.args.model.now c.args.aim.now c.args.answer.now.listed.now c.args.answer.now.kept.now c.requires (rw c.plant-plant.ensures.plant at c.plant-plant.ensures.well_formed) c.in_ok-grid.grid
    c.in_ok-grid.ensures c.push.new.self.items zones (option_copied c.last_if_full.result) c.last_if_full.ensures

pub close-requires-clause-few : goal.close-requires-clause-few
close-requires-clause-few c = one_listed c.args.model.now c.args.aim.now c.args.answer.now.listed.now c.args.answer.now.kept.now c.requires

pub returns : goal.returns
returns c =
    let zones : c.push.new.self.items ≡ command_zone c.args.model.now ∷ [] =
    c.in_ok-push.ensures.items ∙ ap (λ (zs : List ZoneValue). zs ++ c.in_ok-command_zone.field-0 ∷ []) c.new-zones.ensures.items ∙ ap (λ (z : ZoneValue). z ∷ []) c.in_ok-command_zone.ensures in
    of_both c.close.result _ _ _
    (λ made closes small.
    closing c.args.model.now c.args.aim.now c.args.answer.now.listed.now c.args.answer.now.kept.now c.requires c.in_ok-grid.grid c.in_ok-grid.ensures c.push.new.self.items zones
    (option_copied c.last_if_full.result) c.last_if_full.ensures made.items closes small)
    c.close.ensures.closes c.close.ensures.small
