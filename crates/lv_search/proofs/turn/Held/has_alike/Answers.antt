-- without groups none is found
use Rattle.std.proofs.Common.{sym, ◌∙◌, ap}
use Rattle.std.specs.List.{list_any}
use Rattle.lv_boxes.specs.Groups.{alike_by}
use Rattle.lv_search.proofs.GroupLemmas.{none_listed}
use Rattle.lv_search.proofs.turn.Held.has_alike.Goals as goal

pub returns-in-None : goal.returns-in-None
returns-in-None c =
    sym (ap (λ groups. list_any (alike_by groups c.args.rank.now) c.args.self.now.listed) c.in-None.is ∙ none_listed c.args.rank.now c.args.self.now.listed)
