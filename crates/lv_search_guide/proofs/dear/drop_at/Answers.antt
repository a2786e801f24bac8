-- one choice more
use Rattle.std.proofs.Common.{◌≡◌, ◌≤◌, ◌+◌, List, sym, subst, true, ◌∙◌}
use Rattle.lv_base.specs.declared.ids.Cost.{Cost}
use Rattle.lv_boxes.specs.Members.{choice_cost}
use Rattle.lv_search_guide.proofs.DearLemmas.{dear_or_not}
use Rattle.lv_search_guide.proofs.dear.drop_at.Goals as goal

pub loop-choice-preserved : goal.loop-choice-preserved
loop-choice-preserved c slots conflicts whole rows within is b k =
    dear_or_not slots conflicts whole c.loop-choice.masks c.args.low c.args.under rows (record { slot = c.args.slot; choice = c.loop-choice.choice }) b within c.is_dear-dear.result c.exclude_if.new.masks c.exclude_if.ensures
    (subst (λ (row : List Cost). c.is_dear-dear.result ≡ true → c.args.under ≤ c.args.low + choice_cost row c.loop-choice.choice) (c.as_slice-prices.ensures ∙ sym is) c.is_dear-dear.ensures)
    (c.loop-choice.invariant slots conflicts whole rows within is b k)
