-- the choices gone through were taken out where they are too dear
use Rattle.std.proofs.Common.{◌≡◌, ◌<◌, ℕ, [], List, length}
use Rattle.std.specs.Prelude.{slice_index_or}
use Rattle.lv_base.specs.declared.ids.Cost.{Cost}
use Rattle.lv_base.specs.declared.search.Pair.{Pair}
use Rattle.lv_search_guide.specs.Dear.{KeepsUnder}
use Rattle.lv_search_bans.specs.Prices.{IsBound}
use Rattle.lv_search_guide.proofs.dear.drop_at.Given as goal

abbrev pub invariant-loop-choice : goal.invariant-loop-choice
invariant-loop-choice l =
    (slots : List (List Cost)) (conflicts : List (List Pair)) (whole : List ℕ) (rows : List (List Cost)) → l.slot < length rows → slice_index_or rows l.slot [] ≡ l.row → IsBound slots conflicts whole l.low rows
    → KeepsUnder slots conflicts l.under whole l.fn.masks → KeepsUnder slots conflicts l.under whole l.masks
