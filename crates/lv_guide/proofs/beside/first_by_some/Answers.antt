-- the least choices of a part
use Rattle.std.proofs.Common.{◌≡◌, ℕ, ◌≤◌, Bool, List, length, sym, ◌∙◌, ap, subst}
use Rattle.std.proofs.lemmas.Result.{IfOk-weaker}
use Rattle.lv_search_guide.specs.Free.{LeastFreeTells}
use Rattle.lv_guide.proofs.NearLemmas.{long_near}
use Rattle.lv_guide.proofs.BesideLemmas.{settled_beside, some_of_all}
use Rattle.lv_base.specs.declared.search.Pair.{Pair}
use Rattle.lv_search_parts.specs.Parts.{IsPartWith}
use Rattle.lv_guide.proofs.beside.first_by_some.Goals as goal

-- the part as it is read
whole_part : (known : List (List Pair)) (n slots : ℕ) (pairs : List Pair) (part marks : List Bool) → n ≡ slots → marks ≡ part → IsPartWith known n pairs part → IsPartWith known slots pairs marks
whole_part known n slots pairs part marks n_is marks_are p = subst (λ (ms : List Bool). IsPartWith known slots pairs ms) (sym marks_are) (subst (λ (m : ℕ). IsPartWith known m pairs part) n_is p)

pub lost_pairs-requires : goal.lost_pairs-requires
lost_pairs-requires c =
    subst (λ (n : ℕ). n ≤ 4096)
    (sym (ap (λ (xs : List ℕ). length xs) c.as_slice-choices.ensures ∙ long_near c.args.grid.now c.args.zone.now c.args.known.now c.args.near.now c.requires.near))
    c.slots-slots.ensures.few

pub least_inside-requires-clause-others : goal.least_inside-requires-clause-others
least_inside-requires-clause-others c =
    ap (λ (xs : List ℕ). length xs) c.as_slice-choices.ensures ∙ long_near c.args.grid.now c.args.zone.now c.args.known.now c.args.near.now c.requires.near

pub returns-in-Some : goal.returns-in-Some
returns-in-Some c =
    IfOk-weaker c.least_inside.result _ _
    (λ first told. settled_beside c.args.grid.now c.args.zone.now c.args.known.now c.args.near.now c.as_slice.result.now c.as_slice-in-Some.result.now c.masks.result.now c.as_slice-choices.result.now first
    c.masks.ensures c.as_slice-choices.ensures (c.as_slice.ensures.value ∙ c.in_ok-lost.ensures) c.requires.near c.requires.free (whole_part c.args.known.now c.len.result (length c.args.grid.now) c.as_slice.result.now c.in-Some.part.items c.as_slice-in-Some.result.now c.len.ensures.len c.as_slice-in-Some.ensures.value (rw c.in-Some.is at c.in_ok-part.ensures)) told)
    c.least_inside.ensures

pub returns : goal.returns
returns c =
    IfOk-weaker c.least_free.result _ _
    (λ first told. some_of_all c.args.grid.now c.args.zone.now c.args.known.now first (subst (λ (conflicts : List (List Pair)). LeastFreeTells c.args.grid.now c.args.zone.now conflicts first) c.as_slice-in-None.ensures told))
    c.least_free.ensures
