-- A box without choices that are too dear, and without what conflicts then rule out, has the cheapest members of the whole.
use Rattle.std.proofs.Common.{◌≡◌, ℕ, ◌+◌, ◌≤◌, Bool, true, false, List, sym, ◌∙◌, subst, arith}
use Rattle.std.specs.Prelude.{Some, Result, Ok, Err, IfOk}
use Rattle.lv_base.specs.declared.ids.Cost.{Cost}
use Rattle.lv_base.specs.declared.search.Pair.{Pair}
use Rattle.lv_boxes.specs.Members.{choices_cost}
use Rattle.lv_search_guide.specs.declared.look.Member.{Member}
use Rattle.lv_search_bans.specs.Boxes.{is_free}
use Rattle.lv_search_guide.specs.Cheapest.{IsCheapest}
use Rattle.lv_search_guide.specs.Dear.{KeepsUnder}
use Rattle.lv_search_guide.specs.Lowest.{IsLowest}
use Rattle.lv_search_bans.specs.Narrow.{IsNoMoreBy, HasNoneBy}
use Rattle.lv_search_guide.proofs.FreeLemmas.{lowest_by_narrowed}

-- of one result both
pub both_told : {T E : Type 0} (r : Result T E) (P Q R : T → Type 0) → ((x : T) → P x → Q x → R x) → IfOk r P → IfOk r Q → IfOk r R
both_told (Ok x) P Q R f p q = f x p q
both_told (Err e) P Q R f p q = tt

clash : (b : Bool) → b ≡ true → b ≡ false → ⊥
clash b p q = cc

module _ (slots : List (List Cost)) (conflicts : List (List Pair)) (masks read cheap : List ℕ) (member : Member) (read_is : read ≡ masks) (k : KeepsUnder slots conflicts (member.cost + 1) read cheap) (m : IsCheapest slots conflicts masks member) where
  kept : KeepsUnder slots conflicts (member.cost + 1) masks cheap
  kept = subst (λ (ms : List ℕ). KeepsUnder slots conflicts (member.cost + 1) ms cheap) read_is k

  stays : is_free slots conflicts cheap member.choices ≡ true
  stays = kept.keeps member.choices m.free (let same = m.costs in omega (arith, same))

  pub none_is_left : HasNoneBy conflicts cheap → ⊥
  none_is_left n = clash (is_free slots conflicts cheap member.choices) stays ((n.none slots).none member.choices)

  module _ (part : List ℕ) (less : IsNoMoreBy conflicts cheap part) where
    pub cheapest_left : IsCheapest slots conflicts part member
    cheapest_left =
        record {
          free = less.free.same slots member.choices ∙ stays;
          costs = m.costs;
          least = record { least = λ xs free. m.least.least xs (kept.inside xs (sym (less.free.same slots xs) ∙ free)) };
        }

    pub lowest_left : (lowest : Member) → lowest.cost ≡ member.cost → IsLowest slots conflicts part lowest → IsLowest slots conflicts masks lowest
    lowest_left lowest same found = whole (lowest_by_narrowed slots conflicts cheap part (Some lowest) less found)
      where
        whole : IsLowest slots conflicts cheap lowest → IsLowest slots conflicts masks lowest
        whole here =
            record {
              cheapest = record {
                free = kept.inside lowest.choices here.cheapest.free;
                costs = here.cheapest.costs;
                least = record { least = λ xs free. subst (λ n. n ≤ choices_cost slots xs) (sym same) (m.least.least xs free) };
              };
              first = λ others free even. here.first others (kept.keeps others free (let cost = same in omega (arith, even, cost))) even;
            }
