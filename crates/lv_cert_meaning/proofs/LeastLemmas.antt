-- The member that ranks first in a zone has at each slot the first of its cheapest choices.
use Rattle.std.proofs.Common.{◌≡◌, ℕ, Bool, true, false, not, ◌&&◌, ◌||◌, nat_eq, List, Option, Some, None, option_map, refl, sym, ◌∙◌, ap, ap₂}
use Rattle.lv_base.specs.declared.ids.Cost.{Cost}
use Rattle.lv_base.specs.declared.rank.Rank.{Rank}
use Rattle.lv_boxes.specs.Members.{ZoneValue, choices_cost, are_left, rank_in}
use Rattle.lv_boxes.specs.Least.{lacks_choice, cheapest_choices, IsLeastMember}
use Rattle.lv_boxes.proofs.LeastLemmas.{sum_none, sum_some, written_is_least, lacks_choice-none}
use Rattle.lv_cert_meaning.specs.Space.{least_rank}
use Rattle.lv_boxes.proofs.RankedLemmas.{same_rank}

false_not_true : true ≡ false → ⊥
false_not_true h = cc h

and_right : (a b : Bool) → (a && b) ≡ true → b ≡ true
and_right true b h = h
and_right false b h = absurd (cc h)

module _ (slots : List (List Cost)) (zone : ZoneValue) where
  same_choices : (one other : List ℕ) → IsLeastMember slots zone one → IsLeastMember slots zone other → one ≡ other
  same_choices one other first second =
      ap (λ (r : Rank). r.choices)
      (same_rank (rank_in slots zone one) (rank_in slots zone other)
      (ap₂ (λ (p q : Bool). not (p || q)) (second.first (record { source = zone.source; choices = one }) first.member) (first.first (record { source = zone.source; choices = other }) second.member)))

  pub least_is_cheapest : (out : List ℕ) → IsLeastMember slots zone out → cheapest_choices slots zone.masks ≡ Some out
  least_is_cheapest out least = by (cheapest_choices slots zone.masks) refl
    where
      by : (o : Option (List ℕ)) → cheapest_choices slots zone.masks ≡ o → o ≡ Some out
      by None e =
          let lacks : lacks_choice slots zone.masks ≡ true = sum_none slots zone.masks (sym (ap (option_map (choices_cost slots)) e)) in
          absurd (false_not_true (sym (and_right (nat_eq zone.source zone.source) (are_left slots zone.masks out) least.member) ∙ lacks_choice-none slots zone.masks out lacks))
      by (Some cs) e = ap Some (same_choices cs out (written_is_least slots zone cs (sym e)) least)

  pub none_is_cheapest : lacks_choice slots zone.masks ≡ true → cheapest_choices slots zone.masks ≡ None
  none_is_cheapest lacks = by (cheapest_choices slots zone.masks) refl
    where
      by : (o : Option (List ℕ)) → cheapest_choices slots zone.masks ≡ o → o ≡ None
      by None e = refl
      by (Some cs) e = absurd (false_not_true (sym lacks ∙ sum_some slots zone.masks (choices_cost slots cs) (sym (ap (option_map (choices_cost slots)) e))))

  pub rank_told : (cost : Cost) (source : ℕ) (out copy : List ℕ) → source ≡ zone.source → copy ≡ out → IsLeastMember slots zone out → cost ≡ (rank_in slots zone out).cost
      → Some (record { cost = cost; source = source; choices = copy }) ≡ least_rank slots zone
  rank_told cost source out copy from copied least costs = rw (from, copied, costs, least_is_cheapest out least) refl

  pub none_told : true ≡ lacks_choice slots zone.masks → None ≡ least_rank slots zone
  none_told lacks = rw (none_is_cheapest (sym lacks)) refl
