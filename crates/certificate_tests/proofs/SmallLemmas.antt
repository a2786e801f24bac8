-- A walk along the six candidates, whose trial refuses one choice, explains each of them.
use Rattle.std.proofs.Common.{◌≡◌, Bool, true, false, not, ◌&&◌, List, [], ◌∷◌, Option, None, refl, sym, subst, arith}
use Rattle.lv_base.specs.declared.ids.Cost.{Cost}
use Rattle.lv_base.specs.declared.rank.Rank.{Rank}
use Rattle.lv_base.specs.declared.search.Pair.{Pair}
use Rattle.lv_base.specs.declared.search.Candidate.{Candidate}
use Rattle.lv_base.specs.Choices.{picks}
use Rattle.lv_boxes.specs.Members.{ZoneValue}
use Rattle.lv_boxes.specs.declared.outcome.Outcome.TheVariants.{Settled}
use Rattle.lv_boxes.specs.Walk.{walk}
use Rattle.lv_boxes.specs.RankedMembers.{ranked_members}
use Rattle.lv_cert_writing.specs.Explained.{AreExplained, last_if_full}
use Rattle.lv_cert_writing.specs.SplitLaws.{HasReasonsInside}
use Rattle.lv_cert_writing.proofs.SplitWalkLemmas.{search_explains}
use Rattle.certificate_tests.specs.Small.{small_slots, small_zone, second_of_first, first_three}

abbrev suits : Candidate → Bool
suits c = true

abbrev fits : Candidate → Bool
fits c = not (picks c.choices second_of_first)

abbrev reason : Candidate → List Pair
reason c = second_of_first ∷ []

reasons_inside : HasReasonsInside suits fits reason
reasons_inside = record { inside = λ c suit unfit. by (picks c.choices second_of_first) unfit }
  where
    by : (b : Bool) → not b ≡ false → (b && true) ≡ true
    by true h = refl
    by false h = sym h

walked : walk fits reason 3 10 (ranked_members small_slots (small_zone ∷ [])) ≡ record { outcome = Settled; listed = first_three; kept = (second_of_first ∷ []) ∷ [] }
walked = refl

three_explained : AreExplained None small_slots (small_zone ∷ []) (last_if_full 3 first_three) first_three ((second_of_first ∷ []) ∷ [])
three_explained =
    search_explains None suits fits reason reasons_inside 3 10 (omega arith) small_slots (small_zone ∷ []) (λ c member. refl)
    (record { outcome = Settled; listed = first_three; kept = (second_of_first ∷ []) ∷ [] }) walked refl

pub explained_as_made : (slots : List (List Cost)) (zones : List ZoneValue) (last : Option Rank) (listed : List Rank) (excluded : List (List Pair))
    → slots ≡ small_slots → zones ≡ small_zone ∷ [] → listed ≡ first_three → excluded ≡ (second_of_first ∷ []) ∷ [] → last ≡ last_if_full 3 listed → AreExplained None slots zones last listed excluded
explained_as_made slots zones last listed excluded slots_are zones_are listed_are excluded_are last_is =
    subst (λ o. AreExplained None slots zones o listed excluded) (sym last_is)
    (subst (λ ss. AreExplained None ss zones (last_if_full 3 listed) listed excluded) (sym slots_are)
    (subst (λ zs. AreExplained None small_slots zs (last_if_full 3 listed) listed excluded) (sym zones_are)
    (subst (λ cs. AreExplained None small_slots (small_zone ∷ []) (last_if_full 3 listed) listed cs) (sym excluded_are)
    (subst (λ rs. AreExplained None small_slots (small_zone ∷ []) (last_if_full 3 rs) rs ((second_of_first ∷ []) ∷ [])) (sym listed_are) three_explained))))
