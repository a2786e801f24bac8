-- The least rank of a zone is that of its least member.
use Rattle.std.proofs.Common.{◌≡◌, Bool, true, false, ◌&&◌, nat_eq, List, Option, Some, None, refl, sym, subst, ap}
use Rattle.std.specs.Prelude.{ℕ, option_map}
use Rattle.lv_cert_meaning.specs.lv_base.declared.ids.Cost.{Cost}
use Rattle.lv_cert_meaning.specs.lv_base.declared.rank.Rank.{Rank}
use Rattle.lv_cert_meaning.specs.lv_base.declared.search.Candidate.{Candidate}
use Rattle.lv_cert_meaning.specs.lv_boxes.Members.{ZoneValue, is_member, are_left, choices_cost, rank_in}
use Rattle.lv_cert_meaning.specs.lv_boxes.Least.{cheapest_choices, lacks_choice}
use Rattle.lv_cert_meaning.specs.lv_boxes.RankedMembers.{IsLeastRank}
use Rattle.lv_cert_meaning.proofs.lv_boxes.LeastLemmas.{sum_none, written_is_least, lacks_choice-none}
use Rattle.lv_cert_meaning.specs.Space.{least_rank}
use Rattle.lv_cert_meaning.specs.Laws.{LeastRankIsOfLeastMember}
use Rattle.lv_cert_laws.proofs.Options.{mapped}

least_is : (slots : List (List Cost)) (zone : ZoneValue) (r : Rank) → least_rank slots zone ≡ Some r → IsLeastRank slots zone r
least_is slots zone r h =
    let from = mapped (rank_in slots zone) (cheapest_choices slots zone.masks) r h in
    subst (IsLeastRank slots zone) from.made (record { least = written_is_least slots zone from.source (sym from.at); is = refl })

none_left : (slots : List (List Cost)) (zone : ZoneValue) → least_rank slots zone ≡ None → (candidate : Candidate) → is_member slots zone candidate ≡ false
none_left slots zone h candidate = by (cheapest_choices slots zone.masks) refl h
  where
    never : (a b : Bool) → b ≡ false → (a && b) ≡ false
    never true b e = e
    never false b e = refl

    by : (o : Option (List ℕ)) → cheapest_choices slots zone.masks ≡ o → option_map (rank_in slots zone) o ≡ None → is_member slots zone candidate ≡ false
    by None none e =
        let lacks : lacks_choice slots zone.masks ≡ true = sum_none slots zone.masks (sym (ap (option_map (choices_cost slots)) none)) in
        never (nat_eq candidate.source zone.source) (are_left slots zone.masks candidate.choices) (lacks_choice-none slots zone.masks candidate.choices lacks)
    by (Some out) some e = absurd (cc e)

pub least_ranks : LeastRankIsOfLeastMember
least_ranks = record { least = least_is; empty = none_left }
