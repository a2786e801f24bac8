-- From the free members of a box to those of a zone, and that the first of these is one alone.
use Rattle.std.proofs.Common.{◌≡◌, ℕ, ◌+◌, ◌*◌, ◌<◌, ◌≤◌, Bool, true, false, not, nat_eq, List, [], ◌∷◌, Option, Some, None, length, ◌⊎◌, inl, inr, refl, sym, ◌∙◌, ap, subst, arith}
use Rattle.std.specs.Prelude.{All}
use Rattle.std.proofs.lemmas.Bool.{and_from, and_parts, eq-eqb, false_from_ne_true, cases_eq, cases_lt}
use Rattle.std.proofs.lemmas.List.{get_or_past}
use Rattle.std.proofs.lemmas.List.Elements.{All-head, All-tail, All-get_or}
use Rattle.lv_base.specs.declared.ids.Cost.{Cost}
use Rattle.lv_base.specs.declared.rank.Rank.{Rank}
use Rattle.lv_base.specs.declared.search.Pair.{Pair}
use Rattle.lv_base.specs.declared.search.Candidate.{Candidate}
use Rattle.lv_base.specs.Order.{comes_before}
use Rattle.lv_base.specs.Rank.{ranks_before}
use Rattle.lv_boxes.specs.Members.{IsSlot, ZoneValue, are_left, is_member, choice_cost, choices_cost, rank_in}
use Rattle.lv_boxes.specs.Walk.{candidate_of, is_ruled_out}
use Rattle.lv_boxes.proofs.RankedLemmas.{neither_is_same}
use Rattle.lv_search_guide.specs.declared.look.Member.{Member}
use Rattle.lv_search_guide.specs.Free.{is_free_member, IsLeastFree, HasNoFree, LeastFreeTells}
use Rattle.lv_search_bans.specs.Boxes.{is_free, CostsAtLeast, HasNone}
use Rattle.lv_search_guide.specs.Lowest.{IsLowest, LowestTells}
use Rattle.lv_search_bans.specs.Narrow.{IsNoMoreBy}

clash : (b : Bool) → b ≡ true → b ≡ false → ⊥
clash b p q = cc

-- a free member of the zone is one of its box
pub free_in_box : (slots : List (List Cost)) (zone : ZoneValue) (conflicts : List (List Pair)) (candidate : Candidate) → is_free_member slots zone conflicts candidate ≡ true
    → is_free slots conflicts zone.masks candidate.choices ≡ true
free_in_box slots zone conflicts candidate h =
    let parts = and_parts (is_member slots zone candidate) (not (is_ruled_out conflicts candidate.choices)) h in
    and_from (are_left slots zone.masks candidate.choices) (not (is_ruled_out conflicts candidate.choices)) (and_parts (nat_eq candidate.source zone.source) (are_left slots zone.masks candidate.choices) parts.0).1 parts.1

pub free_in_zone : (slots : List (List Cost)) (zone : ZoneValue) (conflicts : List (List Pair)) (choices : List ℕ) → is_free slots conflicts zone.masks choices ≡ true
    → is_free_member slots zone conflicts (record { source = zone.source; choices = choices }) ≡ true
free_in_zone slots zone conflicts choices h =
    let parts = and_parts (are_left slots zone.masks choices) (not (is_ruled_out conflicts choices)) h in
    and_from (is_member slots zone (record { source = zone.source; choices = choices })) (not (is_ruled_out conflicts choices))
    (and_from (nat_eq zone.source zone.source) (are_left slots zone.masks choices) (eq-eqb zone.source zone.source refl) parts.0) parts.1

pub none_free : (slots : List (List Cost)) (zone : ZoneValue) (conflicts : List (List Pair)) → HasNone slots conflicts zone.masks → HasNoFree slots zone conflicts
none_free slots zone conflicts n =
    record { none = λ candidate. false_from_ne_true (is_free_member slots zone conflicts candidate) (λ h. clash _ (free_in_box slots zone conflicts candidate h) (n.none candidate.choices)) }

-- the lowest of the box is the zone's member that ranks first
pub lowest_is_least : (slots : List (List Cost)) (zone : ZoneValue) (conflicts : List (List Pair)) (member : Member) (rank : Rank) → IsLowest slots conflicts zone.masks member
    → rank ≡ record { cost = record { 0 = zone.base.0 + member.cost }; source = zone.source; choices = member.choices } → IsLeastFree slots zone conflicts rank
lowest_is_least slots zone conflicts member rank l is =
    subst (λ (r : Rank). IsLeastFree slots zone conflicts r) (sym is)
    (record {
      member = free_in_zone slots zone conflicts member.choices l.cheapest.free;
      is = costs_are;
      first = λ other h. first other (free_in_box slots zone conflicts other h);
    })
  where
    costs_are : record { cost = record { 0 = zone.base.0 + member.cost }; source = zone.source; choices = member.choices } ≡ rank_in slots zone member.choices
    costs_are = let e : member.cost ≡ choices_cost slots member.choices = sym l.cheapest.costs in λ i. record { cost = record { 0 = zone.base.0 + e i }; source = zone.source; choices = member.choices }

    first : (other : Candidate) → is_free slots conflicts zone.masks other.choices ≡ true
        → ranks_before (rank_in slots zone other.choices) (record { cost = record { 0 = zone.base.0 + member.cost }; source = zone.source; choices = member.choices }) ≡ false
    first other free =
        let cheap : member.cost ≤ choices_cost slots other.choices = l.cheapest.least.least other.choices free in
        by (cases_eq (choices_cost slots other.choices) member.cost) cheap (l.first other.choices free)
      where
        by : (choices_cost slots other.choices ≡ member.cost) ⊎ (choices_cost slots other.choices ≡ member.cost → ⊥) → member.cost ≤ choices_cost slots other.choices
            → (choices_cost slots other.choices ≡ member.cost → comes_before other.choices member.choices ≡ false)
            → ranks_before (rank_in slots zone other.choices) (record { cost = record { 0 = zone.base.0 + member.cost }; source = zone.source; choices = member.choices }) ≡ false
        by (inl same) cheap last = rw (last same) (grind arith)
        by (inr apart) cheap last = grind arith

-- no member costs more than this
choice_cheap : (costs : List Cost) (choice : ℕ) → IsSlot costs → choice_cost costs choice ≤ 1000000
choice_cheap costs choice slot = by (cases_lt choice (length costs))
  where
    by : (choice < length costs) ⊎ (length costs ≤ choice) → choice_cost costs choice ≤ 1000000
    by (inl here) = All-get_or (λ (cost : Cost). cost.0 ≤ 1000000) costs choice (record { 0 = 0 }) here slot.cheap
    by (inr past) = let none : choice_cost costs choice ≡ 0 = ap (λ (cost : Cost). cost.0) (get_or_past costs choice (record { 0 = 0 }) past) in omega (arith, none)

choices_cheap : (slots : List (List Cost)) (choices : List ℕ) → All IsSlot slots → choices_cost slots choices ≤ length slots * 1000000
choices_cheap [] [] each = omega arith
choices_cheap [] (choice ∷ choices) each = omega arith
choices_cheap (costs ∷ slots) [] each = omega arith
choices_cheap (costs ∷ slots) (choice ∷ choices) each =
    let here : choice_cost costs choice ≤ 1000000 = choice_cheap costs choice (All-head IsSlot costs slots each) in
    let rest : choices_cost slots choices ≤ length slots * 1000000 = choices_cheap slots choices (All-tail IsSlot costs slots each) in
    omega (arith, here, rest)

pub none_above_all : (slots : List (List Cost)) (conflicts : List (List Pair)) (masks : List ℕ) → length slots ≤ 4096 → All IsSlot slots → CostsAtLeast slots conflicts masks 4096000001 → HasNone slots conflicts masks
none_above_all slots conflicts masks few each low =
    record { none = λ choices. false_from_ne_true (is_free slots conflicts masks choices) (λ free. too_dear choices free) }
  where
    too_dear : (choices : List ℕ) → is_free slots conflicts masks choices ≡ true → ⊥
    too_dear choices free =
        let far : 4096000001 ≤ choices_cost slots choices = low.least choices free in
        let near : choices_cost slots choices ≤ length slots * 1000000 = choices_cheap slots choices each in
        omega (arith, far, near, few)

-- there is one answer
pub least_is_one : (slots : List (List Cost)) (zone : ZoneValue) (conflicts : List (List Pair)) (one other : Option Rank) → LeastFreeTells slots zone conflicts one → LeastFreeTells slots zone conflicts other → one ≡ other
least_is_one slots zone conflicts None None t u = refl
least_is_one slots zone conflicts None (Some s) t u = absurd (clash _ u.member (t.none (candidate_of s)))
least_is_one slots zone conflicts (Some r) None t u = absurd (clash _ t.member (u.none (candidate_of r)))
least_is_one slots zone conflicts (Some r) (Some s) t u =
    ap Some (neither_is_same r s
    (subst (λ (x : Rank). ranks_before x s ≡ false) (sym t.is) (u.first (candidate_of r) t.member))
    (subst (λ (x : Rank). ranks_before x r ≡ false) (sym u.is) (t.first (candidate_of s) u.member)))

-- the lowest of a box is that of another with the same free members
pub lowest_by_narrowed : (slots : List (List Cost)) (conflicts : List (List Pair)) (old new : List ℕ) (first : Option Member) → IsNoMoreBy conflicts old new → LowestTells slots conflicts new first → LowestTells slots conflicts old first
lowest_by_narrowed slots conflicts old new None less t = record { none = λ choices. sym (less.free.same slots choices) ∙ t.none choices }
lowest_by_narrowed slots conflicts old new (Some member) less t =
    record {
      cheapest = record {
        free = sym (less.free.same slots member.choices) ∙ t.cheapest.free;
        costs = t.cheapest.costs;
        least = record { least = λ choices free. t.cheapest.least.least choices (less.free.same slots choices ∙ free) };
      };
      first = λ others free same. t.first others (less.free.same slots others ∙ free) same;
    }
