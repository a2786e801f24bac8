-- What the definitions of members, least members and parts say together.
use Rattle.std.specs.Prelude.{◌≡◌, ◌≢◌, ℕ, ◌+◌, true, false, List, [], ◌∷◌}
use Rattle.std.specs.List.{list_any}
use Rattle.lv_base.specs.declared.ids.Cost.{Cost}
use Rattle.lv_base.specs.declared.search.Pair.{Pair}
use Rattle.lv_base.specs.declared.search.Candidate.{Candidate}
use Rattle.lv_base.specs.Choices.{slots_rise}
use Rattle.lv_boxes.specs.Members.{ZoneValue, is_member}
use Rattle.lv_boxes.specs.Least.{lacks_choice, IsLeastMember}
use Rattle.lv_boxes.specs.Parts.{parts_of, are_slots_of}

-- a zone has no members where some slot lacks a choice, and else one that ranks first
pub record MembersNeedChoices : Type 0 where
  pub lacking : (slots : List (List Cost)) (zone : ZoneValue) → lacks_choice slots zone.masks ≡ true → (candidate : Candidate) → is_member slots zone candidate ≡ false
  pub having : (slots : List (List Cost)) (zone : ZoneValue) → lacks_choice slots zone.masks ≡ false → (choices : List ℕ) × IsLeastMember slots zone choices

-- the choices from slot n on as pairs
abbrev pub pairs_from : ℕ → List ℕ → List Pair
pairs_from n [] = []
pairs_from n (choice ∷ choices) = record { slot = n; choice = choice } ∷ pairs_from (n + 1) choices

-- all choices of a candidate as pairs
abbrev pub pairs_of : List ℕ → List Pair
pairs_of choices = pairs_from 0 choices

-- the choices of a member are a conflict at slots of the zone, and the parts by it have every other member
pub record LosesOne (slots : List (List Cost)) (zone : ZoneValue) (member : Candidate) : Type 0 where
  pub rise : slots_rise (pairs_of member.choices) ≡ true
  pub within : are_slots_of zone (pairs_of member.choices) ≡ true
  pub lost : list_any (λ part. is_member slots part member) (parts_of zone (pairs_of member.choices)) ≡ false
  pub kept : (other : Candidate) → is_member slots zone other ≡ true → other ≢ member → list_any (λ part. is_member slots part other) (parts_of zone (pairs_of member.choices)) ≡ true

-- splitting a zone by all choices of a member takes out that member alone
abbrev pub SplitByMemberLosesOne : Type 0
SplitByMemberLosesOne = (slots : List (List Cost)) (zone : ZoneValue) (member : Candidate) → is_member slots zone member ≡ true → LosesOne slots zone member
