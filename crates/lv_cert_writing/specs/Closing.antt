-- By what zones are split until each is passed, and what the splits come to.
use Rattle.std.specs.Prelude.{◌≡◌, ℕ, ◌+◌, Bool, true, nat_le, List, [], ◌∷◌, map, position, slice_index_or, Option, Some, None, option_map, if◌then◌else◌, ◌≤◌, ◌^◌}
use Rattle.std.specs.List.{list_all}
use Rattle.std.specs.Option.{option_or, option_and_then, option_map_or}
use Rattle.lv_base.specs.declared.ids.Cost.{Cost}
use Rattle.lv_base.specs.declared.rank.Rank.{Rank}
use Rattle.lv_base.specs.declared.search.Pair.{Pair}
use Rattle.lv_base.specs.Choices.{contains_all, pairs_of}
use Rattle.lv_model.specs.declared.plant.Plant.{Plant}
use Rattle.lv_meaning.specs.Targets.{targets_of_moves}
use Rattle.lv_boxes.specs.Members.{ZoneValue}
use Rattle.lv_boxes.specs.Parts.{parts_of}
use Rattle.lv_boxes.specs.GroupParts.{parts_by_groups}
use Rattle.lv_boxes.specs.Ranked.{is_rank}
use Rattle.lv_cert.specs.declared.line.Question.{Question}
use Rattle.lv_cert.specs.declared.line.Question.TheVariants.{Diagnosis, Recovery}
use Rattle.lv_cert.specs.declared.line.Evidence.{Evidence}
use Rattle.lv_cert.specs.declared.line.Evidence.TheVariants as evidence
use Rattle.lv_cert.specs.Order.{splits}
use Rattle.lv_cert_meaning.specs.Space.{Space, open_zone, with_parts, least_rank, is_behind, all_passed}
use Rattle.lv_cert_meaning.specs.Judging.{Judged, judge_split}
use Rattle.lv_cert_writing.specs.Explained.{stands_for}
use Rattle.lv_cert_writing.specs.declared.closing.Split.{Split}

-- so many may be listed: of command sets one at most
abbrev pub can_be_listed : Question → ℕ → Bool
can_be_listed Diagnosis count = true
can_be_listed Recovery count = nat_le count 1

-- a listed candidate as evidence, by its number
abbrev pub listed_evidence : Question → ℕ → Evidence
listed_evidence Diagnosis n = evidence.Listed n
listed_evidence Recovery n = evidence.Recovery

-- evidence, and the parts into which a zone is split by it
pub record Cut : Type 0 where
  pub by : Evidence
  pub parts : ZoneValue → List ZoneValue

-- the excluded conflict at this place
abbrev pub cut_by_conflict : List (List Pair) → ℕ → Cut
cut_by_conflict excluded place = record { by = evidence.Conflict (place + 1); parts = λ zone. parts_of zone (slice_index_or excluded place []) }

-- the listed candidate at this place, of this rank
abbrev pub cut_by_listed : Question → Rank → ℕ → Cut
cut_by_listed question r place = record { by = listed_evidence question (place + 1); parts = λ zone. parts_of zone (pairs_of r.choices) }

-- the target of the listed candidate at this place, which stands for the rank
abbrev pub cut_by_target : List (List ℕ) → List Rank → Rank → ℕ → Cut
cut_by_target groups listed r place = record { by = evidence.Target (place + 1); parts = λ zone. parts_by_groups zone groups (slice_index_or listed place r).choices }

-- the first of the listed that stands for the rank, where choices have groups
abbrev pub cut_of_target : List (List ℕ) → List Rank → Rank → Option Cut
cut_of_target groups listed r = option_map (cut_by_target groups listed r) (position (stands_for (Some groups) r) listed)

-- the first of the listed that the rank is, or whose target it has where choices have groups
abbrev pub cut_of_listed : Option (List (List ℕ)) → Question → List Rank → Rank → Option Cut
cut_of_listed None question listed r = option_map (cut_by_listed question r) (position (is_rank r) listed)
cut_of_listed (Some groups) question listed r = cut_of_target groups listed r

-- of a zone with this least member: the first excluded conflict in it, or else the first of the listed that stands for it
abbrev pub cut_of : Option (List (List ℕ)) → Question → List Rank → List (List Pair) → Rank → Option Cut
cut_of groups question listed excluded r =
    option_or (option_map (cut_by_conflict excluded) (position (contains_all r.choices) excluded)) (cut_of_listed groups question listed r)

-- none where it ranks behind the last that counts
abbrev pub cut_before : Option (List (List ℕ)) → Question → Option Rank → List Rank → List (List Pair) → Rank → Option Cut
cut_before groups question last listed excluded r = if is_behind last r then None else cut_of groups question listed excluded r

-- by what the zone of this number is split, if it is open and has members
abbrev pub cut_at : Option (List (List ℕ)) → Question → Option Rank → List Rank → List (List Pair) → Space → ℕ → Option Cut
cut_at groups question last listed excluded s n = option_and_then (cut_before groups question last listed excluded) (option_and_then (least_rank s.slots) (open_zone s n))

-- the zone of this number, which is open, split so
abbrev pub with_cut : Space → ℕ → ZoneValue → Option Cut → Space
with_cut s n zone None = s
with_cut s n zone (Some cut) = with_parts s n (cut.parts zone)

-- if it is open
abbrev pub after_cut : Space → ℕ → Option Cut → Space
after_cut s n cut = option_map_or (λ zone. with_cut s n zone cut) (open_zone s n) s

-- what splits come to, each judged after the one before
abbrev pub judge_splits : Plant → Judged → List Split → Option Judged
judge_splits plant j [] = Some j
judge_splits plant j (s ∷ ss) = option_and_then (λ next. judge_splits plant next ss) (judge_split plant j s.zone s.by)

-- targets are asked for in a diagnosis alone
abbrev pub AreForQuestion : Option (List (List ℕ)) → Question → Type 0
AreForQuestion None question = Unit {0}
AreForQuestion (Some targets) question = question ≡ Diagnosis

-- where choices have groups, a diagnosis with distinct targets is answered, and these are the targets of moves
pub record AsksBy (plant : Plant) (distinct : Bool) (groups : List (List ℕ)) : Type 0 where
  pub distinct_is : distinct ≡ true
  pub targets_are : groups ≡ targets_of_moves plant

abbrev pub MayHaveTargets : Plant → Bool → Option (List (List ℕ)) → Type 0
MayHaveTargets plant distinct None = Unit {0}
MayHaveTargets plant distinct (Some groups) = AsksBy plant distinct groups

-- judged where these zones are open, and this is listed and excluded, the splits come to zones that are all passed; and a certificate
-- that answers the question may have such splits
pub record Closes (groups : Option (List (List ℕ))) (question : Question) (slots : List (List Cost)) (zones : List ZoneValue) (last : Option Rank) (listed : List Rank) (excluded : List (List Pair)) (made : List Split) : Type 0 where
  pub space : Space
  pub judged : (plant : Plant) (j : Judged) → MayHaveTargets plant j.stated.distinct groups → j.space ≡ record { slots = slots; zones = map Some zones } → j.listed ≡ listed → j.excluded ≡ excluded
      → judge_splits plant j made ≡ Some (record j { space = space })
  pub passed : all_passed space last ≡ true
  pub fitting : list_all (λ s. splits question s.by) made ≡ true

-- evidence whose number, if it has one, is no larger than a list can be long
abbrev pub EvidenceIsSmall : Evidence → Type 0
EvidenceIsSmall (evidence.Conflict n) = n ≤ 2 ^ 64
EvidenceIsSmall (evidence.Listed n) = n ≤ 2 ^ 64
EvidenceIsSmall (evidence.Target n) = n ≤ 2 ^ 64
EvidenceIsSmall evidence.Recovery = Unit {0}

-- so a split's numbers
pub record SplitIsSmall (s : Split) : Type 0 where
  pub zone : s.zone ≤ 2 ^ 64
  pub by : EvidenceIsSmall s.by
