-- What a split by a conflict, or by the target of a member, makes.
use Rattle.std.proofs.Common.{◌≡◌, ℕ, ◌+◌, ◌<◌, List, [], ◌∷◌, ◌++◌, length, min, Some, sym, ◌∙◌, ap, ap₂, arith}
use Rattle.std.specs.Prelude.{slice_get}
use Rattle.std.specs.Option.{option_map_or}
use Rattle.std.proofs.lemmas.Option.{slice_get_within}
use Rattle.lv_base.specs.declared.search.Pair.{Pair}
use Rattle.lv_boxes.specs.Members.{ZoneValue}
use Rattle.lv_boxes.specs.Parts.{parts_of}
use Rattle.lv_boxes.specs.GroupParts.{masks_of_group, parts_from, parts_by_groups}
use Rattle.lv_boxes.specs.Groups.{group_of}
use Rattle.lv_split_zones.specs.declared.split.By.{By}
use Rattle.lv_split_zones.specs.declared.split.By.TheVariants as by
use Rattle.lv_split_zones.specs.declared.split.Split.{Split}
use Rattle.lv_split_zones.specs.Splits.{CausesValue, parts_by_target, parts_by, parts_at, IsKept, IsKnown, IsConflict, IsTarget}
use Rattle.lv_split_zones.proofs.SplitLemmas.{in_front, behind, is_there, count_by_pairs}

pub count_by_groups : (zone : ZoneValue) (slot : ℕ) (groups : List (List ℕ)) (choices : List ℕ) → length (parts_from zone slot groups choices) ≡ min (length groups) (length choices)
count_by_groups zone slot [] choices = omega arith
count_by_groups zone slot (numbers ∷ groups) [] = omega arith
count_by_groups zone slot (numbers ∷ groups) (choice ∷ choices) =
    let rest : length (parts_from (record zone { masks = masks_of_group zone.masks slot numbers (group_of numbers choice) }) (slot + 1) groups choices) ≡ min (length groups) (length choices) =
    count_by_groups (record zone { masks = masks_of_group zone.masks slot numbers (group_of numbers choice) }) (slot + 1) groups choices in
    omega (arith, rest)

-- a split of a zone that there is
parts_there : (causes : CausesValue) (zones : List ZoneValue) (s : Split) (zone : ZoneValue) → slice_get zones s.zone ≡ Some zone → parts_at causes zones s ≡ parts_by causes zone s.by
parts_there causes zones s zone e = ap (λ o. option_map_or (λ z. parts_by causes z s.by) o []) e

parts_by_conflict : (causes : CausesValue) (zone : ZoneValue) (pairs : List Pair) (b : By) → IsConflict causes pairs b → parts_by causes zone b ≡ parts_of zone pairs
parts_by_conflict causes zone pairs (by.Conflict j) is = ap (λ o. option_map_or (parts_of zone) o []) is
parts_by_conflict causes zone pairs (by.Target g m) is = absurd is

parts_by_member : (causes : CausesValue) (zone : ZoneValue) (groups : List (List ℕ)) (member : List ℕ) (b : By) → IsTarget causes groups member b → parts_by causes zone b ≡ parts_by_groups zone groups member
parts_by_member causes zone groups member (by.Conflict j) is = absurd is
parts_by_member causes zone groups member (by.Target g m) is = ap₂ (parts_by_target zone) is.0 is.1

pub known_conflict : (causes : CausesValue) (pairs : List Pair) (b : By) → IsConflict causes pairs b → IsKnown causes b
known_conflict causes pairs (by.Conflict j) is = slice_get_within causes.conflicts j pairs is
known_conflict causes pairs (by.Target g m) is = absurd is

pub known_target : (causes : CausesValue) (groups : List (List ℕ)) (member : List ℕ) (b : By) → IsTarget causes groups member b → IsKnown causes b
known_target causes groups member (by.Conflict j) is = absurd is
known_target causes groups member (by.Target g m) is = (slice_get_within causes.groups g groups is.0, slice_get_within causes.members m member is.1)

pub conflict_parts : (causes : CausesValue) (zones : List ZoneValue) (s : Split) (zone : ZoneValue) (pairs : List Pair) → IsConflict causes pairs s.by → slice_get zones s.zone ≡ Some zone → parts_at causes zones s ≡ parts_of zone pairs
conflict_parts causes zones s zone pairs is e = parts_there causes zones s zone e ∙ parts_by_conflict causes zone pairs s.by is

pub target_parts : (causes : CausesValue) (zones : List ZoneValue) (s : Split) (zone : ZoneValue) (groups : List (List ℕ)) (member : List ℕ) → IsTarget causes groups member s.by → slice_get zones s.zone ≡ Some zone
    → parts_at causes zones s ≡ parts_by_groups zone groups member
target_parts causes zones s zone groups member is e = parts_there causes zones s zone e ∙ parts_by_member causes zone groups member s.by is

pub conflict_count : (causes : CausesValue) (zones : List ZoneValue) (s : Split) (pairs : List Pair) → IsConflict causes pairs s.by → s.zone < length zones → length pairs ≡ length (parts_at causes zones s)
conflict_count causes zones s pairs is here =
    let there = is_there zones s.zone here in
    sym (ap length (conflict_parts causes zones s there.0 pairs is there.1) ∙ count_by_pairs there.0 pairs)

pub target_count : (causes : CausesValue) (zones : List ZoneValue) (s : Split) (groups : List (List ℕ)) (member : List ℕ) → IsTarget causes groups member s.by → s.zone < length zones
    → min (length groups) (length member) ≡ length (parts_at causes zones s)
target_count causes zones s groups member is here =
    let there = is_there zones s.zone here in
    sym (ap length (target_parts causes zones s there.0 groups member is there.1) ∙ count_by_groups there.0 0 groups member)

-- a list with more behind has what it had
pub still_there : {X : Type 0} (xs more : List X) (i : ℕ) (x : X) → slice_get xs i ≡ Some x → slice_get (xs ++ more) i ≡ Some x
still_there xs more i x e = in_front xs more i (slice_get_within xs i x e) ∙ e

pub last_there : {X : Type 0} (xs : List X) (x : X) → slice_get (xs ++ x ∷ []) (length xs) ≡ Some x
last_there xs x = let same : length xs ≡ 0 + length xs = omega arith in ap (slice_get (xs ++ x ∷ [])) same ∙ behind xs (x ∷ []) 0

pub kept_alike : (c : CausesValue) → IsKept c c
kept_alike c = record { conflicts = λ j x e. e; groups = λ j x e. e; members = λ j x e. e }

pub kept_both : (a b c : CausesValue) → IsKept a b → IsKept b c → IsKept a c
kept_both a b c first second =
    record {
      conflicts = λ j x e. second.conflicts j x (first.conflicts j x e);
      groups = λ j x e. second.groups j x (first.groups j x e);
      members = λ j x e. second.members j x (first.members j x e);
    }

pub more_conflicts : (c : CausesValue) (x : List Pair) → IsKept c (record c { conflicts = c.conflicts ++ x ∷ [] })
more_conflicts c x = record { conflicts = λ j y e. still_there c.conflicts (x ∷ []) j y e; groups = λ j y e. e; members = λ j y e. e }

pub more_groups : (c : CausesValue) (x : List (List ℕ)) → IsKept c (record c { groups = c.groups ++ x ∷ [] })
more_groups c x = record { conflicts = λ j y e. e; groups = λ j y e. still_there c.groups (x ∷ []) j y e; members = λ j y e. e }

pub more_members : (c : CausesValue) (x : List ℕ) → IsKept c (record c { members = c.members ++ x ∷ [] })
more_members c x = record { conflicts = λ j y e. e; groups = λ j y e. e; members = λ j y e. still_there c.members (x ∷ []) j y e }

-- a member more leaves what its groups are
pub groups_still : (old new : CausesValue) (groups : List (List ℕ)) (member : List ℕ) (g m : ℕ) → IsKept old new → slice_get old.groups g ≡ Some groups → slice_get new.members m ≡ Some member → IsTarget new groups member (by.Target g m)
groups_still old new groups member g m kept is there = (kept.groups g groups is, there)
