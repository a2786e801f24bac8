-- What was found of the parts of boxes, by the conflicts known then.
use Rattle.std.specs.Prelude.{◌≡◌, ◌≤◌, true, false, List, length, take, All, Option, IfSome}
use Rattle.lv_base.specs.declared.search.Pair.{Pair}
use Rattle.lv_boxes.specs.Members.{are_left}
use Rattle.lv_boxes.specs.Walk.{is_ruled_out}
use Rattle.lv_search_parts.specs.Parts.{inner_of}
use Rattle.lv_search_guide.specs.Lowest.{LowestTells}
use Rattle.lv_search_guide.specs.declared.look.Member.{Member}
use Rattle.lv_guide.specs.declared.remembered.Part.{Part}
use Rattle.lv_guide.specs.declared.remembered.Found.{Found}

-- it is so by the first of these conflicts, as many as were known
pub record IsTrueBy (conflicts : List (List Pair)) (found : Found) : Type 0 where
  pub known : found.known ≤ length conflicts
  pub first : LowestTells found.part.grid (inner_of found.part.marks (take found.known conflicts)) found.part.masks found.first

-- all that is kept in these rows is
abbrev pub AreTrueBy : List (List Pair) → List (Option Found) → Type 0
AreTrueBy conflicts rows = All (λ (row : Option Found). IfSome row (IsTrueBy conflicts)) rows

-- and it was found of this part
pub record IsFoundOf (conflicts : List (List Pair)) (part : Part) (found : Found) : Type 0 where
  pub same : found.part ≡ part
  pub so : IsTrueBy conflicts found

-- the first member contains none of these conflicts, where it is one of the part
pub record HoldsBy (conflicts : List (List Pair)) (part : Part) (first : Option Member) : Type 0 where
  pub clear : IfSome first (λ (member : Member). are_left part.grid part.masks member.choices ≡ true → is_ruled_out (inner_of part.marks conflicts) member.choices ≡ false)
