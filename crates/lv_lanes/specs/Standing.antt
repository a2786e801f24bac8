-- Where each lane stands, and what a line leads to. A lane is anything that goes from one standing to the next by a line.
use Rattle.std.specs.Prelude.{ℕ, ◌||◌, ◌++◌, List, [], ◌∷◌, Bool, length, map, filter, nat_lt, codes, decimal, if◌then◌else◌}
use Rattle.std.specs.List.{list_any}
use Rattle.lv_base.specs.Names.{is_named}
use Rattle.lv_lanes.specs.declared.fault.LaneFault.{LaneFault}
use Rattle.lv_lanes.specs.declared.fault.LaneFault.TheVariants.{NoLane}
use Rattle.lv_lanes.specs.declared.named.Named.{Named}
use Rattle.lv_lanes.specs.declared.named.TheConstants.{LANES}
use Rattle.lv_lanes.specs.Forms.{Asked, nothing, refused, for_lane, turn, asked_by}

-- the line that goes on with a query, for so many trials
abbrev pub more_line : ℕ → List ℕ
more_line trials = codes "more " ++ decimal trials

-- a line that goes to a lane, and where that lane stands
pub record Errand (S : Type 0) : Type 0 where
  pub name : List ℕ
  pub lane : S
  pub line : List ℕ

-- what is to be done for a line: it is refused; or these lines go to these lanes, one to each, in order
pub data Work (S : Type 0) : Type 0 where
  is_refused : LaneFault → Work S
  errands : List (Errand S) → Work S

-- the lane from which the others are made, and the lanes in the order of their first use
pub record Standing (S : Type 0) : Type 0 where
  pub first : S
  pub lanes : List (Named S)
  pub is_out_of_memory : Bool

module _ {S : Type 0} where
  abbrev pub is_lane : List ℕ → Named S → Bool
  is_lane name l = is_named name l.name

  abbrev pub errand_to : List ℕ → Named S → Errand S
  errand_to line l = record { name = l.name; lane = l.lane; line = line }

  -- where the lane of a name stands; a lane that isn't there stands at the start
  abbrev pub lane_of : List ℕ → S → List (Named S) → S
  lane_of name start [] = start
  lane_of name start (l ∷ ls) = if is_lane name l then l.lane else lane_of name start ls

  -- a lane of that name is there, or there is room for one more
  abbrev pub has_place : List ℕ → List (Named S) → Bool
  has_place name ls = list_any (is_lane name) ls || nat_lt (length ls) LANES

module _ {S : Type 0} (next : S → List ℕ → S) where
  abbrev pub gone_on : List ℕ → Named S → Named S
  gone_on line l = record l { lane = next l.lane line }

  -- after a line for the lane of a name, which is made where it isn't there
  abbrev pub handed : List ℕ → List ℕ → S → List (Named S) → List (Named S)
  handed name line start [] = record { name = name; lane = next start line } ∷ []
  handed name line start (l ∷ ls) = if is_lane name l then gone_on line l ∷ ls else l ∷ handed name line start ls

module _ {S : Type 0} (is_open : S → Bool) where
  abbrev pub is_open_lane : Named S → Bool
  is_open_lane l = is_open l.lane

  -- a line to each lane with an unsettled query
  abbrev pub errands_to_open : List ℕ → List (Named S) → List (Errand S)
  errands_to_open line ls = map (errand_to line) (filter is_open_lane ls)

module _ {S : Type 0} (next : S → List ℕ → S) (is_open : S → Bool) where
  abbrev pub turned : List ℕ → Named S → Named S
  turned line l = if is_open l.lane then gone_on next line l else l

module _ {S : Type 0} (start : S → S) (is_open : S → Bool) where
  abbrev pub work_by : S → List (Named S) → Asked → Work S
  work_by first ls nothing = errands []
  work_by first ls (refused fault) = is_refused fault
  work_by first ls (for_lane name line) =
      if has_place name ls
      then errands (record { name = name; lane = lane_of name (start first) ls; line = line } ∷ [])
      else is_refused NoLane
  work_by first ls (turn trials) = errands (errands_to_open is_open (more_line trials) ls)

  -- what is to be done for a line
  abbrev pub work_of : Standing S → List ℕ → Work S
  work_of s line = work_by s.first s.lanes (asked_by line)

module _ {S : Type 0} (next : S → List ℕ → S) (start : S → S) (is_open : S → Bool) where
  abbrev pub lanes_by : S → List (Named S) → Asked → List (Named S)
  lanes_by first ls nothing = ls
  lanes_by first ls (refused fault) = ls
  lanes_by first ls (for_lane name line) = if has_place name ls then handed next name line (start first) ls else ls
  lanes_by first ls (turn trials) = map (turned next is_open (more_line trials)) ls

  -- where a line leads to
  abbrev pub stepped : Standing S → List ℕ → Standing S
  stepped s line = record s { lanes = lanes_by s.first s.lanes (asked_by line) }
