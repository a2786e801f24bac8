-- What one turn of a search does to where it stands.
use Rattle.std.specs.Prelude.{◌≡◌, ◌≢◌, ◌⊎◌, ℕ, ◌+◌, ◌-◌, ◌<◌, ◌≤◌, Bool, true, false, List, [], ◌∷◌, ◌++◌, length, slice_get, Some}
use Rattle.std.specs.List.{list_any}
use Rattle.lv_base.specs.declared.rank.Rank.{Rank}
use Rattle.lv_base.specs.declared.search.Pair.{Pair}
use Rattle.lv_base.specs.declared.search.Candidate.{Candidate}
use Rattle.lv_boxes.specs.declared.outcome.Outcome.{Outcome}
use Rattle.lv_boxes.specs.Walk.{candidate_of, is_ruled_out}
use Rattle.lv_boxes.specs.Groups.{alike_by}
use Rattle.lv_search.specs.declared.turn.Held.{Held}
use Rattle.lv_search.specs.declared.turn.Next.{Next}
use Rattle.lv_search.specs.declared.turn.Next.TheVariants.{Ends, PassOver, Repeat, Try}
use Rattle.lv_search.specs.declared.turn.Turn.{Turn}
use Rattle.lv_search.specs.declared.turn.Turn.TheVariants as turn
use Rattle.lv_search.specs.Frontier.{FirstContains, LeftAfter}
use Rattle.lv_search.specs.Standing.{Standing, trials_of, walk_on, conflict_at, Follows}

-- where a search stands that holds this and has these candidates left
abbrev pub standing : List Rank → Held → Standing
standing left held = record { k = held.k; groups = held.groups; listed = held.listed; kept = held.conflicts; left = left }

-- the walk ends here, whatever its trial
abbrev pub EndsHere : Outcome → ℕ → Standing → Type 0
EndsHere outcome budget s = (fits : Candidate → Bool) (reason : Candidate → List Pair) → walk_on fits reason budget s ≡ record { outcome = outcome; listed = s.listed; kept = s.kept }

-- a kept conflict rules the first out
pub record PassesOver (number : ℕ) (s : Standing) : Type 0 where
  pub fewer : length s.listed ≢ s.k
  pub within : number < length s.kept
  pub inside : FirstContains (conflict_at s.kept number) s.left

-- the first has the target of a listed one, and no kept conflict rules it out
pub record IsRepeated (s : Standing) : Type 0 where
  pub fewer : length s.listed ≢ s.k
  pub rank : Rank
  pub first : slice_get s.left 0 ≡ Some rank
  pub not_ruled_out : is_ruled_out s.kept rank.choices ≡ false
  pub alike : list_any (alike_by s.groups rank) s.listed ≡ true

-- the first is to be tried
pub record IsTrial (rank : Rank) (candidate : Candidate) (budget : ℕ) (s : Standing) : Type 0 where
  pub fewer : length s.listed ≢ s.k
  pub first : slice_get s.left 0 ≡ Some rank
  pub candidate_is : candidate ≡ candidate_of rank
  pub not_ruled_out : is_ruled_out s.kept rank.choices ≡ false
  pub fresh : list_any (alike_by s.groups rank) s.listed ≡ false
  pub not_used_up : trials_of s ≢ budget

abbrev pub NextTells : Next → ℕ → Standing → Type 0
NextTells (Ends outcome) budget s = EndsHere outcome budget s
NextTells (PassOver number) budget s = PassesOver number s
NextTells Repeat budget s = IsRepeated s
NextTells (Try rank candidate) budget s = IsTrial rank candidate budget s

-- the first is listed, and left out, unless it is the last that is to be listed
pub record IsListed (rank : Rank) (old new : Standing) : Type 0 where
  pub is : new ≡ record old { listed = old.listed ++ (rank ∷ []); left = new.left }
  pub left : ((length (old.listed ++ (rank ∷ [])) ≡ old.k) × (new.left ≡ old.left)) ⊎ LeftAfter old.groups old.left new.left

-- how many turns there are left at most
abbrev pub turns_left : ℕ → Standing → ℕ
turns_left budget s = length s.left + (budget - trials_of s)

-- the search goes on nearer to its end
pub record GoesOnTo (suits fits : Candidate → Bool) (reason : Candidate → List Pair) (budget : ℕ) (old new : Standing) : Type 0 where
  pub follows : Follows suits fits reason old new
  pub few : trials_of new ≤ budget
  pub nearer : turns_left budget new < turns_left budget old

-- the walk from the old place comes to what is held now
abbrev pub EndsAt : Outcome → (Candidate → Bool) → (Candidate → List Pair) → ℕ → Standing → Standing → Type 0
EndsAt outcome fits reason budget old new = walk_on fits reason budget old ≡ record { outcome = outcome; listed = new.listed; kept = new.kept }

-- a turn that ends the search changes nothing
abbrev pub TurnTells : Turn → (Candidate → Bool) → (Candidate → Bool) → (Candidate → List Pair) → ℕ → Standing → Standing → Type 0
TurnTells turn.GoesOn suits fits reason budget old new = GoesOnTo suits fits reason budget old new
TurnTells (turn.Ends outcome) suits fits reason budget old new = (new ≡ old) × EndsAt outcome fits reason budget old new
