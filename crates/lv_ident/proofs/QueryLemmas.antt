-- A query is on the walk of the diagnosis.
use Rattle.std.proofs.Common.{◌≡◌, ℕ, Bool, true, false, List, [], refl, sym, subst, ap, ◌∙◌, arith, Result, Ok, Err}
use Rattle.std.specs.Prelude.{Some, None}
use Rattle.std.specs.Result.{IfOk}
use Rattle.lv_base.specs.declared.rank.Rank.{Rank}
use Rattle.lv_base.specs.declared.ids.Cost.{Cost}
use Rattle.lv_base.specs.declared.search.Pair.{Pair}
use Rattle.lv_base.specs.declared.search.Candidate.{Candidate}
use Rattle.lv_search.specs.lv_boxes.Members.{ZoneValue}
use Rattle.lv_model.specs.declared.plant.Plant.{Plant}
use Rattle.lv_model.specs.declared.state.TrackedState.{TrackedState}
use Rattle.lv_meaning.specs.declared.facts.Facts.{Facts}
use Rattle.lv_meaning.specs.Candidates.{candidates, is_possible_candidate}
use Rattle.lv_meaning.specs.Diagnosis.{reason_of}
use Rattle.lv_meaning.specs.Targets.{are_alike, targets_of_moves}
use Rattle.lv_meaning.proofs.TargetLemmas.{targets_are_groups}
use Rattle.lv_boxes.specs.Groups.{alike_by}
use Rattle.lv_search.specs.lv_boxes.RankedMembers.{ranked_members}
use Rattle.lv_search.specs.Standing.{Standing, IsUnderWay}
use Rattle.lv_search_zones.specs.Moves.{move_slots, zones_from, is_full_choice}
use Rattle.lv_ident.specs.Query.{QueryValue, groups_for, IsQueryOf}
use Rattle.lv_search_zones.proofs.ZoneLemmas.{zones_have_candidates, candidates_are_full}

-- where a search of this many candidates begins
abbrev start : Plant → Bool → ℕ → List Rank → Standing
start plant distinct k entries = record { k = k; groups = groups_for distinct plant; listed = []; kept = []; left = entries }

-- the zones' members are the candidates
pub search_is : (plant : Plant) (tracked : List TrackedState) (grid : List (List Cost)) → grid ≡ move_slots plant → (zones : List ZoneValue) → zones ≡ zones_from plant 0 tracked
    → (left : List Rank) → left ≡ ranked_members grid zones → left ≡ candidates plant tracked
search_is plant tracked grid grid_is zones zones_are left left_is = left_is ∙ (λ i. ranked_members (grid_is i) (zones_are i)) ∙ zones_have_candidates plant tracked

-- a search with groups, and one without, stands where that of the query begins
module _ (plant : Plant) (tracked : List TrackedState) (distinct : Bool) (k : ℕ) (left : List Rank) (left_is : left ≡ candidates plant tracked) (s : Standing) where
  pub distinct_start : distinct ≡ true → (targets : List (List ℕ)) → targets ≡ targets_of_moves plant → s ≡ record { k = k; groups = Some targets; listed = []; kept = []; left = left }
      → s ≡ start plant distinct k (candidates plant tracked)
  distinct_start flag targets is made =
      let groups : Some targets ≡ groups_for distinct plant = ap Some is ∙ sym (ap (λ (d : Bool). groups_for d plant) flag) in
      made ∙ (λ i. record { k = k; groups = groups i; listed = []; kept = []; left = left_is i })

  pub plain_start : distinct ≡ false → s ≡ record { k = k; groups = None; listed = []; kept = []; left = left } → s ≡ start plant distinct k (candidates plant tracked)
  plain_start flag made =
      let groups : None ≡ groups_for distinct plant = sym (ap (λ (d : Bool). groups_for d plant) flag) in
      made ∙ (λ i. record { k = k; groups = groups i; listed = []; kept = []; left = left_is i })

started : (suits fits : Candidate → Bool) (reason : Candidate → List Pair) (plant : Plant) (distinct : Bool) (k : ℕ) (entries : List Rank) → IsUnderWay suits fits reason entries (start plant distinct k entries)
started suits fits reason plant distinct k entries = record { walk = λ budget few. refl; trials = omega arith; k = refl; groups = refl; suit = λ suit. suit }

-- a query that has tried nothing
pub start_is : (plant : Plant) (facts : Facts) (distinct : Bool) (k : ℕ) (tracked : List TrackedState) (s : Standing) → s ≡ start plant distinct k (candidates plant tracked) → (q : QueryValue)
    → q ≡ record { plant = plant; facts = facts; distinct = distinct; standing = s } → q ≡ record { plant = plant; facts = facts; distinct = distinct; standing = start plant distinct k (candidates plant tracked) }
start_is plant facts distinct k tracked s is q made = made ∙ ap (λ (t : Standing). record { plant = plant; facts = facts; distinct = distinct; standing = t }) is

pub start_is_query : (plant : Plant) (facts : Facts) (tracked : List TrackedState) (distinct : Bool) (k : ℕ) (q : QueryValue)
    → q ≡ record { plant = plant; facts = facts; distinct = distinct; standing = start plant distinct k (candidates plant tracked) } → IsQueryOf tracked q
start_is_query plant facts tracked distinct k q is =
    subst (λ (v : QueryValue). IsQueryOf tracked v) (sym is)
    (record {
      under_way = started (is_full_choice plant) (is_possible_candidate plant facts) (reason_of plant facts) plant distinct k (candidates plant tracked);
      suit = candidates_are_full plant tracked;
      groups = refl;
    })

-- the groups tell targets, where targets are told apart
pub alike_is : (distinct : Bool) (plant : Plant) → alike_by (groups_for distinct plant) ≡ are_alike distinct plant
alike_is false plant = refl
alike_is true plant = λ i r q. sym (targets_are_groups plant r q) i

-- what three facts about a result's value say together
pub of_three : {X Y : Type 0} (r : Result X Y) (P Q R S : X → Type 0) → ((x : X) → P x → Q x → R x → S x) → IfOk r P → IfOk r Q → IfOk r R → IfOk r S
of_three (Ok x) P Q R S f p q t = f x p q t
of_three (Err e) P Q R S f p q t = tt
