-- A query is on the walk of the recovery.
use Rattle.std.proofs.Common.{◌≡◌, Bool, true, List, [], ◌∷◌, refl, sym, subst, ap, ◌∙◌, arith, Result, Ok, Err}
use Rattle.std.specs.Prelude.{None}
use Rattle.std.specs.Result.{IfOk}
use Rattle.lv_base.specs.declared.rank.Rank.{Rank}
use Rattle.lv_base.specs.declared.ids.Cost.{Cost}
use Rattle.lv_base.specs.declared.search.Pair.{Pair}
use Rattle.lv_base.specs.declared.search.Candidate.{Candidate}
use Rattle.lv_search.specs.lv_boxes.Members.{ZoneValue}
use Rattle.lv_model.specs.declared.plant.Plant.{Plant}
use Rattle.lv_model.specs.WellFormed.{is_well_formed}
use Rattle.lv_meaning.specs.declared.aim.Aim.{Aim}
use Rattle.lv_meaning.specs.Commands.{command_sets}
use Rattle.lv_meaning.specs.Recovery.{candidate_recovers, candidate_reason}
use Rattle.lv_search.specs.lv_boxes.RankedMembers.{ranked_members}
use Rattle.lv_search.specs.Standing.{Standing, IsUnderWay}
use Rattle.lv_search_zones.specs.Commands.{control_slots, command_zone}
use Rattle.lv_reconf.specs.Judging.{candidate_commands}
use Rattle.lv_reconf.specs.Query.{IsQuery}
use Rattle.lv_reconf.specs.Trying.{Question, asking}
use Rattle.lv_search_zones.proofs.CommandLemmas.{zone_has_sets, sets_suit}

abbrev start : List Rank → Standing
start entries = record { k = 1; groups = None; listed = []; kept = []; left = entries }

-- the zone's members are the command sets
pub search_is : (plant : Plant) → is_well_formed plant ≡ true → (grid : List (List Cost)) → grid ≡ control_slots plant → (zones : List ZoneValue) → zones ≡ command_zone plant ∷ []
    → (left : List Rank) → left ≡ ranked_members grid zones → (s : Standing) → s ≡ start left → s ≡ start (command_sets plant)
search_is plant well grid grid_is zones zones_are left left_is s is = is ∙ ap start (left_is ∙ (λ i. ranked_members (grid_is i) (zones_are i)) ∙ zone_has_sets plant well)

started : (suits fits : Candidate → Bool) (reason : Candidate → List Pair) (entries : List Rank) → IsUnderWay suits fits reason entries (start entries)
started suits fits reason entries = record { walk = λ budget few. refl; trials = omega arith; k = refl; groups = refl; suit = λ suit. suit }

-- a query that has tried nothing
start_is_query : (plant : Plant) (aim : Aim) → IsQuery (record { plant = plant; aim = aim; standing = start (command_sets plant) })
start_is_query plant aim =
    record {
      under_way = started (candidate_commands plant) (candidate_recovers plant aim) (candidate_reason plant aim) (command_sets plant);
      suit = sets_suit plant;
      one = refl;
      plain = refl;
    }

pub new_is_query : (plant : Plant) (aim : Aim) (s : Question) → s ≡ asking plant aim → (t : Standing) → t ≡ start (command_sets plant)
    → IsQuery (record { plant = s.plant; aim = s.aim; standing = t })
new_is_query plant aim s setting t searched =
    subst (λ (q : Question). IsQuery (record { plant = q.plant; aim = q.aim; standing = t })) (sym setting)
    (subst (λ (v : Standing). IsQuery (record { plant = plant; aim = aim; standing = v })) (sym searched) (start_is_query plant aim))

-- what a search says of its trial it says of the plant and the aim
module _ (s t : Question) (is : t ≡ s) where
  pub of_setting : (P : (Candidate → Bool) → (Candidate → Bool) → (Candidate → List Pair) → Type 0) → P (candidate_commands t.plant) (candidate_recovers t.plant t.aim) (candidate_reason t.plant t.aim)
      → P (candidate_commands s.plant) (candidate_recovers s.plant s.aim) (candidate_reason s.plant s.aim)
  of_setting P holds = subst (λ (v : Question). P (candidate_commands v.plant) (candidate_recovers v.plant v.aim) (candidate_reason v.plant v.aim)) is holds

-- what four facts about a result's value say together
pub of_four : {X Y : Type 0} (r : Result X Y) (P Q R S T : X → Type 0) → ((x : X) → P x → Q x → R x → S x → T x) → IfOk r P → IfOk r Q → IfOk r R → IfOk r S → IfOk r T
of_four (Ok x) P Q R S T f p q t u = f x p q t u
of_four (Err e) P Q R S T f p q t u = tt
