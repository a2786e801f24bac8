-- Why the trials of a recovery, and what refutes values, keep the laws of such.
use Rattle.std.proofs.Common.{◌≡◌, Bool, true, false, ◌&&◌, List, ◌∷◌, ◌++◌, Option, Some, None, slice_get, sym, subst, ◌∙◌}
use Rattle.std.specs.Option.{option_map_or}
use Rattle.std.proofs.lemmas.Bool.{and_parts, and_from}
use Rattle.std.proofs.lemmas.List.Folds.{list_all-append}
use Rattle.lv_base.specs.declared.search.Pair.{Pair}
use Rattle.lv_model.specs.declared.plant.Plant.{Plant}
use Rattle.lv_model.specs.declared.state.TrackedState.{TrackedState}
use Rattle.lv_boxes.specs.WalkLaws.{IsMonotone}
use Rattle.lv_base.specs.declared.search.Candidate.{Candidate}
use Rattle.lv_base.specs.Choices.{contains_all}
use Rattle.lv_meaning.specs.declared.aim.Aim.{Aim}
use Rattle.lv_meaning.specs.Commands.{is_command_set}
use Rattle.lv_meaning.specs.Recovers.{reaches}
use Rattle.lv_meaning.specs.Recovery.{candidate_recovers, candidate_reason}
use Rattle.lv_meaning.proofs.NominalSteps.{reaches_without}
use Rattle.lv_meaning.proofs.CommandReasons.{reason_is_inside, reason_is_apart}
use Rattle.lv_reconf.specs.Assuming.{pair_fits, pairs_fit}
use Rattle.lv_reconf.specs.Trying.{ReachingValue, reaches_at}

pub fewer_fit : (plant : Plant) (front : List Pair) (p : Pair) (back : List Pair) → pairs_fit plant (front ++ p ∷ back) ≡ true → pairs_fit plant (front ++ back) ≡ true
fewer_fit plant front p back all =
    let two = and_parts (pairs_fit plant front) (pair_fits plant p && pairs_fit plant back) (sym (list_all-append (pair_fits plant) front (p ∷ back)) ∙ all) in
    list_all-append (pair_fits plant) front back ∙ and_from (pairs_fit plant front) (pairs_fit plant back) two.0 ((and_parts (pair_fits plant p) (pairs_fit plant back) two.1).1)

pub reaching_is_monotone : (r : ReachingValue) (possible : List Pair → Bool) → possible ≡ reaches_at r → IsMonotone possible
reaching_is_monotone r possible is = subst IsMonotone (sym is) (record { without = λ front p back. by front p back (slice_get r.aim.tracked r.at) })
  where
    by : (front : List Pair) (p : Pair) (back : List Pair) (o : Option TrackedState) → option_map_or (λ (s : TrackedState). reaches r.plant r.aim s.state (front ++ (p ∷ back))) o false ≡ true
        → option_map_or (λ (s : TrackedState). reaches r.plant r.aim s.state (front ++ back)) o false ≡ true
    by front p back None h = h
    by front p back (Some s) h = reaches_without r.plant r.aim s.state front back p h

pub inside : (plant : Plant) (aim : Aim) (c : Candidate) → contains_all c.choices (candidate_reason plant aim c) ≡ true
inside plant aim c = reason_is_inside plant aim c.choices

pub apart : (plant : Plant) (aim : Aim) (c d : Candidate) → is_command_set plant c.choices ≡ true → is_command_set plant d.choices ≡ true → candidate_recovers plant aim c ≡ false
    → candidate_recovers plant aim d ≡ true → contains_all d.choices (candidate_reason plant aim c) ≡ false
apart plant aim c d one other cannot can = reason_is_apart plant aim c.choices d.choices one other cannot can
