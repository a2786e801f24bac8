-- A settled walk of a recovery lists the first command set that recovers.
use Rattle.std.proofs.Common.{◌≡◌, ℕ, ◌≤◌, Bool, true, false, List, [], ◌∷◌, take, filter, length, Contains, cond, inl, inr, refl, sym, subst, ◌∙◌, ap, arith}
use Rattle.std.proofs.lemmas.Bool.{and_parts}
use Rattle.std.specs.List.{list_all}
use Rattle.lv_base.specs.declared.rank.Rank.{Rank}
use Rattle.lv_base.specs.declared.search.Candidate.{Candidate}
use Rattle.lv_base.specs.Rank.{ranks_before}
use Rattle.lv_model.specs.declared.plant.Plant.{Plant}
use Rattle.lv_boxes.specs.declared.outcome.Outcome.TheVariants.{Settled}
use Rattle.lv_boxes.specs.Ranked.{rises}
use Rattle.lv_boxes.specs.Walk.{none_alike}
use Rattle.lv_boxes.proofs.RankedLemmas.{not_before_itself, not_both_before}
use Rattle.lv_boxes.proofs.WalkLemmas.{plain_exact, with_ample}
use Rattle.lv_meaning.proofs.Among.{Among, among, all_among}
use Rattle.lv_meaning.specs.declared.aim.Aim.{Aim}
use Rattle.lv_meaning.specs.Recovers.{recovers}
use Rattle.lv_meaning.specs.Commands.{is_command_set, command_rank, command_sets}
use Rattle.lv_meaning.specs.Recovery.{candidate_recovers, candidate_reason, rank_recovers, recovery_walk}
use Rattle.lv_meaning.specs.RecoveryLaws.{IsRecovery}
use Rattle.lv_meaning.proofs.NominalSteps.{each_passes}
use Rattle.lv_meaning.proofs.CommandSets.{sets_rise, set_among, among_is_set}
use Rattle.lv_meaning.proofs.CommandReasons.{reasons_are_sound}

-- the first of ranks in order that passes
pub record IsFirst (p : Rank → Bool) (rs : List Rank) (r : Rank) : Type 0 where
  pub listed : Among r rs
  pub passes : p r ≡ true
  pub first : (other : Rank) → Among other rs → p other ≡ true → ranks_before other r ≡ false

never_before : (r other : Rank) → ranks_before r other ≡ true → ranks_before other r ≡ false
never_before r other h = by (ranks_before other r) refl
  where
    by : (b : Bool) → ranks_before other r ≡ b → b ≡ false
    by true e = absurd (not_both_before r other h e)
    by false e = refl

module _ (p : Rank → Bool) where
  pub is_first : (rs : List Rank) (r : Rank) → rises rs ≡ true → Among r (take 1 (filter p rs)) → IsFirst p rs r
  is_first [] r rising h = absurd h
  is_first (x ∷ xs) r rising h = by (p x) refl h (is_first xs r halves.1)
    where
      halves : (list_all (ranks_before x) xs ≡ true) × (rises xs ≡ true)
      halves = and_parts (list_all (ranks_before x) xs) (rises xs) rising

      after : (other : Rank) → Among other (x ∷ xs) → ranks_before other x ≡ false
      after other (inl e) = ap (λ (y : Rank). ranks_before y x) e ∙ not_before_itself x
      after other (inr a) = never_before x other (all_among (ranks_before x) xs other halves.0 a)

      first_behind : IsFirst p xs r → p x ≡ false → (other : Rank) → Among other (x ∷ xs) → p other ≡ true → ranks_before other r ≡ false
      first_behind f never other (inl is) passes = let clash : true ≡ false = sym passes ∙ ap p is ∙ never in absurd (cc clash)
      first_behind f never other (inr there) passes = f.first other there passes

      by : (b : Bool) → p x ≡ b → Among r (take 1 (cond b (x ∷ filter p xs) (filter p xs))) → (Among r (take 1 (filter p xs)) → IsFirst p xs r) → IsFirst p (x ∷ xs) r
      by true e (inl is) rest =
          record { listed = inl is; passes = ap p is ∙ e; first = λ other a passes. ap (λ (y : Rank). ranks_before other y) is ∙ after other a }
      by true e (inr none) rest = absurd none
      by false e a rest =
          let f : IsFirst p xs r = rest a in
          record { listed = inr f.listed; passes = f.passes; first = λ other there passes. first_behind f e other there passes }

  pub none_passes : (rs : List Rank) → take 1 (filter p rs) ≡ [] → (r : Rank) → Among r rs → p r ≡ false
  none_passes [] none r h = absurd h
  none_passes (x ∷ xs) none r h = by (p x) refl none (none_passes xs) h
    where
      by : (b : Bool) → p x ≡ b → take 1 (cond b (x ∷ filter p xs) (filter p xs)) ≡ [] → (take 1 (filter p xs) ≡ [] → (s : Rank) → Among s xs → p s ≡ false) → Among r (x ∷ xs) → p r ≡ false
      by true e nothing rest there = absurd (cc nothing)
      by false e nothing rest (inl is) = ap p is ∙ e
      by false e nothing rest (inr there) = rest nothing r there

module _ (plant : Plant) (aim : Aim) (budget : ℕ) where
  all_suit : list_all (λ (r : Rank). is_command_set plant r.choices) (command_sets plant) ≡ true
  all_suit = each_passes (λ (r : Rank). is_command_set plant r.choices) (command_sets plant) (λ r a. (among_is_set plant r a).values)

  pub walk_exact : (recovery_walk plant aim budget).outcome ≡ Settled → (recovery_walk plant aim budget).listed ≡ take 1 (filter (rank_recovers plant aim) (command_sets plant))
  walk_exact settled =
      plain_exact (λ (c : Candidate). is_command_set plant c.choices) (candidate_recovers plant aim) (candidate_reason plant aim) (reasons_are_sound plant aim) 1 budget (command_sets plant)
      all_suit settled

  pub walk_found : (r : Rank) → (recovery_walk plant aim budget).outcome ≡ Settled → Contains (recovery_walk plant aim budget).listed r → IsRecovery plant aim r
  walk_found r settled there =
      let f : IsFirst (rank_recovers plant aim) (command_sets plant) r =
      is_first (rank_recovers plant aim) (command_sets plant) r (sets_rise plant)
      (subst (λ (rs : List Rank). Among r rs) (walk_exact settled) (among (recovery_walk plant aim budget).listed r there))
      in
      record { set = among_is_set plant r f.listed; sure = f.passes; first = λ other is sure. f.first other (set_among plant other is) sure }

  pub walk_none : (recovery_walk plant aim budget).outcome ≡ Settled → (recovery_walk plant aim budget).listed ≡ [] → (u : List ℕ) → is_command_set plant u ≡ true → recovers plant aim u ≡ false
  walk_none settled nothing u values =
      none_passes (rank_recovers plant aim) (command_sets plant) (sym (walk_exact settled) ∙ nothing) (command_rank plant u)
      (set_among plant (command_rank plant u) (record { values = values; cost = refl; source = refl }))

  pub walk_ample : length (command_sets plant) ≤ budget → (recovery_walk plant aim budget).outcome ≡ Settled
  walk_ample few = with_ample none_alike (candidate_recovers plant aim) (candidate_reason plant aim) 1 budget (command_sets plant) [] [] (omega (arith, few))
