-- The command sets that recover as what a recovery seeks, and the first of them as its answer.
use Rattle.std.proofs.Common.{◌≡◌, ℕ, suc, ◌<◌, ◌≤◌, true, false, not, nat_lt, List, [], ◌∷◌, length, take, filter, inl, ⊎_elim, refl, sym, subst, ◌∙◌, ap, arith}
use Rattle.std.specs.List.{list_all}
use Rattle.std.specs.Cmp.Lexicographic.{pointwise}
use Rattle.std.proofs.lemmas.Bool.{and_parts}
use Rattle.lv_cert_meaning.specs.lv_base.declared.rank.Rank.{Rank}
use Rattle.lv_cert_meaning.specs.lv_base.declared.search.Pair.{Pair}
use Rattle.lv_cert_meaning.specs.lv_base.Choices.{contains_all, pairs_of}
use Rattle.lv_cert_meaning.specs.lv_base.Rank.{ranks_before}
use Rattle.lv_cert_meaning.specs.lv_model.declared.plant.Plant.{Plant}
use Rattle.lv_cert_meaning.specs.lv_model.declared.state.TrackedState.{TrackedState}
use Rattle.lv_cert_meaning.specs.lv_model.Lists.{controls}
use Rattle.lv_cert_meaning.specs.lv_model.WellFormed.{is_well_formed}
use Rattle.lv_cert_meaning.specs.lv_boxes.Ranked.{rises}
use Rattle.lv_cert_meaning.proofs.lv_boxes.RankedLemmas.{not_before_itself, not_both_before}
use Rattle.lv_cert_meaning.proofs.lv_meaning.Among.{Among, all_among}
use Rattle.lv_cert_meaning.proofs.lv_meaning.Answering.{among_passing, among_filtered, all_pass, rise_filtered}
use Rattle.lv_cert_meaning.proofs.lv_meaning.Listing.{same_rank}
use Rattle.lv_cert_meaning.proofs.lv_meaning.Reasons.{at_pairs, apart_by}
use Rattle.lv_cert_meaning.specs.lv_boxes.RankedMembers.{ranked_members}
use Rattle.lv_cert_meaning.specs.lv_meaning.Recovers.{has_control, meets_goals, reaches, can_miss, is_sure_from}
use Rattle.lv_cert_meaning.specs.lv_meaning.Commands.{control_sizes, is_command_set, commands_cost, command_sets}
use Rattle.lv_cert_meaning.specs.lv_meaning.Recovery.{rank_recovers}
use Rattle.lv_cert_meaning.specs.lv_meaning.RecoveryLaws.{IsCommandSet}
use Rattle.lv_cert_meaning.proofs.lv_meaning.NominalSteps.{some_step_less}
use Rattle.lv_cert_meaning.proofs.lv_meaning.CommandSets.{sets_rise, set_among, among_is_set}
use Rattle.lv_cert_meaning.specs.lv_search_zones.Commands.{control_slots, command_zone}
use Rattle.lv_cert_meaning.proofs.lv_search_zones.CommandLemmas.{zone_has_sets}
use Rattle.lv_cert_meaning.specs.Stated.{Stated}
use Rattle.lv_cert_meaning.specs.Laws.{aim_of}
use Rattle.lv_cert_laws.proofs.Exclusion.{same_choices}
use Rattle.lv_cert_laws.proofs.Sound.{AreApart}

-- a command set that recovers by what is stated
pub record IsRecovering (plant : Plant) (s : Stated) (r : Rank) : Type 0 where
  pub set : IsCommandSet plant r
  pub recovers : rank_recovers plant (aim_of s) r ≡ true

same_length : (us sizes : List ℕ) → pointwise nat_lt us sizes ≡ true → length us ≡ length sizes
same_length [] [] h = refl
same_length [] (n ∷ ns) h = absurd (cc h)
same_length (u ∷ us) [] h = absurd (cc h)
same_length (u ∷ us) (n ∷ ns) h = ap suc (same_length us ns ((and_parts (nat_lt u n) (pointwise nat_lt us ns) h).1))

module _ (plant : Plant) (s : Stated) where
  pub recovering_apart : AreApart (IsRecovering plant s)
  recovering_apart =
      record {
        one = λ q r a b source choices. same_rank q r (a.set.cost ∙ ap (commands_cost plant (controls plant)) choices ∙ sym b.set.cost) source choices;
        even = λ q r a b. same_length q.choices (control_sizes plant) a.set.values ∙ sym (same_length r.choices (control_sizes plant) b.set.values);
      }

  -- the zone of all command sets has each that recovers
  pub recovering_in_zone : is_well_formed plant ≡ true → (r : Rank) → IsRecovering plant s r → Among r (ranked_members (control_slots plant) (command_zone plant ∷ []))
  recovering_in_zone h r is = subst (λ (rs : List Rank). Among r rs) (sym (zone_has_sets plant h)) (set_among plant r is.set)

  sure_from_each : (x : TrackedState) → Among x s.tracked → (r : Rank) → IsRecovering plant s r
      → (reaches plant (aim_of s) x.state (pairs_of r.choices) ≡ true) × (not (can_miss plant (aim_of s) x.state (pairs_of r.choices)) ≡ true)
  sure_from_each x a r is =
      and_parts (reaches plant (aim_of s) x.state (pairs_of r.choices)) (not (can_miss plant (aim_of s) x.state (pairs_of r.choices)))
      (all_among (is_sure_from plant (aim_of s) r.choices) s.tracked x is.recovers a)

  -- values that don't reach the goals from some state are in none that recovers
  pub unreached_in_none : (x : TrackedState) → Among x s.tracked → (pairs : List Pair) → reaches plant (aim_of s) x.state pairs ≡ false → (r : Rank) → IsRecovering plant s r
      → contains_all r.choices pairs ≡ false
  unreached_in_none x a pairs never r is =
      apart_by (contains_all r.choices pairs) (reaches plant (aim_of s) x.state pairs) never
      (λ inside.
      some_step_less plant s.facts.present x.state (pairs_of r.choices) pairs (meets_goals s.goals) (λ b all. at_pairs (has_control (controls plant) b) r.choices pairs all inside)
      (sure_from_each x a r is).0)

  -- nor are the values of all controls that can miss a goal from some state
  pub missing_in_none : (x : TrackedState) → Among x s.tracked → (values : List ℕ) → is_command_set plant values ≡ true → can_miss plant (aim_of s) x.state (pairs_of values) ≡ true
      → (r : Rank) → IsRecovering plant s r → contains_all r.choices (pairs_of values) ≡ false
  missing_in_none x a values set can r is =
      apart_by (contains_all r.choices (pairs_of values)) (not (can_miss plant (aim_of s) x.state (pairs_of values))) (ap not can)
      (λ inside.
      let long : length values ≡ length r.choices = same_length values (control_sizes plant) set ∙ sym (same_length r.choices (control_sizes plant) is.set.values) in
      ap (λ us. not (can_miss plant (aim_of s) x.state (pairs_of us))) (same_choices values r.choices long inside) ∙ (sure_from_each x a r is).1)

-- one of ranks in order at most, which is among them, before which none is, and that there is where they are some, is their first
first_one : (all first : List Rank) → rises all ≡ true → length first ≤ 1 → ((r : Rank) → Among r first → Among r all)
    → ((r other : Rank) → Among r first → Among other all → (Among other first → ⊥) → ranks_before r other ≡ true) → (length first < 1 → (r : Rank) → Among r all → Among r first)
    → first ≡ take 1 all
first_one [] [] rise few members after none = refl
first_one [] (y ∷ ys) rise few members after none = absurd (members y (inl refl))
first_one (x ∷ xs) [] rise few members after none = absurd (none (omega arith) x (inl refl))
first_one (x ∷ xs) (y ∷ (z ∷ zs)) rise few members after none = absurd (omega (arith, few))
first_one (x ∷ xs) (y ∷ []) rise few members after none =
    ⊎_elim (λ e. ap (λ (r : Rank). r ∷ []) e)
    (λ later.
    let before : ranks_before x y ≡ true = all_among (ranks_before x) xs y ((and_parts (list_all (ranks_before x) xs) (rises xs) rise).0) later in
    absurd (not_both_before x y before
    (after y x (inl refl) (inl refl)
    (⊎_elim
    (λ e. let clash : true ≡ false = sym before ∙ ap (λ r. ranks_before r y) e ∙ not_before_itself y in cc clash) (λ never. never)))))
    (members y (inl refl))

pub first_recovers : (plant : Plant) (s : Stated) (answer : List Rank) → length answer ≤ 1 → ((r : Rank) → Among r answer → IsRecovering plant s r)
    → ((r other : Rank) → Among r answer → IsRecovering plant s other → (Among other answer → ⊥) → ranks_before r other ≡ true)
    → (length answer < 1 → (r : Rank) → IsRecovering plant s r → Among r answer) → answer ≡ take 1 (filter (rank_recovers plant (aim_of s)) (command_sets plant))
first_recovers plant s answer few are after none =
    first_one (filter (rank_recovers plant (aim_of s)) (command_sets plant)) answer (rise_filtered (rank_recovers plant (aim_of s)) (command_sets plant) (sets_rise plant)) few
    (λ r a. among_passing (rank_recovers plant (aim_of s)) (command_sets plant) r (set_among plant r (are r a).set) (are r a).recovers)
    (λ r other a b left. after r other a (recovering other b) left) (λ fewer r b. none fewer r (recovering r b))
  where
    recovering : (r : Rank) → Among r (filter (rank_recovers plant (aim_of s)) (command_sets plant)) → IsRecovering plant s r
    recovering r b =
        record {
          set = among_is_set plant r (among_filtered (rank_recovers plant (aim_of s)) (command_sets plant) r b);
          recovers = all_among (rank_recovers plant (aim_of s)) (filter (rank_recovers plant (aim_of s)) (command_sets plant)) r (all_pass (rank_recovers plant (aim_of s)) (command_sets plant)) b;
        }
