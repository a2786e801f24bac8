-- Exactly the trajectories are listed.
use Rattle.std.proofs.Common.{◌≡◌, ℕ, zero, suc, ◌+◌, true, List, [], ◌∷◌, ◌++◌, length, slice_get, Some, Contains, inl, inr, ⊎_elim, append-nil, append_assoc, refl, sym, subst, ap, ap₂, ◌∙◌, arith}
use Rattle.std.specs.List.{flat_map}
use Rattle.lv_base.specs.declared.ids.ValId.{ValId}
use Rattle.lv_base.specs.declared.rank.Rank.{Rank}
use Rattle.lv_model.specs.declared.plant.Plant.{Plant}
use Rattle.lv_model.specs.declared.state.TrackedState.{TrackedState}
use Rattle.lv_boxes.specs.Ranked.{rises, put_in_order}
use Rattle.lv_boxes.proofs.RankedLemmas.{rises_ranked}
use Rattle.lv_meaning.specs.Candidates.{ranks_from, ranks_of, candidates}
use Rattle.lv_meaning.specs.CandidateLaws.{moves_cost}
use Rattle.lv_meaning.specs.Targets.{target_modes, target_of_rank}
use Rattle.lv_meaning.proofs.Among.{Among, among, contained, among_left, among_right, among_either}
use Rattle.lv_meaning.proofs.Listing.{same_rank, put_has, put_adds, GoesOn, goes_on, leads_there}
use Rattle.lv_window.specs.Trajectories.{trajectories_from, trajectories_of, trajectories}
use Rattle.lv_window.specs.Laws.{JoinUp, all_choices, all_cost, IsTrajectory}

-- lists made of the items of another
module _ {X : Type 0} (f : X → List Rank) where
  record FromItem (xs : List X) (r : Rank) : Type 0 where
    pub item : X
    pub listed : Among item xs
    pub there : Among r (f item)

  from_item : (xs : List X) (r : Rank) → Among r (flat_map f xs) → FromItem xs r
  from_item [] r h = absurd h
  from_item (x ∷ xs) r h =
      ⊎_elim (λ a. record { item = x; listed = inl refl; there = a })
      (λ b. let i : FromItem xs r = from_item xs r b in record { item = i.item; listed = inr i.listed; there = i.there })
      (among_either (f x) (flat_map f xs) r h)

  among_items : (xs : List X) (x : X) (r : Rank) → Among x xs → Among r (f x) → Among r (flat_map f xs)
  among_items [] x r h a = absurd h
  among_items (y ∷ ys) x r (inl e) a = among_left (f y) (flat_map f ys) r (subst (λ (z : X). Among r (f z)) e a)
  among_items (y ∷ ys) x r (inr h) a = among_right (f y) (flat_map f ys) r (among_items ys x r h a)

module _ (plant : Plant) (place : ℕ) where
  abbrev on_from : ℕ → List ℕ → Rank → List Rank
  on_from steps choices r = trajectories_from plant steps place (target_of_rank plant r) r.cost.0 (choices ++ r.choices)

  -- a rank goes on from choices of a cost by full choices that join up
  record GoesFar (steps : ℕ) (modes : List ValId) (cost : ℕ) (choices : List ℕ) (r : Rank) : Type 0 where
    pub moves : List (List ℕ)
    pub many : length moves ≡ steps
    pub join : JoinUp plant modes moves
    pub choices_are : r.choices ≡ choices ++ all_choices moves
    pub cost_is : r.cost.0 ≡ cost + all_cost plant moves
    pub source_is : r.source ≡ place

  goes_far : (steps : ℕ) (modes : List ValId) (cost : ℕ) (choices : List ℕ) (r : Rank) → Among r (trajectories_from plant steps place modes cost choices) → GoesFar steps modes cost choices r
  goes_far zero modes cost choices r (inl e) =
      record {
        moves = [];
        many = refl;
        join = tt;
        choices_are = ap (λ (x : Rank). x.choices) e ∙ sym (append-nil choices);
        cost_is = let same = ap (λ (x : Rank). x.cost.0) e in omega (arith, same);
        source_is = ap (λ (x : Rank). x.source) e;
      }
  goes_far zero modes cost choices r (inr h) = absurd h
  goes_far (suc steps) modes cost choices r h =
      let from : FromItem (on_from steps choices) (ranks_from plant.types place plant.parts modes cost []) r =
      from_item (on_from steps choices) (ranks_from plant.types place plant.parts modes cost []) r h
      in
      let q : Rank = from.item in
      let g : GoesOn plant.types place plant.parts modes cost [] q = goes_on plant.types place plant.parts modes cost [] q from.listed in
      let rest : GoesFar steps (target_of_rank plant q) q.cost.0 (choices ++ q.choices) r = goes_far steps (target_of_rank plant q) q.cost.0 (choices ++ q.choices) r from.there in
      let many = rest.many in
      let own = g.cost_is in
      let total = rest.cost_is in
      record {
        moves = g.more ∷ rest.moves;
        many = omega (arith, many);
        join = (g.moves, subst (λ (cs : List ℕ). JoinUp plant (target_modes plant.types plant.parts cs) rest.moves) g.choices_are rest.join);
        choices_are = rest.choices_are ∙ ap (λ (cs : List ℕ). (choices ++ cs) ++ all_choices rest.moves) g.choices_are ∙ append_assoc choices g.more (all_choices rest.moves);
        cost_is = omega (arith, own, total);
        source_is = rest.source_is;
      }

  leads_far : (steps : ℕ) (modes : List ValId) (cost : ℕ) (choices : List ℕ) (moves : List (List ℕ)) (r : Rank) → length moves ≡ steps → JoinUp plant modes moves
      → r.choices ≡ choices ++ all_choices moves → r.cost.0 ≡ cost + all_cost plant moves → r.source ≡ place → Among r (trajectories_from plant steps place modes cost choices)
  leads_far zero modes cost choices [] r many join are total source =
      inl (same_rank r (record { cost = record { 0 = cost }; source = place; choices = choices }) (omega (arith, total)) source (are ∙ append-nil choices))
  leads_far zero modes cost choices (cs ∷ rest) r many join are total source = absurd (omega (arith, many))
  leads_far (suc steps) modes cost choices [] r many join are total source = absurd (omega (arith, many))
  leads_far (suc steps) modes cost choices (cs ∷ rest) r many join are total source =
      let own : ℕ = cost + moves_cost plant.types plant.parts cs in
      let q : Rank = record { cost = record { 0 = own }; source = place; choices = cs } in
      among_items (on_from steps choices) (ranks_from plant.types place plant.parts modes cost []) q r
      (leads_there plant.types place plant.parts modes cost [] cs q join.0 refl refl refl)
      (leads_far steps (target_of_rank plant q) own (choices ++ cs) rest r (omega (arith, many)) join.1 (are ∙ sym (append_assoc choices cs (all_choices rest))) (omega (arith, total)) source)

-- a rank comes from one of these states, the first of which has this place
pub record FarFrom (plant : Plant) (steps place : ℕ) (ss : List TrackedState) (r : Rank) : Type 0 where
  pub index : ℕ
  pub state : TrackedState
  pub at : slice_get ss index ≡ Some state
  pub source_is : r.source ≡ place + index
  pub moves : List (List ℕ)
  pub many : length moves ≡ steps
  pub join : JoinUp plant state.state.modes moves
  pub choices_are : r.choices ≡ all_choices moves
  pub cost_is : r.cost.0 ≡ state.cost.0 + all_cost plant moves

far_from : (plant : Plant) (steps place : ℕ) (ss : List TrackedState) (r : Rank) → Among r (trajectories_of plant steps place ss) → FarFrom plant steps place ss r
far_from plant steps place [] r h = absurd h
far_from plant steps place (s ∷ ss) r h =
    ⊎_elim here (λ b. behind (far_from plant steps (place + 1) ss r b))
    (among_either (trajectories_from plant steps place s.state.modes s.cost.0 []) (trajectories_of plant steps (place + 1) ss) r h)
  where
    here : Among r (trajectories_from plant steps place s.state.modes s.cost.0 []) → FarFrom plant steps place (s ∷ ss) r
    here a =
        let g : GoesFar plant place steps s.state.modes s.cost.0 [] r = goes_far plant place steps s.state.modes s.cost.0 [] r a in
        let e = g.source_is in
        record { index = 0; state = s; at = refl; source_is = omega (arith, e); moves = g.moves; many = g.many; join = g.join; choices_are = g.choices_are; cost_is = g.cost_is }

    behind : FarFrom plant steps (place + 1) ss r → FarFrom plant steps place (s ∷ ss) r
    behind f =
        let e = f.source_is in
        record { index = suc f.index; state = f.state; at = f.at; source_is = omega (arith, e); moves = f.moves; many = f.many; join = f.join; choices_are = f.choices_are; cost_is = f.cost_is }

far_there : (plant : Plant) (steps place : ℕ) (ss : List TrackedState) (r : Rank) (index : ℕ) (state : TrackedState) (moves : List (List ℕ)) → slice_get ss index ≡ Some state → r.source ≡ place + index
    → length moves ≡ steps → JoinUp plant state.state.modes moves → r.choices ≡ all_choices moves → r.cost.0 ≡ state.cost.0 + all_cost plant moves → Among r (trajectories_of plant steps place ss)
far_there plant steps place [] r index state moves at source many join are cost = absurd (cc at)
far_there plant steps place (s ∷ ss) r zero state moves at source many join are cost =
    let same : state ≡ s = cc at in
    among_left (trajectories_from plant steps place s.state.modes s.cost.0 []) (trajectories_of plant steps (place + 1) ss) r
    (leads_far plant place steps s.state.modes s.cost.0 [] moves r many (subst (λ (x : TrackedState). JoinUp plant x.state.modes moves) same join) are
    (subst (λ (x : TrackedState). r.cost.0 ≡ x.cost.0 + all_cost plant moves) same cost) (omega (arith, source)))
far_there plant steps place (s ∷ ss) r (suc index) state moves at source many join are cost =
    among_right (trajectories_from plant steps place s.state.modes s.cost.0 []) (trajectories_of plant steps (place + 1) ss) r
    (far_there plant steps (place + 1) ss r index state moves at (omega (arith, source)) many join are cost)

module _ (plant : Plant) (steps : ℕ) (tracked : List TrackedState) where
  pub trajectories_rise : rises (trajectories plant steps tracked) ≡ true
  trajectories_rise = rises_ranked (trajectories_of plant steps 0 tracked)

  pub trajectory_listed : (r : Rank) → IsTrajectory plant steps tracked r → Contains (trajectories plant steps tracked) r
  trajectory_listed r h =
      contained (trajectories plant steps tracked) r
      (put_has (trajectories_of plant steps 0 tracked) [] r (far_there plant steps 0 tracked r r.source h.state h.moves h.source (omega arith) h.many h.join h.choices h.cost))

  pub trajectory_is : (r : Rank) → Contains (trajectories plant steps tracked) r → IsTrajectory plant steps tracked r
  trajectory_is r h =
      let f : FarFrom plant steps 0 tracked r =
      far_from plant steps 0 tracked r (⊎_elim (λ none. absurd none) (λ a. a) (put_adds (trajectories_of plant steps 0 tracked) [] r (among (trajectories plant steps tracked) r h)))
      in
      let e = f.source_is in
      let same : f.index ≡ r.source = omega (arith, e) in
      record { state = f.state; source = subst (λ k. slice_get tracked k ≡ Some f.state) same f.at; moves = f.moves; many = f.many; join = f.join; choices = f.choices_are; cost = f.cost_is }

-- over one step they are the candidates
pub one_step_entries : (plant : Plant) (tracked : List TrackedState) → trajectories plant 1 tracked ≡ candidates plant tracked
one_step_entries plant tracked = ap (λ (rs : List Rank). put_in_order [] rs) (of_states 0 tracked)
  where
    from_place : (place : ℕ) (rs : List Rank) → ((r : Rank) → Among r rs → r.source ≡ place)
        → flat_map (λ (r : Rank). record { cost = record { 0 = r.cost.0 }; source = place; choices = [] ++ r.choices } ∷ []) rs ≡ rs
    from_place place [] all = refl
    from_place place (r ∷ rs) all =
        ap₂ (λ (x : Rank) (xs : List Rank). x ∷ xs) (λ i. record { cost = r.cost; source = sym (all r (inl refl)) i; choices = r.choices }) (from_place place rs (λ q a. all q (inr a)))

    of_states : (place : ℕ) (ss : List TrackedState) → trajectories_of plant 1 place ss ≡ ranks_of plant place ss
    of_states place [] = refl
    of_states place (s ∷ ss) =
        ap₂ (λ (x y : List Rank). x ++ y)
        (from_place place (ranks_from plant.types place plant.parts s.state.modes s.cost.0 [])
        (λ r a. (goes_on plant.types place plant.parts s.state.modes s.cost.0 [] r a).source_is)) (of_states (place + 1) ss)
