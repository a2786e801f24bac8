-- Exactly the candidates are listed.
use Rattle.std.proofs.Common.{◌≡◌, ℕ, zero, suc, ◌+◌, Bool, true, false, nat_eq, List, [], ◌∷◌, ◌++◌, cond, slice_get, Some, Contains, ◌⊎◌, inl, inr, ⊎_elim, refl, sym, subst, ◌∙◌, ap, arith, append_assoc}
use Rattle.std.proofs.lemmas.Bool.{and_parts, and_from}
use Rattle.std.proofs.lemmas.List.{append-nil}
use Rattle.std.specs.declared.cmp.Ordering.{Ordering}
use Rattle.std.specs.declared.cmp.Ordering.TheVariants.{Less, Equal, Greater}
use Rattle.std.specs.BTreeSet.{insert_key}
use Rattle.std.specs.Ordering.{match_ordering}
use Rattle.std.proofs.lemmas.Map.Lookups.{exact_bytes}
use Rattle.lv_base.specs.declared.ids.ValId.{ValId}
use Rattle.lv_base.specs.declared.rank.Rank.{Rank}
use Rattle.lv_base.specs.Rank.{rank_key, rank_cmp}
use Rattle.lv_model.specs.declared.plant.Plant.{Plant}
use Rattle.lv_model.specs.declared.plant.ComponentType.{ComponentType}
use Rattle.lv_model.specs.declared.plant.Part.{Part}
use Rattle.lv_model.specs.declared.plant.Move.{Move}
use Rattle.lv_model.specs.declared.state.TrackedState.{TrackedState}
use Rattle.lv_boxes.specs.Ranked.{put_in_order}
use Rattle.lv_meaning.specs.Candidates.{numbers_from, type_moves, move_cost, ranks_from, ranks_of, candidates}
use Rattle.lv_meaning.specs.CandidateLaws.{goes_from, are_moves, moves_cost, IsCandidate}
use Rattle.lv_meaning.proofs.Among.{Among, among, contained, among_left, among_right, among_either, FromNumber, from_number, among_flat}

-- ranks with equal parts are equal
pub same_rank : (a b : Rank) → a.cost.0 ≡ b.cost.0 → a.source ≡ b.source → a.choices ≡ b.choices → a ≡ b
same_rank a b cost source choices = λ i. record { cost = record { 0 = cost i }; source = source i; choices = choices i }

equal_ranks : (a b : Rank) → rank_cmp a b ≡ Equal → a ≡ b
equal_ranks a b tie =
    let e : rank_key a ≡ rank_key b = exact_bytes (rank_key a) (rank_key b) tie in
    same_rank a b (cc e) (cc e) (cc e)

-- putting a rank in adds it and nothing else
inserted_adds : (r x : Rank) (rs : List Rank) → Among x (insert_key rank_cmp rs r) → Among x rs ⊎ (x ≡ r)
inserted_adds r x [] (inl e) = inr e
inserted_adds r x [] (inr h) = absurd h
inserted_adds r x (y ∷ ys) h = by (rank_cmp r y) (inserted_adds r x ys) h
  where
    by : (o : Ordering) → (Among x (insert_key rank_cmp ys r) → Among x ys ⊎ (x ≡ r))
        → Among x (match_ordering o (r ∷ y ∷ ys) (y ∷ ys) (y ∷ insert_key rank_cmp ys r)) → Among x (y ∷ ys) ⊎ (x ≡ r)
    by Less rest (inl e) = inr e
    by Less rest (inr a) = inl a
    by Equal rest a = inl a
    by Greater rest (inl e) = inl (inl e)
    by Greater rest (inr a) = ⊎_elim (λ b. inl (inr b)) (λ e. inr e) (rest a)

inserted_keeps : (r x : Rank) (rs : List Rank) → Among x rs → Among x (insert_key rank_cmp rs r)
inserted_keeps r x [] h = absurd h
inserted_keeps r x (y ∷ ys) h = by (rank_cmp r y) (inserted_keeps r x ys) h
  where
    by : (o : Ordering) → (Among x ys → Among x (insert_key rank_cmp ys r)) → Among x (y ∷ ys)
        → Among x (match_ordering o (r ∷ y ∷ ys) (y ∷ ys) (y ∷ insert_key rank_cmp ys r))
    by Less rest a = inr a
    by Equal rest a = a
    by Greater rest (inl e) = inl e
    by Greater rest (inr a) = inr (rest a)

inserted_has : (r : Rank) (rs : List Rank) → Among r (insert_key rank_cmp rs r)
inserted_has r [] = inl refl
inserted_has r (y ∷ ys) = by (rank_cmp r y) refl (inserted_has r ys)
  where
    by : (o : Ordering) → rank_cmp r y ≡ o → Among r (insert_key rank_cmp ys r)
        → Among r (match_ordering o (r ∷ y ∷ ys) (y ∷ ys) (y ∷ insert_key rank_cmp ys r))
    by Less e rest = inl refl
    by Equal e rest = inl (equal_ranks r y e)
    by Greater e rest = inr rest

pub put_keeps : (rs sorted : List Rank) (x : Rank) → Among x sorted → Among x (put_in_order sorted rs)
put_keeps [] sorted x h = h
put_keeps (r ∷ rs) sorted x h = put_keeps rs (insert_key rank_cmp sorted r) x (inserted_keeps r x sorted h)

pub put_has : (rs sorted : List Rank) (x : Rank) → Among x rs → Among x (put_in_order sorted rs)
put_has [] sorted x h = absurd h
put_has (r ∷ rs) sorted x (inl e) =
    put_keeps rs (insert_key rank_cmp sorted r) x (subst (λ y. Among y (insert_key rank_cmp sorted r)) (sym e) (inserted_has r sorted))
put_has (r ∷ rs) sorted x (inr h) = put_has rs (insert_key rank_cmp sorted r) x h

pub put_adds : (rs sorted : List Rank) (x : Rank) → Among x (put_in_order sorted rs) → Among x sorted ⊎ Among x rs
put_adds [] sorted x h = inl h
put_adds (r ∷ rs) sorted x h =
    ⊎_elim (λ a. ⊎_elim (λ b. inl b) (λ e. inr (inl e)) (inserted_adds r x sorted a)) (λ b. inr (inr b))
    (put_adds rs (insert_key rank_cmp sorted r) x h)

-- the numbers of the moves from a mode are those of moves that go from it
pub record HasNumber (k mode : ℕ) (ms : List Move) (n : ℕ) : Type 0 where
  pub place : ℕ
  pub number : n ≡ k + place
  pub goes : goes_from ms mode place ≡ true

later : (k mode : ℕ) (m : Move) (ms : List Move) (n : ℕ) → HasNumber (k + 1) mode ms n → HasNumber k mode (m ∷ ms) n
later k mode m ms n h = let e = h.number in record { place = suc h.place; number = omega arith; goes = h.goes }

number_goes : (k mode : ℕ) (ms : List Move) (n : ℕ) → Among n (numbers_from k mode ms) → HasNumber k mode ms n
number_goes k mode [] n h = absurd h
number_goes k mode (m ∷ ms) n h = by (nat_eq m.source.0 mode) refl (number_goes (k + 1) mode ms n) h
  where
    by : (b : Bool) → nat_eq m.source.0 mode ≡ b → (Among n (numbers_from (k + 1) mode ms) → HasNumber (k + 1) mode ms n)
        → Among n (cond b (k ∷ numbers_from (k + 1) mode ms) (numbers_from (k + 1) mode ms)) → HasNumber k mode (m ∷ ms) n
    by true e rest (inl is) = record { place = 0; number = is ∙ omega arith; goes = e }
    by true e rest (inr a) = later k mode m ms n (rest a)
    by false e rest a = later k mode m ms n (rest a)

goes_number : (k mode : ℕ) (ms : List Move) (place n : ℕ) → n ≡ k + place → goes_from ms mode place ≡ true → Among n (numbers_from k mode ms)
goes_number k mode [] place n is h = absurd (cc h)
goes_number k mode (m ∷ ms) zero n is h =
    subst (λ b. Among n (cond b (k ∷ numbers_from (k + 1) mode ms) (numbers_from (k + 1) mode ms))) (sym h) (inl (is ∙ omega arith))
goes_number k mode (m ∷ ms) (suc place) n is h = by (nat_eq m.source.0 mode) (goes_number (k + 1) mode ms place n (omega arith) h)
  where
    by : (b : Bool) → Among n (numbers_from (k + 1) mode ms) → Among n (cond b (k ∷ numbers_from (k + 1) mode ms) (numbers_from (k + 1) mode ms))
    by true a = inr a
    by false a = a

-- a rank goes on from choices of a cost with one move for each part that is left
pub record GoesOn (types : List ComponentType) (place : ℕ) (ps : List Part) (vs : List ValId) (cost : ℕ) (choices : List ℕ) (r : Rank) : Type 0 where
  pub more : List ℕ
  pub moves : are_moves types ps vs more ≡ true
  pub cost_is : r.cost.0 ≡ cost + moves_cost types ps more
  pub source_is : r.source ≡ place
  pub choices_are : r.choices ≡ choices ++ more

module _ (types : List ComponentType) (place : ℕ) where
  pub goes_on : (ps : List Part) (vs : List ValId) (cost : ℕ) (choices : List ℕ) (r : Rank) → Among r (ranks_from types place ps vs cost choices) → GoesOn types place ps vs cost choices r
  goes_on [] vs cost choices r (inl e) =
      record {
        more = [];
        moves = refl;
        cost_is = ap (λ (x : Rank). x.cost.0) e ∙ omega arith;
        source_is = ap (λ (x : Rank). x.source) e;
        choices_are = ap (λ (x : Rank). x.choices) e ∙ sym (append-nil choices);
      }
  goes_on [] vs cost choices r (inr h) = absurd h
  goes_on (p ∷ ps) [] cost choices r h = absurd h
  goes_on (p ∷ ps) (v ∷ vs) cost choices r h =
      let lead : ℕ → List Rank = λ n. ranks_from types place ps vs (cost + move_cost (type_moves types p) n) (choices ++ (n ∷ [])) in
      let from : FromNumber lead (numbers_from 0 v.0 (type_moves types p)) r = from_number lead (numbers_from 0 v.0 (type_moves types p)) r h in
      let n : ℕ = from.number in
      let taken : HasNumber 0 v.0 (type_moves types p) n = number_goes 0 v.0 (type_moves types p) n from.listed in
      let number = taken.number in
      let same : taken.place ≡ n = omega arith in
      let rest : GoesOn types place ps vs (cost + move_cost (type_moves types p) n) (choices ++ (n ∷ [])) r = goes_on ps vs (cost + move_cost (type_moves types p) n) (choices ++ (n ∷ [])) r from.item in
      let total = rest.cost_is in
      record {
        more = n ∷ rest.more;
        moves =
            and_from (goes_from (type_moves types p) v.0 n) (are_moves types ps vs rest.more)
            (subst (λ k. goes_from (type_moves types p) v.0 k ≡ true) same taken.goes) rest.moves;
        cost_is = omega arith;
        source_is = rest.source_is;
        choices_are = rest.choices_are ∙ append_assoc choices (n ∷ []) rest.more;
      }

  pub leads_there : (ps : List Part) (vs : List ValId) (cost : ℕ) (choices more : List ℕ) (r : Rank) → are_moves types ps vs more ≡ true
      → r.cost.0 ≡ cost + moves_cost types ps more → r.source ≡ place → r.choices ≡ choices ++ more → Among r (ranks_from types place ps vs cost choices)
  leads_there [] vs cost choices [] r moves total source are =
      inl (same_rank r (record { cost = record { 0 = cost }; source = place; choices = choices }) (total ∙ omega arith) source (are ∙ append-nil choices))
  leads_there [] vs cost choices (c ∷ cs) r moves total source are = absurd (cc moves)
  leads_there (p ∷ ps) [] cost choices more r moves total source are = absurd (cc moves)
  leads_there (p ∷ ps) (v ∷ vs) cost choices [] r moves total source are = absurd (cc moves)
  leads_there (p ∷ ps) (v ∷ vs) cost choices (c ∷ cs) r moves total source are =
      among_flat (λ n. ranks_from types place ps vs (cost + move_cost (type_moves types p) n) (choices ++ (n ∷ []))) (numbers_from 0 v.0 (type_moves types p)) c r
      (goes_number 0 v.0 (type_moves types p) c c (omega arith) ((and_parts (goes_from (type_moves types p) v.0 c) (are_moves types ps vs cs) moves).0))
      (leads_there ps vs (cost + move_cost (type_moves types p) c) (choices ++ (c ∷ [])) cs r ((and_parts (goes_from (type_moves types p) v.0 c) (are_moves types ps vs cs) moves).1)
      (omega arith) source (are ∙ sym (append_assoc choices (c ∷ []) cs)))

-- a rank comes from one of these states, the first of which has this place
pub record FromState (plant : Plant) (place : ℕ) (ss : List TrackedState) (r : Rank) : Type 0 where
  pub index : ℕ
  pub state : TrackedState
  pub at : slice_get ss index ≡ Some state
  pub source_is : r.source ≡ place + index
  pub moves : are_moves plant.types plant.parts state.state.modes r.choices ≡ true
  pub cost_is : r.cost.0 ≡ state.cost.0 + moves_cost plant.types plant.parts r.choices

from_state : (plant : Plant) (place : ℕ) (ss : List TrackedState) (r : Rank) → Among r (ranks_of plant place ss) → FromState plant place ss r
from_state plant place [] r h = absurd h
from_state plant place (s ∷ ss) r h =
    ⊎_elim here (λ b. behind (from_state plant (place + 1) ss r b)) (among_either (ranks_from plant.types place plant.parts s.state.modes s.cost.0 []) (ranks_of plant (place + 1) ss) r h)
  where
    here : Among r (ranks_from plant.types place plant.parts s.state.modes s.cost.0 []) → FromState plant place (s ∷ ss) r
    here a =
        let g : GoesOn plant.types place plant.parts s.state.modes s.cost.0 [] r = goes_on plant.types place plant.parts s.state.modes s.cost.0 [] r a in
        let are : g.more ≡ r.choices = sym g.choices_are in
        record {
          index = 0;
          state = s;
          at = refl;
          source_is = g.source_is ∙ omega arith;
          moves = subst (λ cs. are_moves plant.types plant.parts s.state.modes cs ≡ true) are g.moves;
          cost_is = subst (λ cs. r.cost.0 ≡ s.cost.0 + moves_cost plant.types plant.parts cs) are g.cost_is;
        }

    behind : FromState plant (place + 1) ss r → FromState plant place (s ∷ ss) r
    behind f = let e = f.source_is in record { index = suc f.index; state = f.state; at = f.at; source_is = omega arith; moves = f.moves; cost_is = f.cost_is }

of_state : (plant : Plant) (place : ℕ) (ss : List TrackedState) (r : Rank) (index : ℕ) (state : TrackedState) → slice_get ss index ≡ Some state → r.source ≡ place + index
    → are_moves plant.types plant.parts state.state.modes r.choices ≡ true → r.cost.0 ≡ state.cost.0 + moves_cost plant.types plant.parts r.choices → Among r (ranks_of plant place ss)
of_state plant place [] r index state at source moves cost = absurd (cc at)
of_state plant place (s ∷ ss) r zero state at source moves cost =
    let same : state ≡ s = cc at in
    among_left (ranks_from plant.types place plant.parts s.state.modes s.cost.0 []) (ranks_of plant (place + 1) ss) r
    (leads_there plant.types place plant.parts s.state.modes s.cost.0 [] r.choices r (subst (λ (x : TrackedState). are_moves plant.types plant.parts x.state.modes r.choices ≡ true) same moves)
    (subst (λ (x : TrackedState). r.cost.0 ≡ x.cost.0 + moves_cost plant.types plant.parts r.choices) same cost) (source ∙ omega arith) refl)
of_state plant place (s ∷ ss) r (suc index) state at source moves cost =
    among_right (ranks_from plant.types place plant.parts s.state.modes s.cost.0 []) (ranks_of plant (place + 1) ss) r
    (of_state plant (place + 1) ss r index state at (omega arith) moves cost)

pub is_listed : (plant : Plant) (tracked : List TrackedState) (r : Rank) → IsCandidate plant tracked r → Contains (candidates plant tracked) r
is_listed plant tracked r h =
    contained (candidates plant tracked) r
    (put_has (ranks_of plant 0 tracked) [] r (of_state plant 0 tracked r r.source h.state h.source (omega arith) h.moves h.cost))

pub is_candidate : (plant : Plant) (tracked : List TrackedState) (r : Rank) → Contains (candidates plant tracked) r → IsCandidate plant tracked r
is_candidate plant tracked r h =
    let f : FromState plant 0 tracked r = from_state plant 0 tracked r (⊎_elim (λ none. absurd none) (λ a. a) (put_adds (ranks_of plant 0 tracked) [] r (among (candidates plant tracked) r h))) in
    let e = f.source_is in
    let same : f.index ≡ r.source = omega arith in
    record { state = f.state; source = subst (λ k. slice_get tracked k ≡ Some f.state) same f.at; moves = f.moves; cost = f.cost_is }
