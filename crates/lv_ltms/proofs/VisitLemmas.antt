-- Going along the clauses that watch a literal that is false: those gone over have their other literal true, or watch
-- another one.
use Rattle.std.proofs.Common.{◌≡◌, ◌≢◌, ◌⊎◌, ℕ, ◌+◌, ◌<◌, ◌≤◌, Bool, true, false, List, [], ◌∷◌, length, Option, Some, None, IfSome, refl, sym, ap, subst, ◌∙◌, arith, inl, inr, Contains}
use Rattle.std.proofs.lemmas.Bool.{cases_eq}
use Rattle.lv_base.specs.declared.ids.Lit.{Lit}
use Rattle.lv_base.specs.declared.ids.ClauseId.{ClauseId}
use Rattle.lv_clauses.specs.Literals.{neg}
use Rattle.lv_clauses.specs.ClauseMap.{Slots, clause_at}
use Rattle.lv_clauses.specs.Marks.{Marks, is_marked, is_free}
use Rattle.lv_clauses.proofs.LiteralLemmas.{neg_neg, lit_cases, Contains-head}
use Rattle.lv_ltms.specs.declared.propagation.Meeting.{Meeting}
use Rattle.lv_ltms.specs.declared.propagation.Meeting.TheVariants.{Holds, Moves, Fails}
use Rattle.lv_ltms.specs.Labelled.{Labelled, AreLabels, Grows, GoesOn}
use Rattle.lv_ltms.specs.Watching.{Rows, head_of, lit_at, next_at, with_head, with_watch, times_in, IsRow, has_lit, is_fallen, IsGuarded, AreGuarded, AreSettled, IsWatching}
use Rattle.lv_ltms.specs.Standing.{IsNetwork, IsFalsified, AreTrue, Meets}
use Rattle.lv_ltms.specs.Visiting.{Visits}
use Rattle.lv_ltms.proofs.CountLemmas.{times_other}
use Rattle.lv_ltms.proofs.LabelLemmas.{Grows-then, Grows-self, has_not_neg, has_not_free, not_free_cases, neg_not_free}
use Rattle.lv_ltms.proofs.FindLemmas.{some_is}
use Rattle.lv_ltms.proofs.RowLemmas.{Begins, row_begins, head_lit, row_ends, put_lit_same, put_lit_other, put_size}
use Rattle.lv_ltms.proofs.TraverseLemmas.{IsTraversing, Watches, count_yes, traverse_start, traverse_put, traverse_end, traverse_fits, at_hand}

abbrev pub no_skip : ℕ → Bool
no_skip i = false

-- labels that grow keep what is marked
pub kept_free : (old new : Labelled) → Grows old new → (l : Lit) → is_free old.marks l ≡ false → is_free new.marks l ≡ false
kept_free old new grows l e = elim (not_free_cases old.marks l e) [
  | inl here ↦ has_not_free new.marks l (grows.kept l here)
  | inr turned ↦ neg_not_free new.marks l (grows.kept (neg l) turned)
]

pub goes_on-then : (clauses : Slots) (old mid new : Labelled) → GoesOn clauses old mid → GoesOn clauses mid new → GoesOn clauses old new
goes_on-then clauses old mid new a b = record { grows = Grows-then old mid new a.grows b.grows; derivation = λ assumed d. b.derivation assumed (a.derivation assumed d) }

pub labels_grown : (bools : ℕ) (old new : Labelled) → AreLabels bools old → Grows old new → AreLabels bools new
labels_grown bools old new labels grows = record { marks = grows.marks ∙ labels.marks; supports = grows.supports ∙ labels.supports; agrees = grows.agrees }

-- the same literals are watched under more marks, and less is taken for true
pub guarded_more : (slots : Slots) (near far new_near new_far : ℕ → Lit) (truth less : Lit → Bool) (old new : Marks) (fallen : List Lit) → ((i : ℕ) → new_near i ≡ near i) → ((i : ℕ) → new_far i ≡ far i)
    → ((l : Lit) → less l ≡ true → truth l ≡ true) → ((l : Lit) → is_marked old l ≡ true → is_marked new l ≡ true) → AreGuarded slots near far truth old fallen → AreGuarded slots new_near new_far less new fallen
guarded_more slots near far new_near new_far truth less old new fallen same_near same_far fewer kept is =
    record {
      guarded =
          λ id c m at h.
          let was : IsGuarded c (near id) (far id) truth old fallen = is.guarded id c m at h in
          record {
            member = subst (Contains c) (sym (same_near id)) was.member;
            lone = λ e k g. was.lone (sym (same_near id) ∙ e ∙ same_far id) k g ∙ sym (same_near id);
            held =
                λ e f.
                ap (is_marked new) (same_far id)
                ∙ kept (far id) (was.held (fewer (neg (near id)) (ap (λ (l : Lit). less (neg l)) (sym (same_near id)) ∙ e)) (ap (has_lit fallen) (sym (same_far id)) ∙ f));
          };
    }

pub settled_more : (slots : Slots) (near far new_near new_far : ℕ → Lit) (old new : Marks) (fallen : List Lit) → ((i : ℕ) → new_near i ≡ near i) → ((i : ℕ) → new_far i ≡ far i)
    → ((l : Lit) → is_free old l ≡ false → is_free new l ≡ false) → AreSettled slots near far old fallen → AreSettled slots new_near new_far new fallen
settled_more slots near far new_near new_far old new fallen same_near same_far kept is =
    record {
      settled =
          λ id c m at h e f.
          ap (is_free new) (same_near id)
          ∙ kept (near id) (is.settled id c m at h (sym (same_near id) ∙ e ∙ same_far id) (ap (is_fallen fallen) (sym (same_near id)) ∙ f));
    }

pub watching_more : (slots : Slots) (near far new_near new_far : ℕ → Lit) (truth other : Lit → Bool) (old new : Labelled) (fallen : List Lit) → ((i : ℕ) → new_near i ≡ near i) → ((i : ℕ) → new_far i ≡ far i) → Grows old new
    → IsWatching slots near far truth other old.marks fallen → IsWatching slots new_near new_far truth other new.marks fallen
watching_more slots near far new_near new_far truth other old new fallen same_near same_far grows is =
    record {
      near_side = guarded_more slots near far new_near new_far truth truth old.marks new.marks fallen same_near same_far (λ l e. e) grows.kept is.near_side;
      far_side = guarded_more slots far near new_far new_near other other old.marks new.marks fallen same_far same_near (λ l e. e) grows.kept is.far_side;
      settled = settled_more slots near far new_near new_far old.marks new.marks fallen same_near same_far (kept_free old new grows) is.settled;
    }

-- both sides change places
pub watching_swap : (slots : Slots) (near far : ℕ → Lit) (truth other : Lit → Bool) (marks : Marks) (fallen : List Lit) → IsWatching slots near far truth other marks fallen → IsWatching slots far near other truth marks fallen
watching_swap slots near far truth other marks fallen is =
    record {
      near_side = is.far_side;
      far_side = is.near_side;
      settled = record { settled = λ id c m at h e f. ap (is_free marks) e ∙ is.settled.settled id c m at h (sym e) (ap (is_fallen fallen) (sym e) ∙ f) };
    }

-- a clause watches another literal that isn't false
module _ (slots : Slots) (near far new_near : ℕ → Lit) (truth other : Lit → Bool) (marks : Marks) (a k : Lit) (id : ℕ) (c : List Lit) (at : clause_at slots id ≡ Some c) (here : near id ≡ a) (now : new_near id ≡ k)
    (others : (i : ℕ) → i ≢ id → new_near i ≡ near i) (turned : is_marked marks (neg a) ≡ true) (member : Contains c k) (differs : k ≢ far id) (open_still : is_marked marks (neg k) ≡ false) (true_near : AreTrue truth marks) where
  watching_moved : IsWatching slots near far truth other marks [] → IsWatching slots new_near far truth other marks []
  watching_moved is =
      record {
        near_side = record { guarded = λ i d m at_i h. near_at i d m at_i h (cases_eq i id) };
        far_side = record { guarded = λ i d m at_i h. far_at i d m at_i h (cases_eq i id) };
        settled = record { settled = λ i d m at_i h e f. settled_at i d m at_i h e f (cases_eq i id) };
      }
    where
      clause_is : (i : ℕ) (d : List Lit) → i ≡ id → clause_at slots i ≡ Some d → c ≡ d
      clause_is i d same at_i = some_is (sym at ∙ ap (clause_at slots) (sym same) ∙ at_i)

      new_is : (i : ℕ) → i ≡ id → new_near i ≡ k
      new_is i same = ap new_near same ∙ now

      near_at : (i : ℕ) (d : List Lit) (m : Lit) → clause_at slots i ≡ Some d → Contains d m → (i ≡ id) ⊎ (i ≢ id) → IsGuarded d (new_near i) (far i) truth marks []
      near_at i d m at_i h (inl same) =
          record {
            member = subst (Contains d) (sym (new_is i same)) (subst (λ (x : List Lit). Contains x k) (clause_is i d same at_i) member);
            lone = λ e. absurd (differs (sym (new_is i same) ∙ e ∙ ap far same));
            held = λ e f. absurd (cc (true_near.marked (neg (new_near i)) e, ap (λ (l : Lit). is_marked marks (neg l)) (new_is i same), open_still));
          }
      near_at i d m at_i h (inr apart) =
          subst (λ (w : Lit). IsGuarded d w (far i) truth marks []) (sym (others i apart)) (is.near_side.guarded i d m at_i h)

      far_at : (i : ℕ) (d : List Lit) (m : Lit) → clause_at slots i ≡ Some d → Contains d m → (i ≡ id) ⊎ (i ≢ id) → IsGuarded d (far i) (new_near i) other marks []
      far_at i d m at_i h (inl same) =
          let was : IsGuarded d (far i) (near i) other marks [] = is.far_side.guarded i d m at_i h in
          record {
            member = was.member;
            lone = λ e. absurd (differs (sym (new_is i same) ∙ sym e ∙ ap far same));
            held = λ e f. absurd (cc (was.held e refl, ap (is_marked marks) (ap near same ∙ here), has_not_neg marks (neg a) turned, ap (is_marked marks) (neg_neg a)));
          }
      far_at i d m at_i h (inr apart) = subst (λ (o : Lit). IsGuarded d (far i) o other marks []) (sym (others i apart)) (is.far_side.guarded i d m at_i h)

      settled_at : (i : ℕ) (d : List Lit) (m : Lit) → clause_at slots i ≡ Some d → Contains d m → new_near i ≡ far i → is_fallen [] (new_near i) ≡ false → (i ≡ id) ⊎ (i ≢ id) → is_free marks (new_near i) ≡ false
      settled_at i d m at_i h e f (inl same) = absurd (differs (sym (new_is i same) ∙ e ∙ ap far same))
      settled_at i d m at_i h e f (inr apart) = ap (is_free marks) (others i apart) ∙ is.settled.settled i d m at_i h (sym (others i apart) ∙ e) refl

-- the loop of a visit
pub record IsVisiting (slots : Slots) (bools : ℕ) (old far : Rows) (before : Labelled) (a : Lit) (size gone : ℕ) (rows : Rows) (labels : Labelled) (start found : Option ClauseId) : Type 0 where
  pub waiting : List ClauseId
  pub traversing : IsTraversing rows slots bools a no_skip start waiting
  pub goes_on : GoesOn slots before labels
  pub kept : (truth other : Lit → Bool) → AreTrue truth before.marks → AreTrue other before.marks → IsWatching slots (lit_at old) (lit_at far) truth other before.marks [] → IsWatching slots (lit_at rows) (lit_at far) truth other labels.marks []
  pub turned : found ≡ None → (id : ℕ) (c : List Lit) (m : Lit) → clause_at slots id ≡ Some c → Contains c m → times_in waiting id ≡ 0 → lit_at rows id ≡ a → is_marked labels.marks (lit_at far id) ≡ true
  pub falsified : IfSome found (λ id. IsFalsified slots labels.marks id.0)
  pub fits : gone + length waiting ≤ size
  pub room : length rows.watches ≡ size

pub visiting_start : (slots : Slots) (bools : ℕ) (old far : Rows) (before : Labelled) (a : Lit) → (network : IsNetwork bools slots old far before) → a.var.0 < bools
    → IsVisiting slots bools old far before a (length (with_head old a None).watches) 0 (with_head old a None) before (head_of old a) None
visiting_start slots bools old far before a network range =
    let traversing = traverse_start old slots slots bools a no_skip range (λ i e. refl) (λ i e. absurd (cc e)) (λ i e. e) network.near_rows in
    record {
      waiting = network.near_rows.list a;
      traversing = traversing;
      goes_on = record { grows = Grows-self before network.are_labels.agrees; derivation = λ assumed d. d };
      kept =
          λ truth other t o is.
          watching_more slots (lit_at old) (lit_at far) (lit_at (with_head old a None)) (lit_at far) truth other before before [] (λ i. head_lit old a None i) (λ i. refl) (Grows-self before network.are_labels.agrees) is;
      turned =
          λ none id c m at h waits here.
          absurd (omega (arith, waits, network.near_rows.exact a id, count_yes (clause_at slots id) c m (lit_at old id) a at h (sym (head_lit old a None id) ∙ here)));
      falsified = tt;
      fits = omega (arith, traverse_fits (with_head old a None) slots bools a no_skip (head_of old a) (network.near_rows.list a) traversing);
      room = refl;
    }

-- one clause more was looked at
module _ (slots : Slots) (bools : ℕ) (old far : Rows) (before : Labelled) (a : Lit) (size gone : ℕ) (rows : Rows) (labels : Labelled) (start found : Option ClauseId) (id : ClauseId)
    (is : IsVisiting slots bools old far before a size gone rows labels start found) (e : start ≡ Some id) (turned_false : is_marked before.marks (neg a) ≡ true) (range : a.var.0 < bools) where
  pub begins : Begins (next_at rows) id is.waiting
  begins = row_begins (next_at rows) start id is.waiting e is.traversing.pending

  pub hand : IsTraversing rows slots bools a no_skip (Some id) (id ∷ begins.rest)
  hand =
      subst (λ (ws : List ClauseId). IsTraversing rows slots bools a no_skip (Some id) ws) begins.is
      (subst (λ (s : Option ClauseId). IsTraversing rows slots bools a no_skip s is.waiting) e is.traversing)

  pub watches : Watches (clause_at slots id.0) (lit_at rows id.0) a
  watches = at_hand rows slots bools a no_skip id begins.rest hand refl

  pub visit_room : id.0 < length rows.watches
  visit_room = hand.within id (Contains-head id begins.rest)

  still_false : (l : Lit) → is_marked before.marks l ≡ true → is_marked labels.marks l ≡ true
  still_false l h = is.goes_on.grows.kept l h

  module _ (after : Labelled) (met : Meeting) (meets : Meets watches.clause (lit_at far id.0) labels.marks after.marks met) (goes : GoesOn slots labels after) where
    waits_still : (j : ℕ) → j ≢ id.0 → times_in begins.rest j ≡ 0 → times_in is.waiting j ≡ 0
    waits_still j differs none = ap (λ (ws : List ClauseId). times_in ws j) begins.is ∙ times_other id begins.rest j differs ∙ none

    still : (f : Option ClauseId) → IfSome f (λ i. IsFalsified slots labels.marks i.0) → IfSome f (λ i. IsFalsified slots after.marks i.0)
    still None h = tt
    still (Some i) h = record { clause = h.clause; present = h.present; all_false = λ m g. goes.grows.kept (neg m) (h.all_false m g) }

    fits_on : gone + 1 + length begins.rest ≤ size
    fits_on = omega (arith, is.fits, ap (λ (ws : List ClauseId). length ws) begins.is)

    room_on : (k : Lit) → length (with_watch rows id k).watches ≡ size
    room_on k = put_size rows id k visit_room ∙ is.room

    -- it goes on watching the literal
    same_lits : (j : ℕ) → lit_at (with_watch rows id a) j ≡ lit_at rows j
    same_lits j = elim (cases_eq j id.0) [
      | inl same ↦ ap (lit_at (with_watch rows id a)) same ∙ put_lit_same rows id a visit_room ∙ sym watches.is ∙ sym (ap (lit_at rows) same)
      | inr differs ↦ put_lit_other rows id a visit_room j differs
    ]

    kept_same : (truth other : Lit → Bool) → AreTrue truth before.marks → AreTrue other before.marks → IsWatching slots (lit_at old) (lit_at far) truth other before.marks []
        → IsWatching slots (lit_at (with_watch rows id a)) (lit_at far) truth other after.marks []
    kept_same truth other t o w =
        watching_more slots (lit_at rows) (lit_at far) (lit_at (with_watch rows id a)) (lit_at far) truth other labels after [] same_lits (λ i. refl) goes.grows (is.kept truth other t o w)

    pub visited_holds : met ≡ Holds → IsVisiting slots bools old far before a size (gone + 1) (with_watch rows id a) after (next_at rows id.0) found
    visited_holds holds =
        record {
          waiting = begins.rest;
          traversing = traverse_put rows slots bools a no_skip id begins.rest hand refl a range;
          goes_on = goes_on-then slots before labels after is.goes_on goes;
          kept = kept_same;
          turned = λ none j c m at h waits here. turned_at none j c m at h waits here (cases_eq j id.0);
          falsified = still found is.falsified;
          fits = fits_on;
          room = room_on a;
        }
      where
        true_now : is_marked after.marks (lit_at far id.0) ≡ true
        true_now = subst (Meets watches.clause (lit_at far id.0) labels.marks after.marks) holds meets

        turned_at : found ≡ None → (j : ℕ) (c : List Lit) (m : Lit) → clause_at slots j ≡ Some c → Contains c m → times_in begins.rest j ≡ 0 → lit_at (with_watch rows id a) j ≡ a → (j ≡ id.0) ⊎ (j ≢ id.0)
            → is_marked after.marks (lit_at far j) ≡ true
        turned_at none j c m at h waits here (inl same) = ap (λ (i : ℕ). is_marked after.marks (lit_at far i)) same ∙ true_now
        turned_at none j c m at h waits here (inr differs) =
            goes.grows.kept (lit_at far j) (is.turned none j c m at h (waits_still j differs waits) (sym (same_lits j) ∙ here))

    pub visited_fails : met ≡ Fails → IsVisiting slots bools old far before a size (gone + 1) (with_watch rows id a) after (next_at rows id.0) (Some id)
    visited_fails fails =
        record {
          waiting = begins.rest;
          traversing = traverse_put rows slots bools a no_skip id begins.rest hand refl a range;
          goes_on = goes_on-then slots before labels after is.goes_on goes;
          kept = kept_same;
          turned = λ none j c m at h waits here. absurd (cc none);
          falsified = record { clause = watches.clause; present = watches.present; all_false = λ m h. false_at m h (lit_cases m (lit_at far id.0)) };
          fits = fits_on;
          room = room_on a;
        }
      where
        told : Meets watches.clause (lit_at far id.0) labels.marks after.marks Fails
        told = subst (Meets watches.clause (lit_at far id.0) labels.marks after.marks) fails meets

        false_at : (m : Lit) → Contains watches.clause m → (m ≡ lit_at far id.0) ⊎ (m ≢ lit_at far id.0) → is_marked after.marks (neg m) ≡ true
        false_at m h (inl same) = goes.grows.kept (neg m) (ap (λ (l : Lit). is_marked labels.marks (neg l)) same ∙ told.0)
        false_at m h (inr differs) = goes.grows.kept (neg m) (told.1 m h differs)

    pub visited_moves : (k : Lit) → met ≡ Moves k → k.var.0 < bools → IsVisiting slots bools old far before a size (gone + 1) (with_watch rows id k) after (next_at rows id.0) found
    visited_moves k moves within =
        record {
          waiting = begins.rest;
          traversing = traverse_put rows slots bools a no_skip id begins.rest hand refl k within;
          goes_on = goes_on-then slots before labels after is.goes_on goes;
          kept =
              λ truth other t o w.
              watching_moved slots (lit_at rows) (lit_at far) (lit_at (with_watch rows id k)) truth other after.marks a k id.0 watches.clause watches.present watches.is (put_lit_same rows id k visit_room)
              (λ i differs. put_lit_other rows id k visit_room i differs) (goes.grows.kept (neg a) (still_false (neg a) turned_false)) told.0 told.1 open_now
              (record { marked = λ l h. goes.grows.kept l (still_false l (t.marked l h)) })
              (watching_more slots (lit_at rows) (lit_at far) (lit_at rows) (lit_at far) truth other labels after [] (λ i. refl) (λ i. refl) goes.grows (is.kept truth other t o w));
          turned = λ none j c m at h waits here. turned_at none j c m at h waits here (cases_eq j id.0);
          falsified = still found is.falsified;
          fits = fits_on;
          room = room_on k;
        }
      where
        told : Meets watches.clause (lit_at far id.0) labels.marks after.marks (Moves k)
        told = subst (Meets watches.clause (lit_at far id.0) labels.marks after.marks) moves meets

        open_now : is_marked after.marks (neg k) ≡ false
        open_now = ap (λ (m : Marks). is_marked m (neg k)) told.3 ∙ told.2

        turned_at : found ≡ None → (j : ℕ) (c : List Lit) (m : Lit) → clause_at slots j ≡ Some c → Contains c m → times_in begins.rest j ≡ 0 → lit_at (with_watch rows id k) j ≡ a → (j ≡ id.0) ⊎ (j ≢ id.0)
            → is_marked after.marks (lit_at far j) ≡ true
        turned_at none j c m at h waits here (inl same) =
            let is_a : k ≡ a = sym (put_lit_same rows id k visit_room) ∙ ap (lit_at (with_watch rows id k)) (sym same) ∙ here in
            absurd (cc (ap (λ (l : Lit). is_marked labels.marks (neg l)) is_a, told.2, still_false (neg a) turned_false))
        turned_at none j c m at h waits here (inr differs) =
            goes.grows.kept (lit_at far j) (is.turned none j c m at h (waits_still j differs waits) (sym (put_lit_other rows id k visit_room j differs) ∙ here))

-- all were gone over
module _ (slots : Slots) (bools : ℕ) (old far : Rows) (before : Labelled) (a : Lit) (size gone : ℕ) (rows : Rows) (labels : Labelled) (start found : Option ClauseId)
    (is : IsVisiting slots bools old far before a size gone rows labels start found) (e : start ≡ None) (network : IsNetwork bools slots old far before) where
  pub visited_network : IsNetwork bools slots rows far labels
  visited_network =
      record {
        clauses = network.clauses;
        near_rows = traverse_end rows slots bools a no_skip start is.waiting e (λ i h. absurd (cc h)) is.traversing;
        far_rows = network.far_rows;
        are_labels = labels_grown bools before labels network.are_labels is.goes_on.grows;
      }

  pub visited_all : Visits slots (lit_at old) (lit_at rows) (lit_at far) before labels a found
  visited_all =
      record {
        kept = is.kept;
        turned = λ none id c m at h here. is.turned none id c m at h (ap (λ (ws : List ClauseId). times_in ws id) (row_ends (next_at rows) start is.waiting e is.traversing.pending)) here;
      }

-- where as many were gone over as there is room for, none waits
pub visit_over : (slots : Slots) (bools : ℕ) (old far : Rows) (before : Labelled) (a : Lit) (size gone : ℕ) (rows : Rows) (labels : Labelled) (start found : Option ClauseId)
    → IsVisiting slots bools old far before a size gone rows labels start found → size ≤ gone → start ≡ None
visit_over slots bools old far before a size gone rows labels start found is past = by_start start refl is.traversing.pending
  where
    by_start : (s : Option ClauseId) → start ≡ s → IsRow (next_at rows) start is.waiting → start ≡ None
    by_start None e row = e
    by_start (Some id) e row =
        let begins = row_begins (next_at rows) start id is.waiting e row in
        absurd (omega (arith, is.fits, past, ap (λ (ws : List ClauseId). length ws) begins.is))

pub visiting_same : {slots : Slots} {bools : ℕ} {old far : Rows} {before : Labelled} {a : Lit} {size gone : ℕ} {r rows : Rows} {labels : Labelled} {s start f found : Option ClauseId} → r ≡ rows → s ≡ start → f ≡ found
    → IsVisiting slots bools old far before a size gone rows labels start found → IsVisiting slots bools old far before a size gone r labels s f
visiting_same {slots} {bools} {old} {far} {before} {a} {size} {gone} {r} {rows} {labels} {s} {start} {f} {found} er es ef is =
    subst (λ (x : Rows). IsVisiting slots bools old far before a size gone x labels s f) (sym er)
    (subst (λ (x : Option ClauseId). IsVisiting slots bools old far before a size gone rows labels x f) (sym es)
    (subst (λ (x : Option ClauseId). IsVisiting slots bools old far before a size gone rows labels start x) (sym ef) is))
