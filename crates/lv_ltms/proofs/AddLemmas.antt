-- A clause more or less, and the literals that it watches.
use Rattle.std.proofs.Common.{◌≡◌, ◌≢◌, ◌⊎◌, ℕ, ◌+◌, ◌<◌, ◌≤◌, Bool, true, false, List, [], ◌∷◌, length, set, get_or, cond, Option, Some, None, IsSome, IsTrue, IfSome, refl, sym, ap, subst, ◌∙◌, arith, inl, inr, Contains}
use Rattle.std.proofs.lemmas.Bool.{cases_eq, cases_lt}
use Rattle.std.proofs.lemmas.List.{length-set, get_or-set_same, get_or-set_other, get_or_past}
use Rattle.lv_base.specs.declared.ids.Lit.{Lit}
use Rattle.lv_base.specs.declared.ids.ClauseId.{ClauseId}
use Rattle.lv_clauses.specs.Literals.{neg, is_clause}
use Rattle.lv_clauses.specs.ClauseMap.{Slots, clause_at, AreClauses}
use Rattle.lv_clauses.specs.Marks.{Marks, is_marked, is_free}
use Rattle.lv_clauses.proofs.LiteralLemmas.{lit_cases, Contains-nil}
use Rattle.lv_ltms.specs.declared.watchers.Next.{Next}
use Rattle.lv_ltms.specs.declared.watchers.Watch.{Watch}
use Rattle.lv_ltms.specs.declared.propagation.Pair.{Pair}
use Rattle.lv_ltms.specs.declared.propagation.Progress.{Progress}
use Rattle.lv_ltms.specs.Trail.{same_lit}
use Rattle.lv_ltms.specs.Labelled.{Labelled, AreLabels, Grows}
use Rattle.lv_ltms.specs.Watching.{Rows, clause_of, last, heads_of, head_of, lit_at, next_at, with_watch, times_in, Fits, IsRow, watch_count, IsThreaded, IsGuarded, AreGuarded, IsWatching}
use Rattle.lv_ltms.specs.Standing.{PutsSlot, NoneEmpty, TellsEmpty, IsFalsified, Picks, Settles, true_before}
use Rattle.lv_ltms.proofs.CountLemmas.{times_in-none, times_same, times_other, same_lit-self}
use Rattle.lv_ltms.proofs.FindLemmas.{some_is}
use Rattle.lv_ltms.proofs.LabelLemmas.{before_has, has_not_free, neg_not_free, Grows-len, before_kept}
use Rattle.lv_ltms.proofs.RowLemmas.{row_same, put_lit_same, put_lit_other, put_next_same, put_next_other, put_head_same, put_head_other, put_size, written, head_of_true, head_of_false}
use Rattle.lv_ltms.proofs.TraverseLemmas.{not_same, count_yes, count_other, heads_within}
use Rattle.lv_ltms.proofs.VisitLemmas.{kept_free}

pub threaded_same : (rows : Rows) (slots after : Slots) (bools : ℕ) → ((i : ℕ) → clause_at after i ≡ clause_at slots i) → IsThreaded rows slots bools → IsThreaded rows after bools
threaded_same rows slots after bools same is =
    record {
      list = is.list;
      row = is.row;
      exact = λ l id. is.exact l id ∙ ap (λ (s : Option (List Lit)). watch_count s (lit_at rows id) l) (sym (same id));
      of_true = is.of_true;
      of_false = is.of_false;
      room = λ id some. is.room id (subst IsSome (same id) some);
    }

pub threaded_fits : (rows fitted : Rows) (slots : Slots) (bools : ℕ) → Fits rows fitted → IsThreaded rows slots bools → IsThreaded fitted slots bools
threaded_fits rows fitted slots bools fits is =
    record {
      list = is.list;
      row = λ l. subst (λ (s : Option ClauseId). IsRow (next_at fitted) s (is.list l)) (sym (heads l)) (row_same (next_at rows) (next_at fitted) (head_of rows l) (is.list l) (λ id h. ap (λ (w : Watch). clause_of w.next) (fits.same id.0)) (is.row l));
      exact = λ l id. is.exact l id ∙ ap (λ (w : Watch). watch_count (clause_at slots id) w.lit l) (sym (fits.same id));
      of_true = ap (λ (x : List Next). length x) fits.of_true ∙ is.of_true;
      of_false = ap (λ (x : List Next). length x) fits.of_false ∙ is.of_false;
      room = λ id some. omega (arith, is.room id some, fits.more);
    }
  where
    heads : (l : Lit) → head_of fitted l ≡ head_of rows l
    heads l = ap clause_of (by_sign l.sign)
      where
        by_sign : (b : Bool) → get_or (heads_of fitted b) l.var.0 last ≡ get_or (heads_of rows b) l.var.0 last
        by_sign true = ap (λ (x : List Next). get_or x l.var.0 last) fits.of_true
        by_sign false = ap (λ (x : List Next). get_or x l.var.0 last) fits.of_false

module _ (rows : Rows) (slots after : Slots) (bools : ℕ) (id : ClauseId) (is : IsThreaded rows slots bools) (room : id.0 < length rows.watches) (none : clause_at slots id.0 ≡ None) where
  -- a clause without literals watches none
  pub threaded_empty : PutsSlot slots after id.0 (Some []) → IsThreaded rows after bools
  threaded_empty puts =
      record {
        list = is.list;
        row = is.row;
        exact = λ l i. exact_at l i (cases_eq i id.0);
        of_true = is.of_true;
        of_false = is.of_false;
        room = λ i some. room_at i some (cases_eq i id.0);
      }
    where
      exact_at : (l : Lit) (i : ℕ) → (i ≡ id.0) ⊎ (i ≢ id.0) → times_in (is.list l) i ≡ watch_count (clause_at after i) (lit_at rows i) l
      exact_at l i (inl same) =
          let before : times_in (is.list l) i ≡ 0 = is.exact l i ∙ ap (λ (s : Option (List Lit)). watch_count s (lit_at rows i) l) (ap (clause_at slots) same ∙ none) in
          before ∙ sym (ap (λ (s : Option (List Lit)). watch_count s (lit_at rows i) l) (ap (clause_at after) same ∙ puts.changed))
      exact_at l i (inr differs) = is.exact l i ∙ ap (λ (s : Option (List Lit)). watch_count s (lit_at rows i) l) (sym (puts.others i differs))

      room_at : (i : ℕ) → IsSome (clause_at after i) → (i ≡ id.0) ⊎ (i ≢ id.0) → i < length rows.watches
      room_at i some (inl same) = omega (arith, same, room)
      room_at i some (inr differs) = is.room i (subst IsSome (puts.others i differs) some)

  -- a clause that comes watches a literal
  module _ (c : List Lit) (m k : Lit) (puts : PutsSlot slots after id.0 (Some c)) (h : Contains c m) (range : k.var.0 < bools) where
    nowhere : (l : Lit) → times_in (is.list l) id.0 ≡ 0
    nowhere l = is.exact l id.0 ∙ ap (λ (s : Option (List Lit)). watch_count s (lit_at rows id.0) l) none

    list_here : (l : Lit) → k ≡ l → cond (same_lit k l) (id ∷ is.list l) (is.list l) ≡ id ∷ is.list l
    list_here l e = ap (λ (b : Bool). cond b (id ∷ is.list l) (is.list l)) (ap (same_lit k) (sym e) ∙ same_lit-self k)

    list_other : (l : Lit) → k ≢ l → cond (same_lit k l) (id ∷ is.list l) (is.list l) ≡ is.list l
    list_other l differs = ap (λ (b : Bool). cond b (id ∷ is.list l) (is.list l)) (not_same k l differs)

    frame : (l : Lit) (i : ClauseId) → Contains (is.list l) i → next_at (with_watch rows id k) i.0 ≡ next_at rows i.0
    frame l i g = put_next_other rows id k room i.0 (λ e. times_in-none (is.list l) i (ap (times_in (is.list l)) e ∙ nowhere l) g)

    row_at : (l : Lit) → (k ≡ l) ⊎ (k ≢ l) → IsRow (next_at (with_watch rows id k)) (head_of (with_watch rows id k) l) (cond (same_lit k l) (id ∷ is.list l) (is.list l))
    row_at l (inl e) =
        subst (IsRow (next_at (with_watch rows id k)) (head_of (with_watch rows id k) l)) (sym (list_here l e)) (
          ap (head_of (with_watch rows id k)) (sym e) ∙ put_head_same rows id k room (heads_within rows slots bools is k range),
          subst (λ (s : Option ClauseId). IsRow (next_at (with_watch rows id k)) s (is.list l)) (sym (put_next_same rows id k room ∙ ap (head_of rows) e))
              (row_same (next_at rows) (next_at (with_watch rows id k)) (head_of rows l) (is.list l) (frame l) (is.row l)),
        )
    row_at l (inr differs) =
        subst (IsRow (next_at (with_watch rows id k)) (head_of (with_watch rows id k) l)) (sym (list_other l differs))
        (subst (λ (s : Option ClauseId). IsRow (next_at (with_watch rows id k)) s (is.list l)) (sym (put_head_other rows id k room l (λ e. differs (sym e))))
        (row_same (next_at rows) (next_at (with_watch rows id k)) (head_of rows l) (is.list l) (frame l) (is.row l)))

    exact_at : (l : Lit) (i : ℕ) → (k ≡ l) ⊎ (k ≢ l) → (i ≡ id.0) ⊎ (i ≢ id.0) → times_in (cond (same_lit k l) (id ∷ is.list l) (is.list l)) i ≡ watch_count (clause_at after i) (lit_at (with_watch rows id k) i) l
    exact_at l i way (inr differs) =
        count_apart way ∙ is.exact l i ∙ ap (λ (s : Option (List Lit)). watch_count s (lit_at rows i) l) (sym (puts.others i differs)) ∙ ap (λ (w : Lit). watch_count (clause_at after i) w l) (sym (put_lit_other rows id k room i differs))
      where
        count_apart : (k ≡ l) ⊎ (k ≢ l) → times_in (cond (same_lit k l) (id ∷ is.list l) (is.list l)) i ≡ times_in (is.list l) i
        count_apart (inl e) = ap (λ (x : List ClauseId). times_in x i) (list_here l e) ∙ times_other id (is.list l) i differs
        count_apart (inr apart) = ap (λ (x : List ClauseId). times_in x i) (list_other l apart)
    exact_at l i (inl e) (inl same) =
        let counts : times_in (cond (same_lit k l) (id ∷ is.list l) (is.list l)) i ≡ 1 =
        ap (times_in (cond (same_lit k l) (id ∷ is.list l) (is.list l))) same ∙ ap (λ (x : List ClauseId). times_in x id.0) (list_here l e) ∙ times_same id (is.list l) ∙ ap (λ n. 1 + n) (nowhere l) in
        counts ∙ sym (ap (λ (j : ℕ). watch_count (clause_at after j) (lit_at (with_watch rows id k) j) l) same ∙ count_yes (clause_at after id.0) c m (lit_at (with_watch rows id k) id.0) l puts.changed h (put_lit_same rows id k room ∙ e))
    exact_at l i (inr differs) (inl same) =
        let counts : times_in (cond (same_lit k l) (id ∷ is.list l) (is.list l)) i ≡ 0 = ap (times_in (cond (same_lit k l) (id ∷ is.list l) (is.list l))) same ∙ ap (λ (x : List ClauseId). times_in x id.0) (list_other l differs) ∙ nowhere l in
        counts ∙ sym (ap (λ (j : ℕ). watch_count (clause_at after j) (lit_at (with_watch rows id k) j) l) same ∙ count_other (clause_at after id.0) (lit_at (with_watch rows id k) id.0) l (λ f. differs (sym (put_lit_same rows id k room) ∙ f)))

    pub threaded_added : IsThreaded (with_watch rows id k) after bools
    threaded_added =
        record {
          list = λ l. cond (same_lit k l) (id ∷ is.list l) (is.list l);
          row = λ l. row_at l (lit_cases k l);
          exact = λ l i. exact_at l i (lit_cases k l) (cases_eq i id.0);
          of_true = head_of_true (written rows id k room) k (Some id) ∙ is.of_true;
          of_false = head_of_false (written rows id k room) k (Some id) ∙ is.of_false;
          room = λ i some. room_at i some (cases_eq i id.0);
        }
      where
        room_at : (i : ℕ) → IsSome (clause_at after i) → (i ≡ id.0) ⊎ (i ≢ id.0) → i < length (with_watch rows id k).watches
        room_at i some (inl same) = omega (arith, same, room, put_size rows id k room)
        room_at i some (inr differs) = omega (arith, is.room i (subst IsSome (puts.others i differs) some), put_size rows id k room)

pub added_clauses : (bools : ℕ) (slots after : Slots) (id : ℕ) (c : List Lit) → PutsSlot slots after id (Some c) → IsTrue (is_clause bools c) → AreClauses bools slots → AreClauses bools after
added_clauses bools slots after id c puts clause are i d at = elim (cases_eq i id) [
  | inl same ↦ subst (λ (x : List Lit). IsTrue (is_clause bools x)) (some_is (sym puts.changed ∙ ap (clause_at after) (sym same) ∙ at)) clause
  | inr differs ↦ are i d (sym (puts.others i differs) ∙ at)
]

-- what is guarded goes over to other clauses, where the literals watched of those that were there are the same, and the
-- clause that came is guarded
module _ (slots after : Slots) (id : ℕ) (old_near old_far near far : ℕ → Lit) (truth less : Lit → Bool) (old new : Labelled) (others : (i : ℕ) → i ≢ id → clause_at after i ≡ clause_at slots i)
    (same_near : (i : ℕ) → i ≢ id → near i ≡ old_near i) (same_far : (i : ℕ) → i ≢ id → far i ≡ old_far i) (fewer : (l : Lit) → less l ≡ true → truth l ≡ true) (grows : Grows old new) where
  over_guarded : (one two old_one old_two : ℕ → Lit) → ((i : ℕ) → i ≢ id → one i ≡ old_one i) → ((i : ℕ) → i ≢ id → two i ≡ old_two i) → AreGuarded slots old_one old_two truth old.marks []
      → ((c : List Lit) (m : Lit) → clause_at after id ≡ Some c → Contains c m → IsGuarded c (one id) (two id) less new.marks []) → AreGuarded after one two less new.marks []
  over_guarded one two old_one old_two same_one same_two is here =
      record { guarded = λ i c m at h. at_id i c m at h (cases_eq i id) }
    where
      at_id : (i : ℕ) (c : List Lit) (m : Lit) → clause_at after i ≡ Some c → Contains c m → (i ≡ id) ⊎ (i ≢ id) → IsGuarded c (one i) (two i) less new.marks []
      at_id i c m at h (inl same) = subst (λ (j : ℕ). IsGuarded c (one j) (two j) less new.marks []) (sym same) (here c m (ap (clause_at after) (sym same) ∙ at) h)
      at_id i c m at h (inr differs) =
          let was : IsGuarded c (old_one i) (old_two i) truth old.marks [] = is.guarded i c m (sym (others i differs) ∙ at) h in
          record {
            member = subst (Contains c) (sym (same_one i differs)) was.member;
            lone = λ e k g. was.lone (sym (same_one i differs) ∙ e ∙ same_two i differs) k g ∙ sym (same_one i differs);
            held = λ e f. ap (is_marked new.marks) (same_two i differs) ∙ grows.kept (old_two i) (was.held (fewer (neg (old_one i)) (ap (λ (l : Lit). less (neg l)) (sym (same_one i differs)) ∙ e)) refl);
          }

  pub over_watching : IsWatching slots old_near old_far truth truth old.marks []
      → ((c : List Lit) (m : Lit) → clause_at after id ≡ Some c → Contains c m → IsGuarded c (near id) (far id) less new.marks [])
      → ((c : List Lit) (m : Lit) → clause_at after id ≡ Some c → Contains c m → IsGuarded c (far id) (near id) less new.marks [])
      → ((c : List Lit) (m : Lit) → clause_at after id ≡ Some c → Contains c m → near id ≡ far id → is_free new.marks (near id) ≡ false) → IsWatching after near far less less new.marks []
  over_watching is near_here far_here settled_here =
      record {
        near_side = over_guarded near far old_near old_far same_near same_far is.near_side near_here;
        far_side = over_guarded far near old_far old_near same_far same_near is.far_side far_here;
        settled = record { settled = λ i c m at h e f. settled_at i c m at h e (cases_eq i id) };
      }
    where
      settled_at : (i : ℕ) (c : List Lit) (m : Lit) → clause_at after i ≡ Some c → Contains c m → near i ≡ far i → (i ≡ id) ⊎ (i ≢ id) → is_free new.marks (near i) ≡ false
      settled_at i c m at h e (inl same) =
          ap (λ (j : ℕ). is_free new.marks (near j)) same ∙ settled_here c m (ap (clause_at after) (sym same) ∙ at) h (ap near (sym same) ∙ e ∙ ap far same)
      settled_at i c m at h e (inr differs) =
          ap (is_free new.marks) (same_near i differs) ∙ kept_free old new grows (old_near i) (is.settled.settled i c m (sym (others i differs) ∙ at) h (sym (same_near i differs) ∙ e ∙ same_far i differs) refl)

-- the clause that came, with the two literals that it watches
module _ (slots after : Slots) (id : ClauseId) (c : List Lit) (pair : Pair) (old_near old_far near far : ℕ → Lit) (old new : Labelled) (was is : Progress) (puts : PutsSlot slots after id.0 (Some c)) (picks : Picks c old.marks pair)
    (settles : Settles id pair old new was is) (bools : ℕ) (labels : AreLabels bools old) (place : was.done ≤ length old.trail)
    (watching : IsWatching slots old_near old_far (true_before was.done old.trail) (true_before was.done old.trail) old.marks []) (same_near : (i : ℕ) → i ≢ id.0 → near i ≡ old_near i) (same_far : (i : ℕ) → i ≢ id.0 → far i ≡ old_far i)
    (near_is : near id.0 ≡ pair.near) (far_is : far id.0 ≡ pair.far) where
  clause_is : (d : List Lit) → clause_at after id.0 ≡ Some d → c ≡ d
  clause_is d at = some_is (sym puts.changed ∙ at)

  member_near : (d : List Lit) → clause_at after id.0 ≡ Some d → Contains d (near id.0)
  member_near d at = subst (Contains d) (sym near_is) (subst (λ (x : List Lit). Contains x pair.near) (clause_is d at) picks.near)

  member_far : (d : List Lit) → clause_at after id.0 ≡ Some d → Contains d (far id.0)
  member_far d at = subst (Contains d) (sym far_is) (subst (λ (x : List Lit). Contains x pair.far) (clause_is d at) picks.far)

  lone_near : (d : List Lit) → clause_at after id.0 ≡ Some d → near id.0 ≡ far id.0 → (m : Lit) → Contains d m → m ≡ near id.0
  lone_near d at e m h = picks.lone (sym near_is ∙ e ∙ far_is) m (subst (λ (x : List Lit). Contains x m) (sym (clause_is d at)) h) ∙ sym near_is

  -- a literal marked before isn't among the first where it wasn't true
  front_true : (n : ℕ) → n ≤ length old.trail → (l : Lit) → true_before n new.trail l ≡ true → is_marked old.marks l ≡ true
  front_true n within l e = labels.agrees.same l ∙ before_has n old.trail l (sym (before_kept old new n settles.grows within l) ∙ e)

  guard_with : (less : Lit → Bool) → (less (neg pair.near) ≡ true → is_marked new.marks pair.far ≡ true) → (d : List Lit) (m : Lit) → clause_at after id.0 ≡ Some d → Contains d m → IsGuarded d (near id.0) (far id.0) less new.marks []
  guard_with less holds d m at h =
      record { member = member_near d at; lone = lone_near d at; held = λ e f. ap (is_marked new.marks) far_is ∙ holds (ap (λ (l : Lit). less (neg l)) (sym near_is) ∙ e) }

  guard_back : (less : Lit → Bool) → (less (neg pair.far) ≡ true → is_marked new.marks pair.near ≡ true) → (d : List Lit) (m : Lit) → clause_at after id.0 ≡ Some d → Contains d m → IsGuarded d (far id.0) (near id.0) less new.marks []
  guard_back less holds d m at h =
      record {
        member = member_far d at;
        lone = λ e k g. lone_near d at (sym e) k g ∙ sym e;
        held = λ e f. ap (is_marked new.marks) near_is ∙ holds (ap (λ (l : Lit). less (neg l)) (sym far_is) ∙ e);
      }

  pub added_watching : (is.done ≤ length new.trail) × IsWatching after near far (true_before is.done new.trail) (true_before is.done new.trail) new.marks []
  added_watching = by_near (is_marked old.marks (neg pair.near)) refl
    where
      by_near : (b : Bool) → is_marked old.marks (neg pair.near) ≡ b → (is.done ≤ length new.trail) × IsWatching after near far (true_before is.done new.trail) (true_before is.done new.trail) new.marks []
      by_near true e =
          let zero_done : is.done ≡ 0 = ap (λ (p : Progress). p.done) (settles.closed e).0 in
          let nothing : (l : Lit) → true_before is.done new.trail l ≡ true → ⊥ = λ l f. cc (ap (λ (n : ℕ). true_before n new.trail l) (sym zero_done) ∙ f) in (
            omega (arith, zero_done),
            over_watching slots after id.0 old_near old_far near far (true_before was.done old.trail) (true_before is.done new.trail) old new puts.others same_near same_far (λ l f. absurd (nothing l f)) settles.grows watching
                (guard_with (true_before is.done new.trail) (λ f. absurd (nothing (neg pair.near) f))) (guard_back (true_before is.done new.trail) (λ f. absurd (nothing (neg pair.far) f)))
                (λ d m at h g. ap (is_free new.marks) near_is ∙ neg_not_free new.marks pair.near (settles.grows.kept (neg pair.near) e)),
          )
      by_near false e =
          let same_done : is.done ≡ was.done = ap (λ (p : Progress). p.done) (settles.left_open e) in
          let within : is.done ≤ length old.trail = omega (arith, same_done, place) in
          let fewer : (l : Lit) → true_before is.done new.trail l ≡ true → true_before was.done old.trail l ≡ true =
          λ l f. sym (before_kept old new was.done settles.grows place l) ∙ ap (λ (n : ℕ). true_before n new.trail l) (sym same_done) ∙ f in (
            omega (arith, within, Grows-len old new settles.grows),
            over_watching slots after id.0 old_near old_far near far (true_before was.done old.trail) (true_before is.done new.trail) old new puts.others same_near same_far fewer settles.grows watching
                (guard_with (true_before is.done new.trail) (λ f. absurd (cc (front_true is.done within (neg pair.near) f, e))))
                (guard_back (true_before is.done new.trail) (λ f. settles.last e (inr (front_true is.done within (neg pair.far) f))))
                (λ d m at h g. ap (is_free new.marks) near_is ∙ has_not_free new.marks pair.near (settles.last e (inl (sym near_is ∙ g ∙ far_is)))),
          )

  -- a clause known as false still is, or the one that came is
  pub added_falsified : clause_at slots id.0 ≡ None → IfSome was.conflict (λ i. IsFalsified slots old.marks i.0) → IfSome is.conflict (λ i. IsFalsified after new.marks i.0)
  added_falsified vacant known = by_near (is_marked old.marks (neg pair.near)) refl
    where
      here : is_marked old.marks (neg pair.near) ≡ true → IsFalsified after new.marks id.0
      here e = record { clause = c; present = puts.changed; all_false = λ m h. settles.grows.kept (neg m) (picks.near_false e m h) }

      over : (f : Option ClauseId) → IfSome f (λ i. IsFalsified slots old.marks i.0) → IfSome f (λ i. IsFalsified after new.marks i.0)
      over None h = tt
      over (Some i) h =
          let apart : i.0 ≢ id.0 = λ same. cc (sym h.present ∙ ap (clause_at slots) same ∙ vacant) in
          record { clause = h.clause; present = puts.others i.0 apart ∙ h.present; all_false = λ m g. settles.grows.kept (neg m) (h.all_false m g) }

      by_near : (b : Bool) → is_marked old.marks (neg pair.near) ≡ b → IfSome is.conflict (λ i. IsFalsified after new.marks i.0)
      by_near true e = subst (λ (f : Option ClauseId). IfSome f (λ i. IsFalsified after new.marks i.0)) (sym (ap (λ (p : Progress). p.conflict) (settles.closed e).0)) (here e)
      by_near false e = subst (λ (f : Option ClauseId). IfSome f (λ i. IsFalsified after new.marks i.0)) (sym (ap (λ (p : Progress). p.conflict) (settles.left_open e))) (over was.conflict known)

-- clauses without literals are told still
pub tells_added : (slots after : Slots) (id : ℕ) (c : List Lit) (m : Lit) (f : Option ClauseId) → clause_at slots id ≡ None → PutsSlot slots after id (Some c) → Contains c m → TellsEmpty slots f → TellsEmpty after f
tells_added slots after id c m None vacant puts h none =
    record {
      never = λ i e. elim (cases_eq i id) [
        | inl same ↦ Contains-nil m (subst (λ (x : List Lit). Contains x m) (some_is (sym puts.changed ∙ ap (clause_at after) (sym same) ∙ e)) h)
        | inr differs ↦ none.never i (sym (puts.others i differs) ∙ e)
      ];
    }
tells_added slots after id c m (Some i) vacant puts h there = puts.others i.0 (λ same. cc (sym there ∙ ap (clause_at slots) same ∙ vacant)) ∙ there

-- a clause goes
module _ (slots after : Slots) (id : ℕ) (puts : PutsSlot slots after id None) where
  pub gone_is : (i : ℕ) (c : List Lit) → clause_at after i ≡ Some c → clause_at slots i ≡ Some c
  gone_is i c at = elim (cases_eq i id) [
    | inl same ↦ absurd (cc (sym at ∙ ap (clause_at after) same ∙ puts.changed))
    | inr differs ↦ sym (puts.others i differs) ∙ at
  ]

  -- it is as though nothing stood at its number
  pub gone_set : (i : ℕ) → clause_at after i ≡ clause_at (set slots id None) i
  gone_set i = elim (cases_eq i id) [
    | inl same ↦ ap (clause_at after) same ∙ puts.changed ∙ sym (ap (clause_at (set slots id None)) same ∙ set_none (cases_lt id (length slots)))
    | inr differs ↦ puts.others i differs ∙ sym (get_or-set_other slots id i None None differs)
  ]
    where
      set_none : (id < length slots) ⊎ (length slots ≤ id) → clause_at (set slots id None) id ≡ None
      set_none (inl within) = get_or-set_same slots id None None within
      set_none (inr past) = get_or_past (set slots id None) id None (omega (arith, past, length-set slots id None))

  pub gone_watching : (near far new_near new_far : ℕ → Lit) (truth : Lit → Bool) (marks : Marks) → ((i : ℕ) → new_near i ≡ near i) → ((i : ℕ) → new_far i ≡ far i) → IsWatching slots near far truth truth marks []
      → IsWatching after new_near new_far truth truth marks []
  gone_watching near far new_near new_far truth marks same_near same_far is =
      record {
        near_side = side near far new_near new_far same_near same_far is.near_side;
        far_side = side far near new_far new_near same_far same_near is.far_side;
        settled = record { settled = λ i c m at h e f. ap (is_free marks) (same_near i) ∙ is.settled.settled i c m (gone_is i c at) h (sym (same_near i) ∙ e ∙ same_far i) refl };
      }
    where
      side : (one two new_one new_two : ℕ → Lit) → ((i : ℕ) → new_one i ≡ one i) → ((i : ℕ) → new_two i ≡ two i) → AreGuarded slots one two truth marks [] → AreGuarded after new_one new_two truth marks []
      side one two new_one new_two same_one same_two guards =
          record {
            guarded =
                λ i c m at h.
                let was : IsGuarded c (one i) (two i) truth marks [] = guards.guarded i c m (gone_is i c at) h in
                record {
                  member = subst (Contains c) (sym (same_one i)) was.member;
                  lone = λ e k g. was.lone (sym (same_one i) ∙ e ∙ same_two i) k g ∙ sym (same_one i);
                  held = λ e f. ap (is_marked marks) (same_two i) ∙ was.held (ap (λ (l : Lit). truth (neg l)) (sym (same_one i)) ∙ e) refl;
                };
          }

  pub gone_empty : NoneEmpty slots → NoneEmpty after
  gone_empty none = record { never = λ i e. none.never i (gone_is i [] e) }
