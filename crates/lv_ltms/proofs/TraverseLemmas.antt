-- A list that was taken away and is gone along: each clause of it is put into some list again.
use Rattle.std.proofs.Common.{◌≡◌, ◌≢◌, ◌⊎◌, ℕ, ◌+◌, ◌<◌, ◌≤◌, Bool, true, false, List, [], ◌∷◌, length, cond, Option, Some, None, IsSome, refl, sym, ap, subst, ◌∙◌, arith, inl, inr, Contains}
use Rattle.std.proofs.lemmas.Bool.{cases_eq}
use Rattle.lv_base.specs.declared.ids.Lit.{Lit}
use Rattle.lv_base.specs.declared.ids.ClauseId.{ClauseId}
use Rattle.lv_clauses.specs.ClauseMap.{Slots, clause_at}
use Rattle.lv_clauses.proofs.LiteralLemmas.{Contains-head, Contains-tail, Contains-nil, lit_cases}
use Rattle.lv_ltms.specs.declared.watchers.Watch.{Watch}
use Rattle.lv_ltms.specs.Trail.{same_lit}
use Rattle.lv_ltms.specs.Watching.{Rows, heads_of, head_of, lit_at, next_at, with_head, with_watch, times_in, IsRow, watch_count, IsThreaded, AreRows}
use Rattle.lv_ltms.proofs.BoolLemmas.{not_true}
use Rattle.lv_ltms.proofs.CountLemmas.{times_in-none, times_some, times_same, times_other, same_lit-self}
use Rattle.lv_ltms.proofs.RowLemmas.{row_same, row_ends, head_watches, head_same, head_other, head_next, head_lit, head_of_true, head_of_false, put_lit_same, put_lit_other, put_next_same, put_next_other, put_head_same, put_head_other, put_size, written, fits_below}
use Rattle.lv_ltms.proofs.TrailLemmas.{same_lit-equal}

-- how often the number waits in the list of the literal that is gone along
abbrev pub waits : Lit → List ClauseId → Lit → ℕ → ℕ
waits a waiting l id = cond (same_lit a l) (times_in waiting id) 0

abbrev number : ℕ → ℕ
number n = n

zero_either : (b : Bool) → number (cond b 0 0) ≡ 0
zero_either true = refl
zero_either false = refl

waits_here : (a : Lit) (waiting : List ClauseId) (id : ℕ) → waits a waiting a id ≡ times_in waiting id
waits_here a waiting id = ap (λ (b : Bool). cond b (times_in waiting id) 0) (same_lit-self a)

pub not_same : (a l : Lit) → a ≢ l → same_lit a l ≡ false
not_same a l differs = not_true (same_lit a l) (λ e. differs (same_lit-equal a l e))

waits_other : (a l : Lit) (waiting : List ClauseId) (id : ℕ) → a ≢ l → waits a waiting l id ≡ 0
waits_other a l waiting id differs = ap (λ (b : Bool). cond b (times_in waiting id) 0) (not_same a l differs)

pub record IsTraversing (rows : Rows) (slots : Slots) (bools : ℕ) (a : Lit) (skip : ℕ → Bool) (start : Option ClauseId) (waiting : List ClauseId) : Type 0 where
  pub list : Lit → List ClauseId
  pub row : (l : Lit) → IsRow (next_at rows) (head_of rows l) (list l)
  pub pending : IsRow (next_at rows) start waiting
  pub exact : (l : Lit) (id : ℕ) → skip id ≡ false → times_in (list l) id + waits a waiting l id ≡ watch_count (clause_at slots id) (lit_at rows id) l
  pub skipped : (l : Lit) (id : ℕ) → skip id ≡ true → times_in (list l) id ≡ 0
  pub once : (id : ℕ) → times_in waiting id ≤ 1
  pub within : (id : ClauseId) → Contains waiting id → id.0 < length rows.watches
  pub of_true : length rows.of_true ≡ bools
  pub of_false : length rows.of_false ≡ bools
  pub room : (id : ℕ) → IsSome (clause_at slots id) → id < length rows.watches

count_le : (slot : Option (List Lit)) (w l : Lit) → watch_count slot w l ≤ 1
count_le None w l = omega arith
count_le (Some []) w l = omega arith
count_le (Some (m ∷ ms)) w l = by_value (same_lit w l)
  where
    by_value : (b : Bool) → cond b 1 0 ≤ 1
    by_value true = omega arith
    by_value false = omega arith

-- a clause of some literal that watches the literal counted
pub record Watches (slot : Option (List Lit)) (w l : Lit) : Type 0 where
  pub clause : List Lit
  pub member : Lit
  pub present : slot ≡ Some clause
  pub has : Contains clause member
  pub is : w ≡ l

pub count_some : (slot : Option (List Lit)) (w l : Lit) → (watch_count slot w l ≡ 0 → ⊥) → Watches slot w l
count_some None w l some = absurd (some refl)
count_some (Some []) w l some = absurd (some refl)
count_some (Some (m ∷ ms)) w l some = by_value (same_lit w l) refl
  where
    by_value : (b : Bool) → same_lit w l ≡ b → Watches (Some (m ∷ ms)) w l
    by_value true e = record { clause = m ∷ ms; member = m; present = refl; has = Contains-head m ms; is = same_lit-equal w l e }
    by_value false e = absurd (some (ap (λ (b : Bool). cond b 1 0) e))

pub count_yes : (slot : Option (List Lit)) (c : List Lit) (m w l : Lit) → slot ≡ Some c → Contains c m → w ≡ l → watch_count slot w l ≡ 1
count_yes None c m w l e h same = absurd (cc e)
count_yes (Some []) c m w l e h same = absurd (Contains-nil m (subst (λ (x : List Lit). Contains x m) (sym (some_is e)) h))
  where
    some_is : {x y : List Lit} → Some x ≡ Some y → x ≡ y
    some_is f = cc
count_yes (Some (k ∷ ks)) c m w l e h same = ap (λ (b : Bool). cond b 1 0) (ap (λ (x : Lit). same_lit x l) same ∙ same_lit-self l)

pub count_other : (slot : Option (List Lit)) (w l : Lit) → w ≢ l → watch_count slot w l ≡ 0
count_other None w l differs = refl
count_other (Some []) w l differs = refl
count_other (Some (k ∷ ks)) w l differs = ap (λ (b : Bool). cond b 1 0) (not_same w l differs)

-- what the lists of a side tell
module _ (rows : Rows) (slots : Slots) (bools : ℕ) (is : IsThreaded rows slots bools) where
  pub listed_watches : (l : Lit) (id : ClauseId) → Contains (is.list l) id → Watches (clause_at slots id.0) (lit_at rows id.0) l
  listed_watches l id h = count_some (clause_at slots id.0) (lit_at rows id.0) l (λ e. times_in-none (is.list l) id (is.exact l id.0 ∙ e) h)

  pub watch_listed : (id : ℕ) (c : List Lit) (m : Lit) → clause_at slots id ≡ Some c → Contains c m → Contains (is.list (lit_at rows id)) (record { 0 = id })
  watch_listed id c m at h =
      times_some (is.list (lit_at rows id)) id (λ e. absurd (omega (arith, e, is.exact (lit_at rows id) id, count_yes (clause_at slots id) c m (lit_at rows id) (lit_at rows id) at h refl)))

  pub listed_once : (l : Lit) (id : ℕ) → times_in (is.list l) id ≤ 1
  listed_once l id = omega (arith, is.exact l id, count_le (clause_at slots id) (lit_at rows id) l)

  pub listed_room : (l : Lit) (id : ClauseId) → Contains (is.list l) id → id.0 < length rows.watches
  listed_room l id h = is.room id.0 (subst IsSome (sym (listed_watches l id h).present) refl)

  pub heads_within : (l : Lit) → l.var.0 < bools → l.var.0 < length (heads_of rows l.sign)
  heads_within l within = by_sign l.sign
    where
      by_sign : (b : Bool) → l.var.0 < length (heads_of rows b)
      by_sign true = omega (arith, within, is.of_true)
      by_sign false = omega (arith, within, is.of_false)

pub rows_of_both : (near far : Rows) (slots : Slots) (bools : ℕ) → IsThreaded near slots bools → IsThreaded far slots bools → AreRows near far
rows_of_both near far slots bools is other =
    record {
      list = is.list;
      row = is.row;
      once = listed_once near slots bools is;
      near_room = listed_room near slots bools is;
      far_room = λ l id h. other.room id.0 (subst IsSome (sym (listed_watches near slots bools is l id h).present) refl);
    }

-- the list of a literal is taken away; clauses that are to go are left out of what counts
pub traverse_start : (rows : Rows) (slots after : Slots) (bools : ℕ) (a : Lit) (skip : ℕ → Bool) → a.var.0 < bools → ((i : ℕ) → skip i ≡ false → clause_at after i ≡ clause_at slots i)
    → ((i : ℕ) → skip i ≡ true → lit_at rows i ≡ a) → ((i : ℕ) → IsSome (clause_at after i) → IsSome (clause_at slots i)) → (is : IsThreaded rows slots bools) → IsTraversing (with_head rows a None) after bools a skip (head_of rows a) (is.list a)
traverse_start rows slots after bools a skip range same goes fewer is =
    record {
      list = λ l. cond (same_lit a l) [] (is.list l);
      row = λ l. row_at l (lit_cases a l);
      pending = row_same (next_at rows) (next_at (with_head rows a None)) (head_of rows a) (is.list a) (λ id h. head_next rows a None id.0) (is.row a);
      exact = λ l id kept. exact_at l id kept (lit_cases a l);
      skipped = λ l id gone. skipped_at l id gone (lit_cases a l);
      once = listed_once rows slots bools is a;
      within = λ id h. subst (λ (ws : List Watch). id.0 < length ws) (sym (head_watches rows a None)) (listed_room rows slots bools is a id h);
      of_true = head_of_true rows a None ∙ is.of_true;
      of_false = head_of_false rows a None ∙ is.of_false;
      room = λ id some. subst (λ (ws : List Watch). id < length ws) (sym (head_watches rows a None)) (is.room id (fewer id some));
    }
  where
    list_here : (l : Lit) → a ≡ l → cond (same_lit a l) [] (is.list l) ≡ []
    list_here l e = ap (λ (b : Bool). cond b [] (is.list l)) (ap (same_lit a) (sym e) ∙ same_lit-self a)

    list_other : (l : Lit) → a ≢ l → cond (same_lit a l) [] (is.list l) ≡ is.list l
    list_other l differs = ap (λ (b : Bool). cond b [] (is.list l)) (not_same a l differs)

    row_at : (l : Lit) → (a ≡ l) ⊎ (a ≢ l) → IsRow (next_at (with_head rows a None)) (head_of (with_head rows a None) l) (cond (same_lit a l) [] (is.list l))
    row_at l (inl e) =
        subst (IsRow (next_at (with_head rows a None)) (head_of (with_head rows a None) l)) (sym (list_here l e))
        (ap (head_of (with_head rows a None)) (sym e) ∙ head_same rows a None (heads_within rows slots bools is a range))
    row_at l (inr differs) =
        subst (IsRow (next_at (with_head rows a None)) (head_of (with_head rows a None) l)) (sym (list_other l differs))
        (subst (λ (s : Option ClauseId). IsRow (next_at (with_head rows a None)) s (is.list l)) (sym (head_other rows a None l (λ e. differs (sym e))))
        (row_same (next_at rows) (next_at (with_head rows a None)) (head_of rows l) (is.list l) (λ id h. head_next rows a None id.0) (is.row l)))

    exact_at : (l : Lit) (id : ℕ) → skip id ≡ false → (a ≡ l) ⊎ (a ≢ l) → times_in (cond (same_lit a l) [] (is.list l)) id + waits a (is.list a) l id ≡ watch_count (clause_at after id) (lit_at (with_head rows a None) id) l
    exact_at l id kept (inl e) =
        let none : times_in (cond (same_lit a l) [] (is.list l)) id ≡ 0 = ap (λ (x : List ClauseId). times_in x id) (list_here l e) in
        let here : waits a (is.list a) l id ≡ times_in (is.list l) id = ap (λ (b : Bool). cond b (times_in (is.list a) id) 0) (ap (same_lit a) (sym e) ∙ same_lit-self a) ∙ ap (λ (x : Lit). times_in (is.list x) id) e in
        let all : times_in (cond (same_lit a l) [] (is.list l)) id + waits a (is.list a) l id ≡ times_in (is.list l) id = omega (arith, none, here) in
        all ∙ is.exact l id ∙ ap (λ (s : Option (List Lit)). watch_count s (lit_at rows id) l) (sym (same id kept)) ∙ ap (λ (w : Lit). watch_count (clause_at after id) w l) (sym (head_lit rows a None id))
    exact_at l id kept (inr differs) =
        let here : times_in (cond (same_lit a l) [] (is.list l)) id ≡ times_in (is.list l) id = ap (λ (x : List ClauseId). times_in x id) (list_other l differs) in
        let all : times_in (cond (same_lit a l) [] (is.list l)) id + waits a (is.list a) l id ≡ times_in (is.list l) id = omega (arith, here, waits_other a l (is.list a) id differs) in
        all ∙ is.exact l id ∙ ap (λ (s : Option (List Lit)). watch_count s (lit_at rows id) l) (sym (same id kept)) ∙ ap (λ (w : Lit). watch_count (clause_at after id) w l) (sym (head_lit rows a None id))

    skipped_at : (l : Lit) (id : ℕ) → skip id ≡ true → (a ≡ l) ⊎ (a ≢ l) → times_in (cond (same_lit a l) [] (is.list l)) id ≡ 0
    skipped_at l id gone (inl e) = ap (λ (x : List ClauseId). times_in x id) (list_here l e)
    skipped_at l id gone (inr differs) =
        ap (λ (x : List ClauseId). times_in x id) (list_other l differs) ∙ is.exact l id ∙ count_other (clause_at slots id) (lit_at rows id) l (λ f. differs (sym (goes id gone) ∙ f))

-- the clause at hand
module _ (rows : Rows) (slots : Slots) (bools : ℕ) (a : Lit) (skip : ℕ → Bool) (id : ClauseId) (ws : List ClauseId) (is : IsTraversing rows slots bools a skip (Some id) (id ∷ ws)) where
  pub behind_none : times_in ws id.0 ≡ 0
  behind_none = omega (arith, is.once id.0, times_same id ws)

  pub behind_row : IsRow (next_at rows) (next_at rows id.0) ws
  behind_row = is.pending.1

  once_behind : (i : ℕ) → times_in ws i ≤ 1
  once_behind i = elim (cases_eq i id.0) [
    | inl same ↦ omega (arith, ap (times_in ws) same, behind_none)
    | inr differs ↦ omega (arith, is.once i, times_other id ws i differs)
  ]

  within_behind : (i : ClauseId) → Contains ws i → i.0 < length rows.watches
  within_behind i h = is.within i (Contains-tail id i ws h)

  -- a clause that is to go is passed over
  pub traverse_skip : skip id.0 ≡ true → IsTraversing rows slots bools a skip (next_at rows id.0) ws
  traverse_skip gone =
      record {
        list = is.list;
        row = is.row;
        pending = behind_row;
        exact = λ l i kept. exact_at l i kept (lit_cases a l) (cases_eq i id.0);
        skipped = is.skipped;
        once = once_behind;
        within = within_behind;
        of_true = is.of_true;
        of_false = is.of_false;
        room = is.room;
      }
    where
      exact_at : (l : Lit) (i : ℕ) → skip i ≡ false → (a ≡ l) ⊎ (a ≢ l) → (i ≡ id.0) ⊎ (i ≢ id.0) → times_in (is.list l) i + waits a ws l i ≡ watch_count (clause_at slots i) (lit_at rows i) l
      exact_at l i kept way (inl same) = absurd (cc (gone, kept, same))
      exact_at l i kept (inl e) (inr differs) =
          ap (λ n. times_in (is.list l) i + n) (ap (λ (b : Bool). cond b (times_in ws i) 0) (ap (same_lit a) (sym e) ∙ same_lit-self a) ∙ sym (times_other id ws i differs) ∙ sym (ap (λ (b : Bool). cond b (times_in (id ∷ ws) i) 0) (ap (same_lit a) (sym e) ∙ same_lit-self a)))
          ∙ is.exact l i kept
      exact_at l i kept (inr apart) (inr differs) =
          ap (λ n. times_in (is.list l) i + n) (waits_other a l ws i apart ∙ sym (waits_other a l (id ∷ ws) i apart)) ∙ is.exact l i kept

  module _ (kept : skip id.0 ≡ false) where
    count_here : times_in (is.list a) id.0 + (1 + times_in ws id.0) ≡ watch_count (clause_at slots id.0) (lit_at rows id.0) a
    count_here = ap (λ n. times_in (is.list a) id.0 + n) (sym (waits_here a (id ∷ ws) id.0 ∙ times_same id ws)) ∙ is.exact a id.0 kept

    pub at_hand : Watches (clause_at slots id.0) (lit_at rows id.0) a
    at_hand = count_some (clause_at slots id.0) (lit_at rows id.0) a (λ e. omega (arith, e, count_here))

    -- it is in no list
    pub nowhere : (l : Lit) → times_in (is.list l) id.0 ≡ 0
    nowhere l = elim (lit_cases a l) [
      | inl e ↦ ap (λ (x : Lit). times_in (is.list x) id.0) (sym e) ∙ omega (arith, count_here, count_le (clause_at slots id.0) (lit_at rows id.0) a)
      | inr differs ↦ omega (arith, is.exact l id.0 kept, count_other (clause_at slots id.0) (lit_at rows id.0) l (λ f. differs (sym at_hand.is ∙ f)))
    ]

    -- it watches some literal now, maybe another one
    pub traverse_put : (k : Lit) → k.var.0 < bools → IsTraversing (with_watch rows id k) slots bools a skip (next_at rows id.0) ws
    traverse_put k range =
        record {
          list = λ l. cond (same_lit k l) (id ∷ is.list l) (is.list l);
          row = λ l. row_at l (lit_cases k l);
          pending = row_same (next_at rows) (next_at (with_watch rows id k)) (next_at rows id.0) ws (λ i h. frame i ws h behind_none) behind_row;
          exact = λ l i stays. exact_at l i stays (lit_cases k l) (cases_eq i id.0);
          skipped = λ l i goes. skipped_at l i goes (lit_cases k l) (cases_eq i id.0);
          once = once_behind;
          within = λ i h. omega (arith, within_behind i h, size);
          of_true = head_of_true (written rows id k here) k (Some id) ∙ is.of_true;
          of_false = head_of_false (written rows id k here) k (Some id) ∙ is.of_false;
          room = λ i some. omega (arith, is.room i some, size);
        }
      where
        here : id.0 < length rows.watches
        here = is.within id (Contains-head id ws)

        size : length (with_watch rows id k).watches ≡ length rows.watches
        size = put_size rows id k here

        heads : k.var.0 < length (heads_of rows k.sign)
        heads = by_sign k.sign
          where
            by_sign : (b : Bool) → k.var.0 < length (heads_of rows b)
            by_sign true = omega (arith, range, is.of_true)
            by_sign false = omega (arith, range, is.of_false)

        frame : (i : ClauseId) (ids : List ClauseId) → Contains ids i → times_in ids id.0 ≡ 0 → next_at (with_watch rows id k) i.0 ≡ next_at rows i.0
        frame i ids h none = put_next_other rows id k here i.0 (λ e. times_in-none ids i (ap (times_in ids) e ∙ none) h)

        no_wait : (m : Lit) (j : ℕ) → j ≡ id.0 → waits a ws m j ≡ 0
        no_wait m j f = ap (λ n. cond (same_lit a m) n 0) (ap (times_in ws) f ∙ behind_none) ∙ zero_either (same_lit a m)

        list_here : (l : Lit) → k ≡ l → cond (same_lit k l) (id ∷ is.list l) (is.list l) ≡ id ∷ is.list l
        list_here l e = ap (λ (b : Bool). cond b (id ∷ is.list l) (is.list l)) (ap (same_lit k) (sym e) ∙ same_lit-self k)

        list_other : (l : Lit) → k ≢ l → cond (same_lit k l) (id ∷ is.list l) (is.list l) ≡ is.list l
        list_other l differs = ap (λ (b : Bool). cond b (id ∷ is.list l) (is.list l)) (not_same k l differs)

        row_at : (l : Lit) → (k ≡ l) ⊎ (k ≢ l) → IsRow (next_at (with_watch rows id k)) (head_of (with_watch rows id k) l) (cond (same_lit k l) (id ∷ is.list l) (is.list l))
        row_at l (inl e) =
            subst (IsRow (next_at (with_watch rows id k)) (head_of (with_watch rows id k) l)) (sym (list_here l e)) (
              ap (head_of (with_watch rows id k)) (sym e) ∙ put_head_same rows id k here heads,
              subst (λ (s : Option ClauseId). IsRow (next_at (with_watch rows id k)) s (is.list l)) (sym (put_next_same rows id k here ∙ ap (head_of rows) e))
                  (row_same (next_at rows) (next_at (with_watch rows id k)) (head_of rows l) (is.list l) (λ i h. frame i (is.list l) h (nowhere l)) (is.row l)),
            )
        row_at l (inr differs) =
            subst (IsRow (next_at (with_watch rows id k)) (head_of (with_watch rows id k) l)) (sym (list_other l differs))
            (subst (λ (s : Option ClauseId). IsRow (next_at (with_watch rows id k)) s (is.list l)) (sym (put_head_other rows id k here l (λ e. differs (sym e))))
            (row_same (next_at rows) (next_at (with_watch rows id k)) (head_of rows l) (is.list l) (λ i h. frame i (is.list l) h (nowhere l)) (is.row l)))

        exact_at : (l : Lit) (i : ℕ) → skip i ≡ false → (k ≡ l) ⊎ (k ≢ l) → (i ≡ id.0) ⊎ (i ≢ id.0)
            → times_in (cond (same_lit k l) (id ∷ is.list l) (is.list l)) i + waits a ws l i ≡ watch_count (clause_at slots i) (lit_at (with_watch rows id k) i) l
        exact_at l i stays way (inr differs) =
            let same_count : times_in (cond (same_lit k l) (id ∷ is.list l) (is.list l)) i ≡ times_in (is.list l) i = count_apart way in
            let same_waits : waits a ws l i ≡ waits a (id ∷ ws) l i = ap (λ n. cond (same_lit a l) n 0) (sym (times_other id ws i differs)) in
            let all : times_in (cond (same_lit k l) (id ∷ is.list l) (is.list l)) i + waits a ws l i ≡ times_in (is.list l) i + waits a (id ∷ ws) l i = omega (arith, same_count, same_waits) in
            all ∙ is.exact l i stays ∙ ap (λ (w : Lit). watch_count (clause_at slots i) w l) (sym (put_lit_other rows id k here i differs))
          where
            count_apart : (k ≡ l) ⊎ (k ≢ l) → times_in (cond (same_lit k l) (id ∷ is.list l) (is.list l)) i ≡ times_in (is.list l) i
            count_apart (inl e) = ap (λ (x : List ClauseId). times_in x i) (list_here l e) ∙ times_other id (is.list l) i differs
            count_apart (inr apart) = ap (λ (x : List ClauseId). times_in x i) (list_other l apart)
        exact_at l i stays (inl e) (inl same) =
            let counts : times_in (cond (same_lit k l) (id ∷ is.list l) (is.list l)) i ≡ 1 =
            ap (times_in (cond (same_lit k l) (id ∷ is.list l) (is.list l))) same ∙ ap (λ (x : List ClauseId). times_in x id.0) (list_here l e) ∙ times_same id (is.list l) ∙ ap (λ n. 1 + n) (nowhere l) in
            let still : waits a ws l i ≡ 0 = no_wait l i same in
            let one : watch_count (clause_at slots i) (lit_at (with_watch rows id k) i) l ≡ 1 =
            ap (λ (j : ℕ). watch_count (clause_at slots j) (lit_at (with_watch rows id k) j) l) same ∙ count_yes (clause_at slots id.0) at_hand.clause at_hand.member (lit_at (with_watch rows id k) id.0) l at_hand.present at_hand.has (put_lit_same rows id k here ∙ e) in
            omega (arith, counts, still, one)
        exact_at l i stays (inr differs) (inl same) =
            let counts : times_in (cond (same_lit k l) (id ∷ is.list l) (is.list l)) i ≡ 0 = ap (times_in (cond (same_lit k l) (id ∷ is.list l) (is.list l))) same ∙ ap (λ (x : List ClauseId). times_in x id.0) (list_other l differs) ∙ nowhere l in
            let still : waits a ws l i ≡ 0 = no_wait l i same in
            let none : watch_count (clause_at slots i) (lit_at (with_watch rows id k) i) l ≡ 0 =
            ap (λ (j : ℕ). watch_count (clause_at slots j) (lit_at (with_watch rows id k) j) l) same ∙ count_other (clause_at slots id.0) (lit_at (with_watch rows id k) id.0) l (λ f. differs (sym (put_lit_same rows id k here) ∙ f)) in
            omega (arith, counts, still, none)

        skipped_at : (l : Lit) (i : ℕ) → skip i ≡ true → (k ≡ l) ⊎ (k ≢ l) → (i ≡ id.0) ⊎ (i ≢ id.0) → times_in (cond (same_lit k l) (id ∷ is.list l) (is.list l)) i ≡ 0
        skipped_at l i goes way (inl same) = absurd (cc (goes, kept, same))
        skipped_at l i goes (inl e) (inr differs) = ap (λ (x : List ClauseId). times_in x i) (list_here l e) ∙ times_other id (is.list l) i differs ∙ is.skipped l i goes
        skipped_at l i goes (inr apart) (inr differs) = ap (λ (x : List ClauseId). times_in x i) (list_other l apart) ∙ is.skipped l i goes

-- where no clause waits the lists are whole again
pub traverse_end : (rows : Rows) (slots : Slots) (bools : ℕ) (a : Lit) (skip : ℕ → Bool) (start : Option ClauseId) (waiting : List ClauseId) → start ≡ None → ((i : ℕ) → skip i ≡ true → clause_at slots i ≡ None)
    → IsTraversing rows slots bools a skip start waiting → IsThreaded rows slots bools
traverse_end rows slots bools a skip start waiting none gone is =
    record {
      list = is.list;
      row = is.row;
      exact = λ l id. by_skip l id (skip id) refl;
      of_true = is.of_true;
      of_false = is.of_false;
      room = is.room;
    }
  where
    empty : waiting ≡ []
    empty = row_ends (next_at rows) start waiting none is.pending

    by_skip : (l : Lit) (id : ℕ) (b : Bool) → skip id ≡ b → times_in (is.list l) id ≡ watch_count (clause_at slots id) (lit_at rows id) l
    by_skip l id true e = is.skipped l id e ∙ sym (ap (λ (s : Option (List Lit)). watch_count s (lit_at rows id) l) (gone id e))
    by_skip l id false e =
        let still : waits a waiting l id ≡ 0 = ap (λ (ws : List ClauseId). waits a ws l id) empty ∙ zero_either (same_lit a l) in
        omega (arith, still, is.exact l id e)

-- no more wait than there is room for
pub traverse_fits : (rows : Rows) (slots : Slots) (bools : ℕ) (a : Lit) (skip : ℕ → Bool) (start : Option ClauseId) (waiting : List ClauseId) → IsTraversing rows slots bools a skip start waiting → length waiting ≤ length rows.watches
traverse_fits rows slots bools a skip start waiting is = fits_below (length rows.watches) waiting is.once is.within
