-- Lists that run through the watches: what is written to one clause's watch leaves all lists as they are that it isn't in.
use Rattle.std.proofs.Common.{◌≡◌, ◌≢◌, ◌⊎◌, ℕ, ◌+◌, ◌<◌, ◌≤◌, suc, zero, Bool, true, false, not, nat_eq, List, [], ◌∷◌, ◌++◌, length, filter, cond, get_or, set, Option, Some, None, refl, sym, ap, subst, ◌∙◌, arith, inl, inr, Contains}
use Rattle.std.proofs.lemmas.Bool.{cases_eq}
use Rattle.std.proofs.lemmas.List.{length-set, get_or-set_same, get_or-set_other}
use Rattle.lv_base.specs.declared.ids.Lit.{Lit}
use Rattle.lv_base.specs.declared.ids.ClauseId.{ClauseId}
use Rattle.lv_clauses.proofs.LiteralLemmas.{Contains-head, Contains-tail, Contains-cases, Contains-nil, lit_of}
use Rattle.lv_ltms.specs.declared.watchers.Watch.{Watch}
use Rattle.lv_ltms.specs.Watching.{Rows, clause_of, next_of, last, blank, heads_of, head_at, head_of, lit_at, next_at, with_head, with_head_of, with_watch, times_in, has_number, IsRow}
use Rattle.lv_ltms.proofs.BoolLemmas.{eq_is}
use Rattle.lv_ltms.proofs.CountLemmas.{count_yes, count_no}

pub row_same : (next after : ℕ → Option ClauseId) (start : Option ClauseId) (ids : List ClauseId) → ((id : ClauseId) → Contains ids id → after id.0 ≡ next id.0) → IsRow next start ids → IsRow after start ids
row_same next after start [] same row = row
row_same next after start (id ∷ ids) same row =
    (row.0, subst (λ (s : Option ClauseId). IsRow after s ids) (sym (same id (Contains-head id ids))) (row_same next after (next id.0) ids (λ i h. same i (Contains-tail id i ids h)) row.1))

pub row_one : (next : ℕ → Option ClauseId) (start : Option ClauseId) (xs ys : List ClauseId) → IsRow next start xs → IsRow next start ys → xs ≡ ys
row_one next start [] [] p q = refl
row_one next start [] (y ∷ ys) p q = absurd (cc (p, q.0))
row_one next start (x ∷ xs) [] p q = absurd (cc (q, p.0))
row_one next start (x ∷ xs) (y ∷ ys) p q =
    let same : x ≡ y = some_is (sym p.0 ∙ q.0) in
    ap (λ (z : ClauseId). z ∷ xs) same ∙ ap (λ (zs : List ClauseId). y ∷ zs) (row_one next (next x.0) xs ys p.1 (subst (λ (z : ClauseId). IsRow next (next z.0) ys) (sym same) q.1))
  where
    some_is : {a b : ClauseId} → Some a ≡ Some b → a ≡ b
    some_is e = cc

pub record Begins (next : ℕ → Option ClauseId) (id : ClauseId) (ids : List ClauseId) : Type 0 where
  pub rest : List ClauseId
  pub is : ids ≡ id ∷ rest
  pub row : IsRow next (next id.0) rest

pub row_begins : (next : ℕ → Option ClauseId) (start : Option ClauseId) (id : ClauseId) (ids : List ClauseId) → start ≡ Some id → IsRow next start ids → Begins next id ids
row_begins next start id [] e row = absurd (cc (row, e))
row_begins next start id (x ∷ xs) e row =
    let same : x ≡ id = some_is (sym row.0 ∙ e) in
    record { rest = xs; is = ap (λ (z : ClauseId). z ∷ xs) same; row = subst (λ (z : ClauseId). IsRow next (next z.0) xs) same row.1 }
  where
    some_is : {a b : ClauseId} → Some a ≡ Some b → a ≡ b
    some_is f = cc

pub row_ends : (next : ℕ → Option ClauseId) (start : Option ClauseId) (ids : List ClauseId) → start ≡ None → IsRow next start ids → ids ≡ []
row_ends next start [] e row = refl
row_ends next start (x ∷ xs) e row = absurd (cc (row.0, e))

-- numbers below a bound, none of them twice, are no more than it
length_parts : (n : ℕ) (ids : List ClauseId) → length ids ≡ times_in ids n + length (filter (λ (i : ClauseId). not (nat_eq i.0 n)) ids)
length_parts n [] = refl
length_parts n (i ∷ is) = by_value (nat_eq i.0 n) refl (length_parts n is)
  where
    by_value : (b : Bool) → nat_eq i.0 n ≡ b → length is ≡ times_in is n + length (filter (λ (j : ClauseId). not (nat_eq j.0 n)) is)
        → suc (length is) ≡ times_in (i ∷ is) n + length (cond (not (nat_eq i.0 n)) (i ∷ filter (λ (j : ClauseId). not (nat_eq j.0 n)) is) (filter (λ (j : ClauseId). not (nat_eq j.0 n)) is))
    by_value true e ih =
        let rest : length (cond (not (nat_eq i.0 n)) (i ∷ filter (λ (j : ClauseId). not (nat_eq j.0 n)) is) (filter (λ (j : ClauseId). not (nat_eq j.0 n)) is)) ≡ length (filter (λ (j : ClauseId). not (nat_eq j.0 n)) is) =
        ap (λ (b : Bool). length (cond (not b) (i ∷ filter (λ (j : ClauseId). not (nat_eq j.0 n)) is) (filter (λ (j : ClauseId). not (nat_eq j.0 n)) is))) e in
        omega (arith, ih, count_yes (has_number n) i is e, rest)
    by_value false e ih =
        let rest : length (cond (not (nat_eq i.0 n)) (i ∷ filter (λ (j : ClauseId). not (nat_eq j.0 n)) is) (filter (λ (j : ClauseId). not (nat_eq j.0 n)) is)) ≡ suc (length (filter (λ (j : ClauseId). not (nat_eq j.0 n)) is)) =
        ap (λ (b : Bool). length (cond (not b) (i ∷ filter (λ (j : ClauseId). not (nat_eq j.0 n)) is) (filter (λ (j : ClauseId). not (nat_eq j.0 n)) is))) e in
        omega (arith, ih, count_no (has_number n) i is e, rest)

filter_times : (n : ℕ) (ids : List ClauseId) (id : ℕ) → times_in (filter (λ (i : ClauseId). not (nat_eq i.0 n)) ids) id ≤ times_in ids id
filter_times n [] id = omega arith
filter_times n (i ∷ is) id = by_value (nat_eq i.0 n) refl (filter_times n is id)
  where
    kept : (b : Bool) → nat_eq i.0 id ≡ b → times_in (filter (λ (j : ClauseId). not (nat_eq j.0 n)) is) id ≤ times_in is id → times_in (i ∷ filter (λ (j : ClauseId). not (nat_eq j.0 n)) is) id ≤ times_in (i ∷ is) id
    kept true e ih = omega (arith, ih, count_yes (has_number id) i is e, count_yes (has_number id) i (filter (λ (j : ClauseId). not (nat_eq j.0 n)) is) e)
    kept false e ih = omega (arith, ih, count_no (has_number id) i is e, count_no (has_number id) i (filter (λ (j : ClauseId). not (nat_eq j.0 n)) is) e)

    more : (b : Bool) → nat_eq i.0 id ≡ b → times_in is id ≤ times_in (i ∷ is) id
    more true e = omega (arith, count_yes (has_number id) i is e)
    more false e = omega (arith, count_no (has_number id) i is e)

    by_value : (b : Bool) → nat_eq i.0 n ≡ b → times_in (filter (λ (j : ClauseId). not (nat_eq j.0 n)) is) id ≤ times_in is id
        → times_in (cond (not (nat_eq i.0 n)) (i ∷ filter (λ (j : ClauseId). not (nat_eq j.0 n)) is) (filter (λ (j : ClauseId). not (nat_eq j.0 n)) is)) id ≤ times_in (i ∷ is) id
    by_value true e ih = rw e (omega (arith, ih, more (nat_eq i.0 id) refl))
    by_value false e ih = rw e (kept (nat_eq i.0 id) refl ih)

filter_below : (n : ℕ) (ids : List ClauseId) → ((id : ClauseId) → Contains ids id → id.0 < n + 1) → (id : ClauseId) → Contains (filter (λ (i : ClauseId). not (nat_eq i.0 n)) ids) id → id.0 < n
filter_below n [] below id h = absurd (Contains-nil id h)
filter_below n (i ∷ is) below id h = by_value (nat_eq i.0 n) refl h (filter_below n is (λ j g. below j (Contains-tail i j is g)))
  where
    apart : nat_eq i.0 n ≡ false → i.0 < n
    apart e = elim (cases_eq i.0 n) [
      | inl same ↦ absurd (cc (eq_is i.0 n same, e))
      | inr differs ↦ omega (arith, differs, below i (Contains-head i is))
    ]

    by_value : (b : Bool) → nat_eq i.0 n ≡ b → Contains (cond (not (nat_eq i.0 n)) (i ∷ filter (λ (j : ClauseId). not (nat_eq j.0 n)) is) (filter (λ (j : ClauseId). not (nat_eq j.0 n)) is)) id
        → ((j : ClauseId) → Contains (filter (λ (k : ClauseId). not (nat_eq k.0 n)) is) j → j.0 < n) → id.0 < n
    by_value true e k ih = ih id (rw e at k)
    by_value false e k ih = elim (Contains-cases i id (filter (λ (j : ClauseId). not (nat_eq j.0 n)) is) (rw e at k)) [
      | inl same ↦ subst (λ (j : ClauseId). j.0 < n) same (apart e)
      | inr rest ↦ ih id rest
    ]

pub fits_below : (n : ℕ) (ids : List ClauseId) → ((id : ℕ) → times_in ids id ≤ 1) → ((id : ClauseId) → Contains ids id → id.0 < n) → length ids ≤ n
fits_below zero [] once below = omega arith
fits_below zero (i ∷ is) once below = absurd (omega (arith, below i (Contains-head i is)))
fits_below (suc n) ids once below =
    omega (
      arith,
      length_parts n ids,
      once n,
      fits_below n (filter (λ (i : ClauseId). not (nat_eq i.0 n)) ids) (λ id. omega (arith, once id, filter_times n ids id))
          (filter_below n ids (λ id h. omega (arith, below id h))),
    )

-- a clause or none is read back as it was written
pub clause_again : (c : Option ClauseId) → clause_of (next_of c) ≡ c
clause_again None = refl
clause_again (Some id) = refl

-- what another first clause of a literal changes
module _ (rows : Rows) (l : Lit) (first : Option ClauseId) where
  pub head_watches : (with_head rows l first).watches ≡ rows.watches
  head_watches = by_sign l.sign
    where
      by_sign : (b : Bool) → (with_head_of rows b l.var.0 (next_of first)).watches ≡ rows.watches
      by_sign true = refl
      by_sign false = refl

  pub head_same : l.var.0 < length (heads_of rows l.sign) → head_of (with_head rows l first) l ≡ first
  head_same within = ap clause_of (by_sign l.sign within) ∙ clause_again first
    where
      by_sign : (b : Bool) → l.var.0 < length (heads_of rows b) → get_or (heads_of (with_head_of rows b l.var.0 (next_of first)) b) l.var.0 last ≡ next_of first
      by_sign true h = get_or-set_same rows.of_true l.var.0 (next_of first) last h
      by_sign false h = get_or-set_same rows.of_false l.var.0 (next_of first) last h

  pub head_other : (m : Lit) → m ≢ l → head_of (with_head rows l first) m ≡ head_of rows m
  head_other m differs = ap clause_of (by_signs l.sign m.sign (cases_eq m.var.0 l.var.0) (λ v s. differs (lit_of m l v s)))
    where
      by_signs : (a b : Bool) → (m.var.0 ≡ l.var.0) ⊎ (m.var.0 ≢ l.var.0) → (m.var.0 ≡ l.var.0 → b ≡ a → ⊥) → get_or (heads_of (with_head_of rows a l.var.0 (next_of first)) b) m.var.0 last ≡ get_or (heads_of rows b) m.var.0 last
      by_signs true true (inl v) never = absurd (never v refl)
      by_signs true true (inr v) never = get_or-set_other rows.of_true l.var.0 m.var.0 (next_of first) last v
      by_signs true false way never = refl
      by_signs false true way never = refl
      by_signs false false (inl v) never = absurd (never v refl)
      by_signs false false (inr v) never = get_or-set_other rows.of_false l.var.0 m.var.0 (next_of first) last v

  pub head_next : (i : ℕ) → next_at (with_head rows l first) i ≡ next_at rows i
  head_next i = ap (λ (ws : List Watch). clause_of (get_or ws i blank).next) head_watches

  pub head_lit : (i : ℕ) → lit_at (with_head rows l first) i ≡ lit_at rows i
  head_lit i = ap (λ (ws : List Watch). (get_or ws i blank).lit) head_watches

  pub head_of_true : length (with_head rows l first).of_true ≡ length rows.of_true
  head_of_true = by_sign l.sign
    where
      by_sign : (b : Bool) → length (with_head_of rows b l.var.0 (next_of first)).of_true ≡ length rows.of_true
      by_sign true = length-set rows.of_true l.var.0 (next_of first)
      by_sign false = refl

  pub head_of_false : length (with_head rows l first).of_false ≡ length rows.of_false
  head_of_false = by_sign l.sign
    where
      by_sign : (b : Bool) → length (with_head_of rows b l.var.0 (next_of first)).of_false ≡ length rows.of_false
      by_sign true = refl
      by_sign false = length-set rows.of_false l.var.0 (next_of first)

-- what another watch of a clause changes
module _ (rows : Rows) (id : ClauseId) (l : Lit) (room : id.0 < length rows.watches) where
  abbrev pub written : Rows
  written = record { of_true = rows.of_true; of_false = rows.of_false; watches = set rows.watches id.0 (record { lit = l; next = head_at rows l }) }

  pub put_lit_same : lit_at (with_watch rows id l) id.0 ≡ l
  put_lit_same = head_lit written l (Some id) id.0 ∙ ap (λ (w : Watch). w.lit) (get_or-set_same rows.watches id.0 (record { lit = l; next = head_at rows l }) blank room)

  pub put_lit_other : (i : ℕ) → i ≢ id.0 → lit_at (with_watch rows id l) i ≡ lit_at rows i
  put_lit_other i differs = head_lit written l (Some id) i ∙ ap (λ (w : Watch). w.lit) (get_or-set_other rows.watches id.0 i (record { lit = l; next = head_at rows l }) blank differs)

  pub put_next_same : next_at (with_watch rows id l) id.0 ≡ head_of rows l
  put_next_same = head_next written l (Some id) id.0 ∙ ap (λ (w : Watch). clause_of w.next) (get_or-set_same rows.watches id.0 (record { lit = l; next = head_at rows l }) blank room)

  pub put_next_other : (i : ℕ) → i ≢ id.0 → next_at (with_watch rows id l) i ≡ next_at rows i
  put_next_other i differs = head_next written l (Some id) i ∙ ap (λ (w : Watch). clause_of w.next) (get_or-set_other rows.watches id.0 i (record { lit = l; next = head_at rows l }) blank differs)

  pub put_size : length (with_watch rows id l).watches ≡ length rows.watches
  put_size = ap (λ (x : List Watch). length x) (head_watches written l (Some id)) ∙ length-set rows.watches id.0 (record { lit = l; next = head_at rows l })

  pub put_head_same : l.var.0 < length (heads_of rows l.sign) → head_of (with_watch rows id l) l ≡ Some id
  put_head_same within = head_same written l (Some id) (by_sign l.sign within)
    where
      by_sign : (b : Bool) → l.var.0 < length (heads_of rows b) → l.var.0 < length (heads_of written b)
      by_sign true h = h
      by_sign false h = h

  pub put_head_other : (m : Lit) → m ≢ l → head_of (with_watch rows id l) m ≡ head_of rows m
  put_head_other m differs = head_other written l (Some id) m differs ∙ ap clause_of (by_sign m.sign)
    where
      by_sign : (b : Bool) → get_or (heads_of written b) m.var.0 last ≡ get_or (heads_of rows b) m.var.0 last
      by_sign true = refl
      by_sign false = refl

-- a blank watch more changes nothing
pub blank_behind : (ws : List Watch) (i : ℕ) → get_or (ws ++ blank ∷ []) i blank ≡ get_or ws i blank
blank_behind [] zero = refl
blank_behind [] (suc i) = refl
blank_behind (w ∷ ws) zero = refl
blank_behind (w ∷ ws) (suc i) = blank_behind ws i
