-- Going along the list of a literal without a change to it.
use Rattle.std.proofs.Common.{◌≡◌, ◌⊎◌, ℕ, ◌+◌, ◌<◌, ◌≤◌, true, false, List, [], length, take, get_or, position, unwrap_or, Option, Some, None, refl, sym, ap, subst, ◌∙◌, arith, inl, inr, Contains}
use Rattle.std.proofs.lemmas.List.Folds.{list_any_more}
use Rattle.lv_base.specs.declared.ids.Lit.{Lit}
use Rattle.lv_base.specs.declared.ids.ClauseId.{ClauseId}
use Rattle.lv_clauses.specs.Literals.{neg, same_var}
use Rattle.lv_clauses.specs.Marks.{is_marked}
use Rattle.lv_clauses.proofs.LiteralLemmas.{Contains-head, Contains-tail, Contains-cases, Contains-nil, any_member}
use Rattle.lv_ltms.specs.declared.labels.Link.{Link}
use Rattle.lv_ltms.specs.Trail.{same_lit}
use Rattle.lv_ltms.specs.Labelled.{Labelled, Agrees}
use Rattle.lv_ltms.specs.Watching.{Rows, head_of, next_at, lit_at, has_lit, IsRow, AreRows, InRow, AllInRow}
use Rattle.lv_ltms.specs.Standing.{true_before}
use Rattle.lv_ltms.proofs.BoolLemmas.{eq_is, not_true}
use Rattle.lv_ltms.proofs.LabelLemmas.{before_has}
use Rattle.lv_ltms.proofs.TrailLemmas.{same_lit-equal, or_cases}
use Rattle.lv_ltms.proofs.RowLemmas.{Begins, row_begins, row_one, row_ends, fits_below}
use Rattle.lv_ltms.proofs.ShakenLemmas.{before_fails}
use Rattle.lv_ltms.proofs.SweepingLemmas.{before_le}

-- what waits is of the list, and of all else of it this holds
pub record IsReading (near : Rows) (l : Lit) (size gone : ℕ) (start : Option ClauseId) (holds : ClauseId → Type 0) : Type 0 where
  pub waiting : List ClauseId
  pub row : IsRow (next_at near) start waiting
  pub fits : gone + length waiting ≤ size
  pub parts : (ids : List ClauseId) (id : ClauseId) → IsRow (next_at near) (head_of near l) ids → Contains ids id → Contains waiting id ⊎ holds id
  pub member : (id : ClauseId) → Contains waiting id → InRow near l id

pub reading_start : (near far : Rows) (l : Lit) (holds : ClauseId → Type 0) → AreRows near far → IsReading near l (length near.watches) 0 (head_of near l) holds
reading_start near far l holds rows =
    record {
      waiting = rows.list l;
      row = rows.row l;
      fits = omega (arith, fits_below (length near.watches) (rows.list l) (rows.once l) (rows.near_room l));
      parts = λ ids id row h. inl (subst (λ (x : List ClauseId). Contains x id) (row_one (next_at near) (head_of near l) ids (rows.list l) row (rows.row l)) h);
      member = λ id h ids row. subst (λ (x : List ClauseId). Contains x id) (row_one (next_at near) (head_of near l) (rows.list l) ids (rows.row l) row) h;
    }

module _ {near : Rows} {l : Lit} {size gone : ℕ} {start : Option ClauseId} {holds : ClauseId → Type 0} (is : IsReading near l size gone start holds) where
  pub reading_over : size ≤ gone → start ≡ None
  reading_over past = by_start start refl is.row
    where
      by_start : (s : Option ClauseId) → start ≡ s → IsRow (next_at near) start is.waiting → start ≡ None
      by_start None e row = e
      by_start (Some id) e row =
          let begins = row_begins (next_at near) start id is.waiting e row in
          absurd (omega (arith, is.fits, past, ap (λ (ws : List ClauseId). length ws) begins.is))

  pub reading_end : start ≡ None → AllInRow near l holds
  reading_end e ids id row h = elim (is.parts ids id row h) [
    | inl waits ↦ absurd (Contains-nil id (subst (λ (x : List ClauseId). Contains x id) (row_ends (next_at near) start is.waiting e is.row) waits))
    | inr holds_it ↦ holds_it
  ]

  module _ (id : ClauseId) (e : start ≡ Some id) where
    begins : Begins (next_at near) id is.waiting
    begins = row_begins (next_at near) start id is.waiting e is.row

    pub reading_in : InRow near l id
    reading_in = is.member id (subst (λ (x : List ClauseId). Contains x id) (sym begins.is) (Contains-head id begins.rest))

    pub reading_near : {far : Rows} → AreRows near far → id.0 < length near.watches
    reading_near rows = rows.near_room l id (reading_in (rows.list l) (rows.row l))

    pub reading_far : {far : Rows} → AreRows near far → id.0 < length far.watches
    reading_far rows = rows.far_room l id (reading_in (rows.list l) (rows.row l))

    pub reading_next : (now : ClauseId → Type 0) → ((i : ClauseId) → holds i → now i) → now id → IsReading near l size (gone + 1) (next_at near id.0) now
    reading_next now still here =
        record {
          waiting = begins.rest;
          row = begins.row;
          fits = omega (arith, is.fits, ap (λ (ws : List ClauseId). length ws) begins.is);
          parts = λ ids i row h. part i (is.parts ids i row h);
          member = λ i h. is.member i (subst (λ (x : List ClauseId). Contains x i) (sym begins.is) (Contains-tail id i begins.rest h));
        }
      where
        part : (i : ClauseId) → Contains is.waiting i ⊎ holds i → Contains begins.rest i ⊎ now i
        part i (inr held) = inr (still i held)
        part i (inl waits) = elim (Contains-cases id i begins.rest (subst (λ (x : List ClauseId). Contains x i) begins.is waits)) [
          | inl same ↦ inr (subst now same here)
          | inr rest ↦ inl rest
        ]

-- a literal that isn't true before a place isn't before an earlier one
pub not_before_le : (trail : List Link) (a b : ℕ) (l : Lit) → a ≤ b → true_before b trail l ≡ false → true_before a trail l ≡ false
not_before_le trail a b l less none = not_true (true_before a trail l) (λ e. cc (before_le trail a b l less e, none))

-- before the place of a literal's boolean the literal isn't false
pub clear_before : (trail : List Link) (l : Lit) (n : ℕ) → n ≤ unwrap_or (position (λ (k : Link). same_var k.lit l) trail) (length trail) → true_before n trail (neg l) ≡ false
clear_before trail l n less =
    not_before_le trail n (unwrap_or (position (λ (k : Link). same_var k.lit l) trail) (length trail)) (neg l) less
    (not_true (true_before (unwrap_or (position (λ (k : Link). same_var k.lit l) trail) (length trail)) trail (neg l))
    (λ e.
    let found = any_member (λ (k : Link). same_lit k.lit (neg l)) (take (unwrap_or (position (λ (k : Link). same_var k.lit l) trail) (length trail)) trail) e in
    cc (before_fails (λ (k : Link). same_var k.lit l) trail found.0 found.1, eq_is found.0.lit.var.0 l.var.0 (ap (λ (k : Lit). k.var.0) (same_lit-equal found.0.lit (neg l) found.2)))))

-- a literal that isn't false stands nowhere with the other sign
pub clear_unmarked : (labels : Labelled) (l : Lit) (n : ℕ) → Agrees labels.marks labels.supports labels.trail → is_marked labels.marks (neg l) ≡ false → true_before n labels.trail (neg l) ≡ false
clear_unmarked labels l n agrees q = not_true (true_before n labels.trail (neg l)) (λ e. cc (agrees.same (neg l), before_has n labels.trail (neg l) e, q))

-- among the first links none makes a literal false that a clause watches beside one of these
pub record IsCleared (near far : Rows) (trail : List Link) (lits : List Lit) (n : ℕ) : Type 0 where
  pub near_clear : (f : Lit) → has_lit lits f ≡ true → AllInRow near f (λ id. true_before n trail (neg (lit_at far id.0)) ≡ false)
  pub far_clear : (f : Lit) → has_lit lits f ≡ true → AllInRow far f (λ id. true_before n trail (neg (lit_at near id.0)) ≡ false)

pub cleared_none : (near far : Rows) (trail : List Link) (n : ℕ) → IsCleared near far trail [] n
cleared_none near far trail n = record { near_clear = λ f e. absurd (cc e); far_clear = λ f e. absurd (cc e) }

pub cleared_more : (near far : Rows) (trail : List Link) (lits : List Lit) (i : ℕ) (d : Lit) (old mid new : ℕ) → i < length lits → IsCleared near far trail (take i lits) old → mid ≤ old → new ≤ mid
    → AllInRow near (get_or lits i d) (λ id. true_before mid trail (neg (lit_at far id.0)) ≡ false) → AllInRow far (get_or lits i d) (λ id. true_before new trail (neg (lit_at near id.0)) ≡ false) → IsCleared near far trail (take (i + 1) lits) new
cleared_more near far trail lits i d old mid new within is less fewer first second =
    record {
      near_clear = λ f e ids id row h. elim (parts f e) [
        | inl before ↦ not_before_le trail new old (neg (lit_at far id.0)) (omega (arith, less, fewer)) (is.near_clear f before ids id row h)
        | inr same ↦ not_before_le trail new mid (neg (lit_at far id.0)) fewer (first ids id (subst (λ (l : Lit). IsRow (next_at near) (head_of near l) ids) (sym same) row) h)
      ];
      far_clear = λ f e ids id row h. elim (parts f e) [
        | inl before ↦ not_before_le trail new old (neg (lit_at near id.0)) (omega (arith, less, fewer)) (is.far_clear f before ids id row h)
        | inr same ↦ second ids id (subst (λ (l : Lit). IsRow (next_at far) (head_of far l) ids) (sym same) row) h
      ];
    }
  where
    parts : (f : Lit) → has_lit (take (i + 1) lits) f ≡ true → (has_lit (take i lits) f ≡ true) ⊎ (get_or lits i d ≡ f)
    parts f e = elim (or_cases (has_lit (take i lits) f) (same_lit (get_or lits i d) f) (sym (list_any_more (λ (k : Lit). same_lit k f) lits i d within) ∙ e)) [
      | inl before ↦ inl before
      | inr last ↦ inr (same_lit-equal (get_or lits i d) f last)
    ]
