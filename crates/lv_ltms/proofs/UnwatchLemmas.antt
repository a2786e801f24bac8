-- A clause is taken out of the list that it stands in: all others are put back.
use Rattle.std.proofs.Common.{◌≡◌, ◌≢◌, ◌⊎◌, ℕ, ◌+◌, ◌<◌, ◌≤◌, Bool, nat_eq, List, [], ◌∷◌, length, set, Option, Some, None, IsSome, refl, sym, ap, subst, ◌∙◌, arith, inl, inr}
use Rattle.std.proofs.lemmas.Bool.{cases_eq, cases_lt}
use Rattle.std.proofs.lemmas.List.{get_or-set_same, get_or-set_other, get_or_past, length-set}
use Rattle.lv_base.specs.declared.ids.Lit.{Lit}
use Rattle.lv_base.specs.declared.ids.ClauseId.{ClauseId}
use Rattle.lv_clauses.specs.ClauseMap.{Slots, clause_at}
use Rattle.lv_clauses.proofs.LiteralLemmas.{Contains-head}
use Rattle.lv_ltms.specs.Watching.{Rows, head_of, lit_at, next_at, with_head, with_watch, IsRow, watch_count, IsThreaded}
use Rattle.lv_ltms.proofs.BoolLemmas.{eq_from, eq_is, eq_isnt}
use Rattle.lv_ltms.proofs.RowLemmas.{Begins, row_begins, head_lit, put_lit_same, put_lit_other, put_size}
use Rattle.lv_ltms.proofs.TraverseLemmas.{IsTraversing, at_hand, traverse_start, traverse_put, traverse_skip, traverse_end, traverse_fits}

abbrev pub is_gone : ClauseId → ℕ → Bool
is_gone id i = nat_eq i id.0

pub record IsUnwatching (slots : Slots) (bools : ℕ) (old : Rows) (id : ClauseId) (a : Lit) (size gone : ℕ) (rows : Rows) (start : Option ClauseId) : Type 0 where
  pub waiting : List ClauseId
  pub traversing : IsTraversing rows slots bools a (is_gone id) start waiting
  pub fits : gone + length waiting ≤ size
  pub room : length rows.watches ≡ size
  pub same : (i : ℕ) → lit_at rows i ≡ lit_at old i

pub set_gone : (slots : Slots) (id : ℕ) → clause_at (set slots id None) id ≡ None
set_gone slots id = elim (cases_lt id (length slots)) [
  | inl within ↦ get_or-set_same slots id None None within
  | inr past ↦ get_or_past (set slots id None) id None (omega (arith, past, length-set slots id None))
]

pub set_kept : (slots : Slots) (id i : ℕ) → i ≢ id → clause_at (set slots id None) i ≡ clause_at slots i
set_kept slots id i differs = get_or-set_other slots id i None None differs

some_before : (slots : Slots) (id i : ℕ) → IsSome (clause_at (set slots id None) i) → IsSome (clause_at slots i)
some_before slots id i some = elim (cases_eq i id) [
  | inl same ↦ absurd (no_some (clause_at (set slots id None) i) (ap (clause_at (set slots id None)) same ∙ set_gone slots id) some)
  | inr differs ↦ subst IsSome (set_kept slots id i differs) some
]
  where
    no_some : {X : Type 0} (o : Option X) → o ≡ None → IsSome o → ⊥
    no_some None e f = absurd (cc f)
    no_some (Some x) e f = cc e

pub unwatch_start : (slots : Slots) (bools : ℕ) (old : Rows) (id : ClauseId) → IsThreaded old slots bools → (lit_at old id.0).var.0 < bools
    → IsUnwatching (set slots id.0 None) bools old id (lit_at old id.0) (length (with_head old (lit_at old id.0) None).watches) 0 (with_head old (lit_at old id.0) None) (head_of old (lit_at old id.0))
unwatch_start slots bools old id is range =
    let traversing =
    traverse_start old slots (set slots id.0 None) bools (lit_at old id.0) (is_gone id) range (λ i e. set_kept slots id.0 i (λ f. cc (eq_is i id.0 f, e))) (λ i e. ap (lit_at old) (eq_from i id.0 e)) (some_before slots id.0) is in
    record {
      waiting = is.list (lit_at old id.0);
      traversing = traversing;
      fits = omega (arith, traverse_fits (with_head old (lit_at old id.0) None) (set slots id.0 None) bools (lit_at old id.0) (is_gone id) (head_of old (lit_at old id.0)) (is.list (lit_at old id.0)) traversing);
      room = refl;
      same = λ i. head_lit old (lit_at old id.0) None i;
    }

module _ {slots : Slots} {bools : ℕ} {old : Rows} {id : ClauseId} {a : Lit} {size gone : ℕ} {rows : Rows} {start : Option ClauseId} (is : IsUnwatching slots bools old id a size gone rows start) where
  pub unwatch_over : size ≤ gone → start ≡ None
  unwatch_over past = by_start start refl is.traversing.pending
    where
      by_start : (s : Option ClauseId) → start ≡ s → IsRow (next_at rows) start is.waiting → start ≡ None
      by_start None e row = e
      by_start (Some i) e row =
          let begins = row_begins (next_at rows) start i is.waiting e row in
          absurd (omega (arith, is.fits, past, ap (λ (ws : List ClauseId). length ws) begins.is))

  pub unwatch_end : clause_at slots id.0 ≡ None → start ≡ None → IsThreaded rows slots bools
  unwatch_end none e = traverse_end rows slots bools a (is_gone id) start is.waiting e (λ i f. ap (clause_at slots) (eq_from i id.0 f) ∙ none) is.traversing

  module _ (other : ClauseId) (e : start ≡ Some other) where
    begins : Begins (next_at rows) other is.waiting
    begins = row_begins (next_at rows) start other is.waiting e is.traversing.pending

    hand : IsTraversing rows slots bools a (is_gone id) (Some other) (other ∷ begins.rest)
    hand =
        subst (λ (ws : List ClauseId). IsTraversing rows slots bools a (is_gone id) (Some other) ws) begins.is
        (subst (λ (s : Option ClauseId). IsTraversing rows slots bools a (is_gone id) s is.waiting) e is.traversing)

    pub unwatch_room : other.0 < length rows.watches
    unwatch_room = hand.within other (Contains-head other begins.rest)

    fits_on : gone + 1 + length begins.rest ≤ size
    fits_on = omega (arith, is.fits, ap (λ (ws : List ClauseId). length ws) begins.is)

    pub unwatch_skip : other.0 ≡ id.0 → IsUnwatching slots bools old id a size (gone + 1) rows (next_at rows other.0)
    unwatch_skip same =
        record {
          waiting = begins.rest;
          traversing = traverse_skip rows slots bools a (is_gone id) other begins.rest hand (eq_is other.0 id.0 same);
          fits = fits_on;
          room = is.room;
          same = is.same;
        }

    pub unwatch_put : other.0 ≢ id.0 → a.var.0 < bools → IsUnwatching slots bools old id a size (gone + 1) (with_watch rows other a) (next_at rows other.0)
    unwatch_put differs range =
        record {
          waiting = begins.rest;
          traversing = traverse_put rows slots bools a (is_gone id) other begins.rest hand (eq_isnt other.0 id.0 differs) a range;
          fits = fits_on;
          room = put_size rows other a unwatch_room ∙ is.room;
          same = λ i. elim (cases_eq i other.0) [
            | inl same ↦
                ap (lit_at (with_watch rows other a)) same
                ∙ put_lit_same rows other a unwatch_room
                ∙ sym (at_hand rows slots bools a (is_gone id) other begins.rest hand (eq_isnt other.0 id.0 differs)).is
                ∙ sym (ap (lit_at rows) same)
                ∙ is.same i
            | inr apart ↦ put_lit_other rows other a unwatch_room i apart ∙ is.same i
          ];
        }

pub unwatch_same : {slots : Slots} {bools : ℕ} {old : Rows} {id : ClauseId} {a : Lit} {size gone : ℕ} {r rows : Rows} {s start : Option ClauseId} → r ≡ rows → s ≡ start
    → IsUnwatching slots bools old id a size gone rows start → IsUnwatching slots bools old id a size gone r s
unwatch_same {slots} {bools} {old} {id} {a} {size} {gone} {r} {rows} {s} {start} er es is =
    subst (λ (x : Rows). IsUnwatching slots bools old id a size gone x s) (sym er) (subst (λ (x : Option ClauseId). IsUnwatching slots bools old id a size gone rows x) (sym es) is)

-- a clause without literals watches none, so that nothing has to go
pub unwatch_empty : (slots : Slots) (bools : ℕ) (rows : Rows) (id : ℕ) → clause_at slots id ≡ Some [] → IsThreaded rows slots bools → IsThreaded rows (set slots id None) bools
unwatch_empty slots bools rows id at is =
    record {
      list = is.list;
      row = is.row;
      exact = λ l i. is.exact l i ∙ count_at l i (cases_eq i id);
      of_true = is.of_true;
      of_false = is.of_false;
      room = λ i some. is.room i (some_before slots id i some);
    }
  where
    count_at : (l : Lit) (i : ℕ) → (i ≡ id) ⊎ (i ≢ id) → watch_count (clause_at slots i) (lit_at rows i) l ≡ watch_count (clause_at (set slots id None) i) (lit_at rows i) l
    count_at l i (inl same) =
        ap (λ (s : Option (List Lit)). watch_count s (lit_at rows i) l) (ap (clause_at slots) same ∙ at) ∙ sym (ap (λ (s : Option (List Lit)). watch_count s (lit_at rows i) l) (ap (clause_at (set slots id None)) same ∙ set_gone slots id))
    count_at l i (inr differs) = ap (λ (s : Option (List Lit)). watch_count s (lit_at rows i) l) (sym (set_kept slots id i differs))
