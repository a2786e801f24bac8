-- What a link more does to the rows.
use Rattle.std.proofs.Common.{◌≡◌, ◌≢◌, ◌⊎◌, ℕ, ◌+◌, ◌-◌, ◌<◌, ◌≤◌, Bool, true, List, [], ◌∷◌, ◌++◌, length, take, get_or, set, sym, ap, subst, ◌∙◌, arith, inl, inr, Contains}
use Rattle.std.proofs.lemmas.Bool.{cases_eq}
use Rattle.std.proofs.lemmas.List.{take_more, length-append, get_or_append_left, get_or_push, get_or-set_same, get_or-set_other}
use Rattle.std.proofs.lemmas.List.Elements.{Contains-append_cases}
use Rattle.lv_base.specs.declared.ids.Lit.{Lit}
use Rattle.lv_base.specs.declared.ids.ClauseId.{ClauseId}
use Rattle.lv_clauses.proofs.LiteralLemmas.{Contains-nil, Contains-cases}
use Rattle.lv_last_values.specs.declared.occurrences.Link.{Link}
use Rattle.lv_last_values.specs.Rows.{Rows, row_of, head_of, id_of, link_at, Holds, here, later, Names}

abbrev link_blank : Link
link_blank = record { number = 0; next = 0 }

-- a link more leaves those before it as they were
link_kept : (links : List Link) (link : Link) (place : ℕ) → 0 < place → place ≤ length links → link_at (links ++ link ∷ []) place ≡ link_at links place
link_kept links link place some within = get_or_append_left links (link ∷ []) link_blank (place - 1) (omega (arith, some, within))

holds_more : (links : List Link) (link : Link) (id : ClauseId) (place : ℕ) → Holds links id place → Holds (links ++ link ∷ []) id place
holds_more links link id place (here some within is) = here some (omega (arith, within, length-append links (link ∷ []))) (ap id_of (link_kept links link place some within) ∙ is)
holds_more links link id place (later some within rest) =
    later some (omega (arith, within, length-append links (link ∷ [])))
    (subst (Holds (links ++ link ∷ []) id) (sym (ap (λ (k : Link). k.next) (link_kept links link place some within))) (holds_more links link id (link_at links place).next rest))

module _ (heads fitted : List ℕ) (links : List Link) (row : ℕ) (id : ClauseId) (same : (k : ℕ) → get_or fitted k 0 ≡ get_or heads k 0) (within : row < length fitted) where
  abbrev link : Link
  link = record { number = id.0; next = get_or fitted row 0 }

  abbrev more : List Link
  more = links ++ link ∷ []

  abbrev entered : List ℕ
  entered = set fitted row (length more)

  longer : length more ≡ length links + 1
  longer = length-append links (link ∷ [])

  last_link : link_at more (length more) ≡ link
  last_link = get_or_push links link link_blank (length more - 1) (omega (arith, longer))

  at_row : get_or entered row 0 ≡ length more
  at_row = get_or-set_same fitted row (length more) 0 within

  at_other : (k : ℕ) → k ≢ row → get_or entered k 0 ≡ get_or heads k 0
  at_other k differs = get_or-set_other fitted row k (length more) 0 differs ∙ same k

  names_more : (l : Lit) → row ≡ row_of l → Names (l ∷ []) id (record { heads = heads; links = links }) (record { heads = entered; links = more })
  names_more l is = record { kept = λ m k h. by_row m k h (cases_eq (row_of m) row); added = λ m h. by_lit m (Contains-cases l m [] h) }
    where
      some : 0 < length more
      some = omega (arith, longer)

      by_row : (m : Lit) (k : ClauseId) → Holds links k (head_of heads m) → (row_of m ≡ row) ⊎ (row_of m ≢ row) → Holds more k (head_of entered m)
      by_row m k h (inl this) =
          subst (Holds more k) (sym (ap (λ j. get_or entered j 0) this ∙ at_row))
          (later some (omega arith) (subst (Holds more k) (ap (λ j. get_or heads j 0) this ∙ sym (ap (λ (j : Link). j.next) last_link ∙ same row)) (holds_more links link k (head_of heads m) h)))
      by_row m k h (inr differs) = subst (Holds more k) (sym (at_other (row_of m) differs)) (holds_more links link k (head_of heads m) h)

      by_lit : (m : Lit) → (l ≡ m) ⊎ Contains [] m → Holds more id (head_of entered m)
      by_lit m (inl this) =
          subst (Holds more id) (sym (ap (λ j. get_or entered j 0) (ap row_of (sym this) ∙ sym is) ∙ at_row)) (here some (omega arith) (ap id_of last_link))
      by_lit m (inr h) = absurd (Contains-nil m h)

pub entered_names : (heads fitted now : List ℕ) (links new : List Link) (row : ℕ) (id : ClauseId) (l : Lit) → ((k : ℕ) → get_or fitted k 0 ≡ get_or heads k 0) → row < length fitted → new ≡ links ++ record { number = id.0; next = get_or fitted row 0 } ∷ []
    → now ≡ set fitted row (length new) → row ≡ row_of l → Names (l ∷ []) id (record { heads = heads; links = links }) (record { heads = now; links = new })
entered_names heads fitted now links new row id l same within is made here_is =
    subst (λ (hs : List ℕ). Names (l ∷ []) id (record { heads = heads; links = links }) (record { heads = hs; links = new })) (sym made)
    (subst (λ (ls : List Link). Names (l ∷ []) id (record { heads = heads; links = links }) (record { heads = set fitted row (length ls); links = ls })) (sym is) (names_more heads fitted links row id same within l here_is))

pub names_self : (id : ClauseId) (rows : Rows) → Names [] id rows rows
names_self id rows = record { kept = λ l k h. h; added = λ l h. absurd (Contains-nil l h) }

-- one literal more
pub names_then : (lits : List Lit) (at : ℕ) (d : Lit) (id : ClauseId) (old mid new : Rows) → at < length lits → Names (take at lits) id old mid → Names (get_or lits at d ∷ []) id mid new → Names (take (at + 1) lits) id old new
names_then lits at d id old mid new below first last =
    subst (λ ls. Names ls id old new) (sym (take_more lits at d below))
    (record {
      kept = λ m k h. last.kept m k (first.kept m k h);
      added = λ m h. elim (Contains-append_cases (take at lits) (get_or lits at d ∷ []) m h) [ inl before ↦ last.kept m id (first.added m before) | inr this ↦ last.added m this ];
    })

-- what a row holds from a place on is at that place or behind it
pub held_left : (links : List Link) (place : ℕ) (at : Link) (p : ClauseId → Bool) (id : ClauseId) → at ≡ link_at links place → p (id_of at) ≡ true → Holds links id place ⊎ (p id ≡ true) → Holds links id at.next ⊎ (p id ≡ true)
held_left links place at p id is e (inr holds) = inr holds
held_left links place at p id is e (inl (here some within same)) = inr (ap p (sym same ∙ sym (ap id_of is)) ∙ e)
held_left links place at p id is e (inl (later some within rest)) = inl (subst (λ (k : Link). Holds links id k.next) (sym is) rest)

pub held_end : (links : List Link) (place : ℕ) (id : ClauseId) (b : Bool) → place ≤ 0 → Holds links id place ⊎ (b ≡ true) → b ≡ true
held_end links place id b none (inr holds) = holds
held_end links place id b none (inl (here some within is)) = absurd (omega (arith, none, some))
held_end links place id b none (inl (later some within rest)) = absurd (omega (arith, none, some))
