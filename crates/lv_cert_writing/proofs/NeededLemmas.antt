-- Marking the steps that hints name.
use Rattle.std.proofs.Common.{◌≡◌, ◌<◌, ◌≤◌, ◌-◌, ℕ, Bool, true, false, nat_lt, List, [], ◌∷◌, length, set, Some, slice_get, refl, sym, ap, subst, ◌∙◌, arith, inl, inr}
use Rattle.std.specs.List.{list_all}
use Rattle.std.proofs.lemmas.Bool.{and_parts, and_from, cases_eq}
use Rattle.std.proofs.lemmas.Bool.Decides.{nat_tests}
use Rattle.std.proofs.lemmas.List.{get_or-set_same, get_or-set_other, length-set}
use Rattle.lv_clauses.specs.declared.log.Hint.{Hint}
use Rattle.lv_clauses.specs.declared.log.Hint.TheVariants.{Given, Earlier}
use Rattle.lv_clauses.specs.declared.log.Step.{Step}
use Rattle.lv_cert_writing.specs.Needed.{is_marked, with_named, named_marked, has_named, AreNeeded}

-- what is marked in one list is marked in the other
record Keeps (one other : List Bool) : Type 0 where
  kept : (k : ℕ) → is_marked one k ≡ true → is_marked other k ≡ true

-- from this place on both have the same marks
record IsSameFrom (place : ℕ) (one other : List Bool) : Type 0 where
  same : (k : ℕ) → place ≤ k → is_marked other k ≡ is_marked one k

-- a mark that is set
set_keeps : (needed : List Bool) (at : ℕ) → at < length needed → Keeps needed (set needed at true)
set_keeps needed at within = record { kept = kept }
  where
    kept : (k : ℕ) → is_marked needed k ≡ true → is_marked (set needed at true) k ≡ true
    kept k e = elim (cases_eq k at) [
      | inl same ↦ ap (is_marked (set needed at true)) same ∙ get_or-set_same needed at true false within
      | inr other ↦ get_or-set_other needed at k true false other ∙ e
    ]

-- one hint
module _ (place : ℕ) (needed : List Bool) (within : place ≤ length needed) where
  one_len : (h : Hint) → length (with_named place needed h) ≡ length needed
  one_len (Given id) = refl
  one_len (Earlier earlier) = by (nat_lt earlier place) refl
    where
      by : (b : Bool) → nat_lt earlier place ≡ b → length (with_named place needed (Earlier earlier)) ≡ length needed
      by false e = rw e refl
      by true e = rw e (length-set needed earlier true)

  one_keeps : (h : Hint) → Keeps needed (with_named place needed h)
  one_keeps (Given id) = record { kept = λ k e. e }
  one_keeps (Earlier earlier) = by (nat_lt earlier place) refl
    where
      by : (b : Bool) → nat_lt earlier place ≡ b → Keeps needed (with_named place needed (Earlier earlier))
      by false e = rw e (record { kept = λ k f. f })
      by true e =
          let below : earlier < length needed = grind (arith, nat_tests, e, within) in
          rw e (set_keeps needed earlier below)

  one_above : (h : Hint) → IsSameFrom place needed (with_named place needed h)
  one_above (Given id) = record { same = λ k above. refl }
  one_above (Earlier earlier) = by (nat_lt earlier place) refl
    where
      by : (b : Bool) → nat_lt earlier place ≡ b → IsSameFrom place needed (with_named place needed (Earlier earlier))
      by false e = rw e (record { same = λ k above. refl })
      by true e =
          let below : earlier < place = grind (arith, nat_tests, e) in
          rw e (record { same = λ k above. get_or-set_other needed earlier k true false (omega (arith, below, above)) })

  one_has : (h : Hint) → has_named (with_named place needed h) place h ≡ true
  one_has (Given id) = refl
  one_has (Earlier earlier) = by (nat_lt earlier place) refl
    where
      by : (b : Bool) → nat_lt earlier place ≡ b → has_named (with_named place needed (Earlier earlier)) place (Earlier earlier) ≡ true
      by false e = rw e refl
      by true e =
          let below : earlier < length needed = grind (arith, nat_tests, e, within) in
          rw e (get_or-set_same needed earlier true false below)

has_kept : (one other : List Bool) → Keeps one other → (place : ℕ) (h : Hint) → has_named one place h ≡ true → has_named other place h ≡ true
has_kept one other keeps place (Given id) e = refl
has_kept one other keeps place (Earlier earlier) e = by (nat_lt earlier place) refl
  where
    by : (b : Bool) → nat_lt earlier place ≡ b → has_named other place (Earlier earlier) ≡ true
    by false f = rw f refl
    by true f = let had : is_marked one earlier ≡ true = rw f at e in rw f (keeps.kept earlier had)

all_kept : (one other : List Bool) → Keeps one other → (place : ℕ) (hs : List Hint) → list_all (has_named one place) hs ≡ true → list_all (has_named other place) hs ≡ true
all_kept one other keeps place [] e = refl
all_kept one other keeps place (h ∷ hs) e =
    let parts = and_parts (has_named one place h) (list_all (has_named one place) hs) e in
    and_from (has_named other place h) (list_all (has_named other place) hs) (has_kept one other keeps place h parts.0) (all_kept one other keeps place hs parts.1)

-- all hints
record Marks (place : ℕ) (hs : List Hint) (one other : List Bool) : Type 0 where
  len : length other ≡ length one
  keeps : Keeps one other
  above : IsSameFrom place one other
  has : list_all (has_named other place) hs ≡ true

marks_all : (place : ℕ) (hs : List Hint) (needed : List Bool) → place ≤ length needed → Marks place hs needed (named_marked place needed hs)
marks_all place [] needed within = record { len = refl; keeps = record { kept = λ k e. e }; above = record { same = λ k above. refl }; has = refl }
marks_all place (h ∷ hs) needed within =
    let next : List Bool = with_named place needed h in
    let within_next : place ≤ length next = let same = one_len place needed within h in omega (arith, same, within) in
    let rest : Marks place hs next (named_marked place next hs) = marks_all place hs next within_next in
    record {
      len = rest.len ∙ one_len place needed within h;
      keeps = record { kept = λ k e. rest.keeps.kept k ((one_keeps place needed within h).kept k e) };
      above = record { same = λ k above. rest.above.same k above ∙ (one_above place needed within h).same k above };
      has =
          and_from (has_named (named_marked place next hs) place h) (list_all (has_named (named_marked place next hs) place) hs)
          (has_kept next (named_marked place next hs) rest.keeps place h (one_has place needed within h)) rest.has;
    }

-- the marked step before these
pub needed_next : (log : List Step) (needed more : List Bool) (from : ℕ) (s : Step) (hints : List Hint) → 0 < from → from ≤ length log → slice_get log (from - 1) ≡ Some s → hints ≡ s.hints
    → more ≡ named_marked (from - 1) needed hints → AreNeeded log needed from → AreNeeded log more (from - 1)
needed_next log needed more from s hints some within at are_hints made are =
    record { len = marks.len ∙ are.len; last = marks.keeps.kept (length log - 1) are.last; named = named }
  where
    place : ℕ
    place = from - 1

    marks : Marks place hints needed more
    marks = subst (λ (ms : List Bool). Marks place hints needed ms) (sym made) (marks_all place hints needed (let long = are.len in omega (arith, long, within)))

    named : (k : ℕ) (t : Step) → place ≤ k → slice_get log k ≡ Some t → is_marked more k ≡ true → list_all (has_named more k) t.hints ≡ true
    named k t above got marked = elim (cases_eq k place) [
      | inl same ↦
          let one : Some t ≡ Some s = sym got ∙ ap (slice_get log) same ∙ at in
          let step : t ≡ s = cc one in
          let here : hints ≡ t.hints = are_hints ∙ ap (λ (u : Step). u.hints) (sym step) in
          subst (λ (n : ℕ). list_all (has_named more n) t.hints ≡ true) (sym same) (subst (λ (hs : List Hint). list_all (has_named more place) hs ≡ true) here marks.has)
      | inr other ↦
          let later : from ≤ k = omega (arith, above, other, some) in
          all_kept needed more marks.keeps k t.hints (are.named k t later got (sym (marks.above.same k above) ∙ marked))
    ]
