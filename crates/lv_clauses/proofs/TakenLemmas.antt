-- Unmarking what was taken leaves nothing marked, and taking one more literal notes just what is marked.
use Rattle.std.proofs.Common.{◌≡◌, ℕ, suc, zero, ◌<◌, Bool, true, false, ◌||◌, List, [], ◌∷◌, ◌++◌, length, get_or, set, Some, None, is_some, refl, sym, ap, ◌∙◌, arith, ◌⊎◌, inl, inr}
use Rattle.std.specs.List.{list_any}
use Rattle.std.proofs.lemmas.Bool.{cases_eq}
use Rattle.std.proofs.lemmas.Bool.Decides.{nat_tests}
use Rattle.std.proofs.lemmas.List.{get_or-set_same, get_or-set_other}
use Rattle.std.proofs.lemmas.List.Elements.{All-push, All-weaker}
use Rattle.std.proofs.lemmas.List.Folds.{list_any-append}
use Rattle.lv_base.specs.declared.ids.Lit.{Lit}
use Rattle.lv_clauses.specs.Marks.{Marks, nothing}
use Rattle.lv_clauses.specs.Noted.{AreTaken, AreNoted, HasMark, is_of}

-- a slot that was set to nothing holds nothing
none_at : (marks : Marks) (k : ℕ) → get_or (set marks k None) k None ≡ None
none_at [] k = refl
none_at (m ∷ ms) zero = refl
none_at (m ∷ ms) (suc k) = none_at ms k

pub AreTaken-unmark : (marks : Marks) (l : Lit) (ls : List Lit) → AreTaken marks (l ∷ ls) → AreTaken (set marks l.var.0 None) ls
AreTaken-unmark marks l ls taken var marked = elim (cases_eq var l.var.0) [
  | inl same ↦ let none : get_or (set marks l.var.0 None) var None ≡ None = ap (λ k. get_or (set marks l.var.0 None) k None) same ∙ none_at marks l.var.0 in absurd (cc (ap is_some none))
  | inr differs ↦
      let kept : get_or (set marks l.var.0 None) var None ≡ get_or marks var None = get_or-set_other marks l.var.0 var None None differs in
      let found : list_any (is_of var) (l ∷ ls) ≡ true = taken var (sym (ap is_some kept) ∙ marked) in
      in_rest (λ e. differs (sym e)) found
]
  where
    in_rest : (l.var.0 ≡ var → ⊥) → list_any (is_of var) (l ∷ ls) ≡ true → list_any (is_of var) ls ≡ true
    in_rest differs found = grind (arith, differs, found)

pub nothing-from_none : (marks : Marks) → ((var : ℕ) → is_some (get_or marks var None) ≡ true → ⊥) → marks ≡ nothing (length marks)
nothing-from_none [] none = refl
nothing-from_none (None ∷ ms) none = ap (λ (xs : Marks). None ∷ xs) (nothing-from_none ms (λ var e. none (suc var) e))
nothing-from_none (Some b ∷ ms) none = absurd (none 0 refl)

pub nothing-from_taken : (marks : Marks) → AreTaken marks [] → marks ≡ nothing (length marks)
nothing-from_taken marks taken = nothing-from_none marks (λ var e. let found : list_any (is_of var) [] ≡ true = taken var e in absurd (cc))

-- where a slot was set to something there is something
some_at : (marks : Marks) (k : ℕ) (b : Bool) → k < length marks → is_some (get_or (set marks k (Some b)) k None) ≡ true
some_at marks k b below = ap is_some (get_or-set_same marks k (Some b) None below)

-- what is marked stays so
still_marked : (marks : Marks) (k : ℕ) (b : Bool) → k < length marks → (m : Lit) → HasMark marks m → HasMark (set marks k (Some b)) m
still_marked marks k b below m h = elim (cases_eq m.var.0 k) [
  | inl same ↦ record { marked = ap (λ i. is_some (get_or (set marks k (Some b)) i None)) same ∙ some_at marks k b below }
  | inr differs ↦ record { marked = ap is_some (get_or-set_other marks k m.var.0 (Some b) None differs) ∙ h.marked }
]

or_true : (a : Bool) → (a || true) ≡ true
or_true true = refl
or_true false = refl

is_of_itself : (l : Lit) → list_any (is_of l.var.0) (l ∷ []) ≡ true
is_of_itself l = grind (arith, nat_tests)

pub AreNoted-take : (marks : Marks) (noted : List Lit) (l : Lit) (b : Bool) → l.var.0 < length marks → AreNoted marks noted → AreNoted (set marks l.var.0 (Some b)) (noted ++ l ∷ [])
AreNoted-take marks noted l b below h =
    record {
      each_marked = λ var marked. list_any-append (is_of var) noted (l ∷ []) ∙ found var marked (cases_eq var l.var.0);
      each_noted = All-push (HasMark (set marks l.var.0 (Some b))) noted l (All-weaker (HasMark marks) (HasMark (set marks l.var.0 (Some b))) (still_marked marks l.var.0 b below) noted h.each_noted) (record { marked = some_at marks l.var.0 b below });
    }
  where
    found : (var : ℕ) → is_some (get_or (set marks l.var.0 (Some b)) var None) ≡ true → (var ≡ l.var.0) ⊎ (var ≡ l.var.0 → ⊥) → (list_any (is_of var) noted || list_any (is_of var) (l ∷ [])) ≡ true
    found var marked (inl same) = ap (λ k. list_any (is_of var) noted || list_any (is_of k) (l ∷ [])) same ∙ ap (λ a. list_any (is_of var) noted || a) (is_of_itself l) ∙ or_true (list_any (is_of var) noted)
    found var marked (inr differs) = rw (h.each_marked var (sym (ap is_some (get_or-set_other marks l.var.0 var (Some b) None differs)) ∙ marked)) refl
