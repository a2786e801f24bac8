-- A clause that isn't true of everything has no boolean twice, once each literal stands once.
use Rattle.std.proofs.Common.{◌≡◌, ℕ, Bool, true, false, not, ◌&&◌, ◌||◌, List, [], ◌∷◌, filter, refl, ap₂}
use Rattle.std.specs.List.{list_all, list_any}
use Rattle.std.proofs.lemmas.Bool.{and_parts, or_parts}
use Rattle.lv_base.specs.declared.ids.Lit.{Lit}
use Rattle.lv_clauses.specs.Literals.{neg, same_truth, same_var, in_range, distinct, is_clause}
use Rattle.lv_model.specs.declared.plant.Plant.{Plant}
use Rattle.lv_model.specs.WellFormed.{is_well_formed}
use Rattle.lv_compile.specs.Booleans.{bool_count}
use Rattle.lv_compile.specs.FormulaClauses.{Clauses}
use Rattle.lv_compile.specs.ModelClauses.{raw_clauses, model_clauses}
use Rattle.lv_compile.specs.Cleaning.{same_literal, is_tautology, without_repeats, cleaned}
use Rattle.lv_compile.proofs.InRangeLemmas.{raw_in}

all_kept : (q p : Lit → Bool) (ls : List Lit) → list_all q ls ≡ true → list_all q (filter p ls) ≡ true
all_kept q p [] h = refl
all_kept q p (l ∷ ls) h = by (p l) refl (all_kept q p ls two.1)
  where
    two : (q l ≡ true) × (list_all q ls ≡ true)
    two = and_parts (q l) (list_all q ls) h

    by : (b : Bool) → p l ≡ b → list_all q (filter p ls) ≡ true → list_all q (filter p (l ∷ ls)) ≡ true
    by true e rest = rw e (ap₂ (λ (x y : Bool). x && y) two.0 rest)
    by false e rest = rw e rest

any_kept : (q p : Lit → Bool) (ls : List Lit) → list_any q ls ≡ false → list_any q (filter p ls) ≡ false
any_kept q p [] h = refl
any_kept q p (l ∷ ls) h = by (p l) refl (any_kept q p ls two.1)
  where
    two : (q l ≡ false) × (list_any q ls ≡ false)
    two = or_parts (q l) (list_any q ls) h

    by : (b : Bool) → p l ≡ b → list_any q (filter p ls) ≡ false → list_any q (filter p (l ∷ ls)) ≡ false
    by true e rest = rw e (ap₂ (λ (x y : Bool). x || y) two.0 rest)
    by false e rest = rw e rest

any_once : (q : Lit → Bool) (ls : List Lit) → list_any q ls ≡ false → list_any q (without_repeats ls) ≡ false
any_once q [] h = refl
any_once q (l ∷ ls) h =
    let two = or_parts (q l) (list_any q ls) h in
    ap₂ (λ (x y : Bool). x || y) two.0 (any_kept q (λ (m : Lit). not (same_literal l m)) (without_repeats ls) (any_once q ls two.1))

all_once : (q : Lit → Bool) (ls : List Lit) → list_all q ls ≡ true → list_all q (without_repeats ls) ≡ true
all_once q [] h = refl
all_once q (l ∷ ls) h =
    let two = and_parts (q l) (list_all q ls) h in
    ap₂ (λ (x y : Bool). x && y) two.0 (all_kept q (λ (m : Lit). not (same_literal l m)) (without_repeats ls) (all_once q ls two.1))

-- what is neither the literal nor its negation is of another boolean
other_var : (v s t : Bool) → (v && same_truth s t) ≡ false → (v && same_truth (not s) t) ≡ false → not v ≡ true
other_var true true true h k = absurd (cc)
other_var true true false h k = absurd (cc)
other_var true false true h k = absurd (cc)
other_var true false false h k = absurd (cc)
other_var false s t h k = refl

others_apart : (l : Lit) (ms : List Lit) → list_any (same_literal (neg l)) ms ≡ false → list_all (λ (m : Lit). not (same_var l m)) (filter (λ (m : Lit). not (same_literal l m)) ms) ≡ true
others_apart l [] h = refl
others_apart l (m ∷ ms) h = by (same_literal l m) refl (others_apart l ms two.1)
  where
    two : (same_literal (neg l) m ≡ false) × (list_any (same_literal (neg l)) ms ≡ false)
    two = or_parts (same_literal (neg l) m) (list_any (same_literal (neg l)) ms) h

    by : (b : Bool) → same_literal l m ≡ b → list_all (λ (n : Lit). not (same_var l n)) (filter (λ (n : Lit). not (same_literal l n)) ms) ≡ true
        → list_all (λ (n : Lit). not (same_var l n)) (filter (λ (n : Lit). not (same_literal l n)) (m ∷ ms)) ≡ true
    by true e rest = rw e rest
    by false e rest = rw e (ap₂ (λ (x y : Bool). x && y) (other_var (same_var l m) l.sign m.sign e two.0) rest)

distinct_kept : (p : Lit → Bool) (ls : List Lit) → distinct ls ≡ true → distinct (filter p ls) ≡ true
distinct_kept p [] h = refl
distinct_kept p (l ∷ ls) h = by (p l) refl (distinct_kept p ls two.1)
  where
    two : (list_all (λ (m : Lit). not (same_var l m)) ls ≡ true) × (distinct ls ≡ true)
    two = and_parts (list_all (λ (m : Lit). not (same_var l m)) ls) (distinct ls) h

    by : (b : Bool) → p l ≡ b → distinct (filter p ls) ≡ true → distinct (filter p (l ∷ ls)) ≡ true
    by true e rest = rw e (ap₂ (λ (x y : Bool). x && y) (all_kept (λ (m : Lit). not (same_var l m)) p ls two.0) rest)
    by false e rest = rw e rest

distinct_once : (ls : List Lit) → is_tautology ls ≡ false → distinct (without_repeats ls) ≡ true
distinct_once [] h = refl
distinct_once (l ∷ ls) h =
    let two = or_parts (list_any (same_literal (neg l)) ls) (is_tautology ls) h in
    ap₂ (λ (x y : Bool). x && y) (others_apart l (without_repeats ls) (any_once (same_literal (neg l)) ls two.0))
    (distinct_kept (λ (m : Lit). not (same_literal l m)) (without_repeats ls) (distinct_once ls two.1))

pub cleaned_are : (bools : ℕ) (cs : Clauses) → list_all (λ (c : List Lit). list_all (in_range bools) c) cs ≡ true → list_all (is_clause bools) (cleaned cs) ≡ true
cleaned_are bools [] h = refl
cleaned_are bools (c ∷ cs) h = by (is_tautology c) refl (cleaned_are bools cs two.1)
  where
    two : (list_all (in_range bools) c ≡ true) × (list_all (λ (d : List Lit). list_all (in_range bools) d) cs ≡ true)
    two = and_parts (list_all (in_range bools) c) (list_all (λ (d : List Lit). list_all (in_range bools) d) cs) h

    by : (t : Bool) → is_tautology c ≡ t → list_all (is_clause bools) (cleaned cs) ≡ true → list_all (is_clause bools) (cleaned (c ∷ cs)) ≡ true
    by true e rest = rw e rest
    by false e rest =
        rw e (ap₂ (λ (x y : Bool). x && y) (ap₂ (λ (x y : Bool). x && y) (all_once (in_range bools) c two.0) (distinct_once c e)) rest)

pub are_clauses : (plant : Plant) → is_well_formed plant ≡ true → list_all (is_clause (bool_count plant)) (model_clauses plant) ≡ true
are_clauses plant h = cleaned_are (bool_count plant) (raw_clauses plant) (raw_in plant h)
