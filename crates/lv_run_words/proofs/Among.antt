-- The values among the words behind a command, word by word.
use Rattle.std.proofs.Common.{◌≡◌, ℕ, suc, ◌+◌, nat_lt, Bool, true, false, cond, not, ◌&&◌, List, [], ◌∷◌, ◌++◌, length, take, drop, Option, None, Some, refl, ◌∙◌, ap, ap₂, arith}
use Rattle.std.specs.Prelude.{if◌then◌else◌, position, option_map}
use Rattle.std.specs.List.{list_all, prefix_len}
use Rattle.lv_run_words.specs.Words.{names_of, names_by, is_plain, is_dashes}

-- the values among words: those behind the first `--`, and those before it, of which none may begin with `-`
abbrev pub values_among : List (List ℕ) → Option (List (List ℕ))
values_among [] = Some []
values_among (word ∷ words) =
    if is_dashes word then Some words else if is_plain word then option_map (λ (values : List (List ℕ)). word ∷ values) (values_among words) else None

abbrev other : List ℕ → Bool
other word = not (is_dashes word)

here : (word : List ℕ) (words : List (List ℕ)) → is_dashes word ≡ true → position is_dashes (word ∷ words) ≡ Some 0
here word words is =
    let some : nat_lt 0 (length (word ∷ words)) ≡ true = grind arith in
    ap (λ (t : Bool). cond (nat_lt (cond (not t) (1 + prefix_len other words) 0) (length (word ∷ words))) (Some (cond (not t) (1 + prefix_len other words) 0)) None) is
    ∙ ap (λ (t : Bool). cond t (Some 0) None) some

later : (word : List ℕ) (words : List (List ℕ)) → is_dashes word ≡ false → position is_dashes (word ∷ words) ≡ option_map (λ (n : ℕ). suc n) (position is_dashes words)
later word words is =
    ap (λ (t : Bool). cond (nat_lt (cond (not t) (1 + prefix_len other words) 0) (length (word ∷ words))) (Some (cond (not t) (1 + prefix_len other words) 0)) None) is
    ∙ ap₂ (λ (t : Bool) (n : ℕ). cond t (Some n) None) less one
    ∙ by (nat_lt (prefix_len other words) (length words))
  where
    less : nat_lt (1 + prefix_len other words) (length (word ∷ words)) ≡ nat_lt (prefix_len other words) (length words)
    less = grind arith

    one : 1 + prefix_len other words ≡ suc (prefix_len other words)
    one = omega arith

    by : (t : Bool) → cond t (Some (suc (prefix_len other words))) None ≡ option_map (λ (n : ℕ). suc n) (cond t (Some (prefix_len other words)) None)
    by true = refl
    by false = refl

named_later : (word : List ℕ) (words : List (List ℕ)) (found : Option ℕ)
    → names_by (word ∷ words) (option_map (λ (n : ℕ). suc n) found) ≡ (if is_plain word then option_map (λ (values : List (List ℕ)). word ∷ values) (names_by words found) else None)
named_later word words None = by (is_plain word) (list_all is_plain words)
  where
    by : (a b : Bool) → (if a && b then Some (word ∷ words) else None) ≡ (if a then option_map (λ (values : List (List ℕ)). word ∷ values) (if b then Some words else None) else None)
    by true true = refl
    by true false = refl
    by false b = refl
named_later word words (Some at) = by (is_plain word) (list_all is_plain (take at words))
  where
    by : (a b : Bool) → (if a && b then Some (word ∷ (take at words ++ drop (suc at) words)) else None)
        ≡ (if a then option_map (λ (values : List (List ℕ)). word ∷ values) (if b then Some (take at words ++ drop (suc at) words) else None) else None)
    by true true = refl
    by true false = refl
    by false b = refl

pub names_among : (words : List (List ℕ)) → names_of words ≡ values_among words
names_among [] = refl
names_among (word ∷ words) = by (is_dashes word) refl (names_among words)
  where
    by : (d : Bool) → is_dashes word ≡ d → names_of words ≡ values_among words
        → names_of (word ∷ words) ≡ (if d then Some words else if is_plain word then option_map (λ (values : List (List ℕ)). word ∷ values) (values_among words) else None)
    by true is same = ap (names_by (word ∷ words)) (here word words is)
    by false is same =
        ap (names_by (word ∷ words)) (later word words is) ∙ named_later word words (position is_dashes words)
        ∙ ap (λ (o : Option (List (List ℕ))). if is_plain word then option_map (λ (values : List (List ℕ)). word ∷ values) o else None) same
