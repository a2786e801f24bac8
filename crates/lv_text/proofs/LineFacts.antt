-- Where the first line of a text ends.
use Rattle.std.proofs.Common.{◌≡◌, ℕ, suc, ◌+◌, ◌-◌, ◌<◌, ◌≤◌, Bool, true, false, not, cond, ◌||◌, nat_lt, nat_eq, List, [], ◌∷◌, length, take, drop, map, get_or, Some, None, refl, sym, ap, subst, ◌∙◌, arith}
use Rattle.std.proofs.lemmas.Bool.Decides.{nat_tests}
use Rattle.std.proofs.lemmas.List.{length-take-le, take_all, take-take}
use Rattle.std.specs.List.{position_or_len, position, list_any, onto_first}
use Rattle.std.specs.Option.{is_some}
use Rattle.std.specs.Str.Lines.{strip_carriage_return}
use Rattle.std.proofs.Math.Seq.{drop-length}
use Rattle.lv_text.specs.Lines.{is_line_feed, unended_lines, lines_of, BeginsWithLine}

-- an element passes exactly where the first place that does is inside
pub found_inside : (p : ℕ → Bool) (xs : List ℕ) → nat_lt (position_or_len p xs) (length xs) ≡ list_any p xs
found_inside p [] = refl
found_inside p (x ∷ xs) = by (found_inside p xs) (p x) refl
  where
    m : ℕ
    m = position_or_len p xs

    by : nat_lt m (length xs) ≡ list_any p xs → (c : Bool) → p x ≡ c → nat_lt (cond (not c) (1 + m) 0) (suc (length xs)) ≡ (c || list_any p xs)
    by later true is = grind (arith, nat_tests)
    by later false is = step m (length xs) ∙ later
      where
        step : (a b : ℕ) → nat_lt (1 + a) (suc b) ≡ nat_lt a b
        step a b = grind (arith, nat_tests)

pub is_some-position : (p : ℕ → Bool) (xs : List ℕ) → is_some (position p xs) ≡ list_any p xs
is_some-position p xs = by (nat_lt (position_or_len p xs) (length xs)) ∙ found_inside p xs
  where
    by : (c : Bool) → is_some (cond c (Some (position_or_len p xs)) None) ≡ c
    by true = refl
    by false = refl

-- a place that was found
found_place : (p : ℕ → Bool) (xs : List ℕ) (n : ℕ) → position p xs ≡ Some n → (n ≡ position_or_len p xs) × (list_any p xs ≡ true)
found_place p xs n h = by (nat_lt (position_or_len p xs) (length xs)) refl h
  where
    by : (c : Bool) → nat_lt (position_or_len p xs) (length xs) ≡ c → cond c (Some (position_or_len p xs)) None ≡ Some n → (n ≡ position_or_len p xs) × (list_any p xs ≡ true)
    by true is e = (cc, sym (found_inside p xs) ∙ is)
    by false is e = absurd (cc)

-- the front up to the first line feed, and what stands behind it
unended_lines-found : (text : List ℕ) → list_any is_line_feed text ≡ true
    → unended_lines text ≡ take (position_or_len is_line_feed text) text ∷ unended_lines (drop (position_or_len is_line_feed text + 1) text)
unended_lines-found [] h = absurd (cc)
unended_lines-found (b ∷ more) h = by (unended_lines-found more) (is_line_feed b) h
  where
    m : ℕ
    m = position_or_len is_line_feed more

    by : (list_any is_line_feed more ≡ true → unended_lines more ≡ take m more ∷ unended_lines (drop (m + 1) more)) → (c : Bool) → (c || list_any is_line_feed more) ≡ true
        → cond c ([] ∷ unended_lines more) (onto_first b (unended_lines more)) ≡ take (cond (not c) (1 + m) 0) (b ∷ more) ∷ unended_lines (drop (cond (not c) (1 + m) 0 + 1) (b ∷ more))
    by later true e = refl
    by later false e =
        let one : suc m ≡ 1 + m = omega arith in
        let two : suc (m + 1) ≡ (1 + m) + 1 = omega arith in
        ap (onto_first b) (later e) ∙ ap (λ k. take k (b ∷ more) ∷ unended_lines (drop (m + 1) more)) one
        ∙ ap (λ k. take (1 + m) (b ∷ more) ∷ unended_lines (drop k (b ∷ more))) two

-- a text without a line feed is one line, if it is not empty
pub unended_lines-last : (text : List ℕ) → list_any is_line_feed text ≡ false → 0 < length text → unended_lines text ≡ text ∷ []
unended_lines-last [] h some = absurd (omega arith)
unended_lines-last (b ∷ []) h some = by (is_line_feed b) h
  where
    by : (c : Bool) → (c || false) ≡ false → cond c ([] ∷ []) ((b ∷ []) ∷ []) ≡ (b ∷ []) ∷ []
    by true e = absurd (cc)
    by false e = refl
unended_lines-last (b ∷ c ∷ more) h some = by (unended_lines-last (c ∷ more)) (is_line_feed b) h
  where
    by : (list_any is_line_feed (c ∷ more) ≡ false → 0 < length (c ∷ more) → unended_lines (c ∷ more) ≡ (c ∷ more) ∷ []) → (d : Bool) → (d || list_any is_line_feed (c ∷ more)) ≡ false
        → cond d ([] ∷ unended_lines (c ∷ more)) (onto_first b (unended_lines (c ∷ more))) ≡ (b ∷ c ∷ more) ∷ []
    by later true e = absurd (cc)
    by later false e = ap (onto_first b) (later e (omega arith))

-- what is shown of a line is a front of it
shown_is_front : (line : List ℕ) → (take (length (strip_carriage_return line)) line ≡ strip_carriage_return line) × (length (strip_carriage_return line) ≤ length line)
shown_is_front line = by (nat_eq (get_or line (length line - 1) 0) 13)
  where
    by : (c : Bool) → (take (length (cond c (take (length line - 1) line) line)) line ≡ cond c (take (length line - 1) line) line) × (length (cond c (take (length line - 1) line) line) ≤ length line)
    by true =
        let less : length line - 1 ≤ length line = omega arith in
        let e : length (take (length line - 1) line) ≡ length line - 1 = length-take-le (length line - 1) line less in
        (ap (λ k. take k line) e, omega arith)
    by false = (take_all (length line) line (omega arith), omega arith)

-- where the first line ends that a line feed ends
pub first_line_begins : (text : List ℕ) (n shown : ℕ) → position is_line_feed text ≡ Some n → shown ≡ length (strip_carriage_return (take n text)) → BeginsWithLine text shown (n + 1)
first_line_begins text n shown found is =
    let place : (n ≡ position_or_len is_line_feed text) × (list_any is_line_feed text ≡ true) = found_place is_line_feed text n found in
    let test : nat_lt (position_or_len is_line_feed text) (length text) ≡ true = found_inside is_line_feed text ∙ place.1 in
    let inside : position_or_len is_line_feed text < length text = grind (arith, nat_tests) in
    let line : List ℕ = take n text in
    let front = shown_is_front (take n text) in
    let long : length (take n text) ≡ n = length-take-le n text (omega (arith, place.0)) in
    let parts : unended_lines text ≡ take n text ∷ unended_lines (drop (n + 1) text) =
    subst (λ k. unended_lines text ≡ take k text ∷ unended_lines (drop (k + 1) text)) (sym place.0) (unended_lines-found text place.1) in
    let less : length (strip_carriage_return (take n text)) ≤ n = omega (arith, front.1, long) in
    let same : take shown text ≡ strip_carriage_return (take n text) =
    ap (λ k. take k text) is ∙ sym (take-take (length (strip_carriage_return (take n text))) n text less) ∙ front.0 in
    record {
      lines = ap (map strip_carriage_return) parts ∙ ap (λ l. l ∷ lines_of (drop (n + 1) text)) (sym same);
      moves = omega arith;
      within = omega (arith, less, is);
      inside = omega (arith, place.0, inside);
    }

-- a line that the end of the text ends
pub last_line_begins : (text : List ℕ) (shown : ℕ) → list_any is_line_feed text ≡ false → 0 < length text → shown ≡ length (strip_carriage_return text) → BeginsWithLine text shown (length text)
last_line_begins text shown none some is =
    let front = shown_is_front text in
    let same : take shown text ≡ strip_carriage_return text = ap (λ k. take k text) is ∙ front.0 in
    let rest : lines_of (drop (length text) text) ≡ [] = ap lines_of (drop-length text) in
    record {
      lines = ap (map strip_carriage_return) (unended_lines-last text none some) ∙ ap (λ l. l ∷ []) (sym same) ∙ ap (λ ls. take shown text ∷ ls) (sym rest);
      moves = some;
      within = omega (arith, front.1, is);
      inside = omega arith;
    }
