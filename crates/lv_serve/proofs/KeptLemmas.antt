-- What is kept of a line, as more of it comes.
use Rattle.std.proofs.Common.{◌≡◌, ℕ, ◌+◌, ◌-◌, ◌≤◌, nat_lt, nat_le, Bool, true, false, List, ◌++◌, length, take, min, refl, sym, ◌∙◌, ap, arith, length-append, length-take}
use Rattle.std.proofs.lemmas.Bool.Decides.{nat_tests}
use Rattle.std.proofs.lemmas.List.{take_all, take-append-le, append-nil}
use Rattle.std.proofs.Math.Seq.{take-append-add}
use Rattle.lv_serve.specs.Kept.{most_kept}

-- a front of two lists: that of the first, and of the second what there is room for
take_more : {A : Type 0} (k : ℕ) (xs ys : List A) → take k (xs ++ ys) ≡ take k xs ++ take (k - length (take k xs)) ys
take_more {A} k xs ys = by (nat_le (length xs) k) refl
  where
    by : (c : Bool) → nat_le (length xs) k ≡ c → take k (xs ++ ys) ≡ take k xs ++ take (k - length (take k xs)) ys
    by true is =
        let fits : length xs ≤ k = grind (arith, nat_tests) in
        let all : take k xs ≡ xs = take_all k xs fits in
        let parts : k ≡ length xs + (k - length xs) = omega (arith, fits) in
        ap (λ (n : ℕ). take n (xs ++ ys)) parts ∙ take-append-add xs ys (k - length xs)
        ∙ sym (ap (λ (l : List A). l ++ take (k - length l) ys) all)
    by false is =
        let beyond : k ≤ length xs = grind (arith, nat_tests) in
        let none : k - length (take k xs) ≡ 0 = omega (arith, length-take k xs, beyond) in
        take-append-le k xs ys beyond ∙ sym (append-nil (take k xs)) ∙ sym (ap (λ (n : ℕ). take k xs ++ take n ys) none)

take_min : {A : Type 0} (n : ℕ) (ys : List A) → take (min (length ys) n) ys ≡ take n ys
take_min {A} n ys = by (nat_le (length ys) n) refl
  where
    by : (c : Bool) → nat_le (length ys) n ≡ c → take (min (length ys) n) ys ≡ take n ys
    by true is =
        let fits : length ys ≤ n = grind (arith, nat_tests) in
        let m : min (length ys) n ≡ length ys = omega (arith, fits) in
        ap (λ (k : ℕ). take k ys) m ∙ take_all (length ys) ys (omega arith) ∙ sym (take_all n ys fits)
    by false is =
        let beyond : n ≤ length ys = grind (arith, nat_tests) in
        let m : min (length ys) n ≡ n = omega (arith, beyond) in
        ap (λ (k : ℕ). take k ys) m

pub bytes_more : (bytes line more : List ℕ) (fits : ℕ)
    → bytes ≡ take most_kept line
    → fits ≡ min (length more) (most_kept - length bytes)
    → bytes ++ take fits more ≡ take most_kept (line ++ more)
bytes_more bytes line more fits is fits_is =
    ap (λ (n : ℕ). bytes ++ take n more) fits_is ∙ ap (λ (l : List ℕ). bytes ++ l) (take_min (most_kept - length bytes) more)
    ∙ ap (λ (l : List ℕ). l ++ take (most_kept - length l) more) is ∙ sym (take_more most_kept line more)

pub longer_before : (line more : List ℕ) → nat_lt most_kept (length line) ≡ true → nat_lt most_kept (length (line ++ more)) ≡ true
longer_before line more is = rw length-append (by (length line) (length more) is)
  where
    by : (m n : ℕ) → nat_lt most_kept m ≡ true → nat_lt most_kept (m + n) ≡ true
    by m n h = grind (arith, nat_tests)

pub longer_now : (bytes line more : List ℕ)
    → bytes ≡ take most_kept line
    → nat_lt most_kept (length line) ≡ false
    → nat_lt (most_kept - length bytes) (length more) ≡ nat_lt most_kept (length (line ++ more))
longer_now bytes line more is within =
    let short : length line ≤ most_kept = grind (arith, nat_tests) in
    let all : bytes ≡ line = is ∙ take_all most_kept line short in
    rw (length-append, all) (by most_kept (length line) (length more) short)
  where
    by : (k m n : ℕ) → m ≤ k → nat_lt (k - m) n ≡ nat_lt k (m + n)
    by k m n h = grind (arith, nat_tests)
