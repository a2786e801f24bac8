-- Where the booleans of a variable begin, and that they are in range.
use Rattle.std.proofs.Common.{◌≡◌, ◌+◌, ◌≤◌, ◌<◌, ℕ, suc, zero, List, [], ◌∷◌, length, take, slice_index_or, refl, sym, subst, ◌^◌, ap, ◌∙◌, arith}
use Rattle.std.specs.List.{sum}
use Rattle.std.proofs.lemmas.List.Sums.{sum_by-cons}
use Rattle.lv_compile.specs.Booleans.{Booleans, starts_from, AreStarts, value_bool}
use Rattle.lv_compile.specs.FormulaClauses.{size_of}

pub length-starts : (first : ℕ) (sizes : List ℕ) → length (starts_from first sizes) ≡ length sizes
length-starts first [] = refl
length-starts first (n ∷ ns) = let ih = length-starts (first + n) ns in omega (arith, ih)

sum_more : (n : ℕ) (ns : List ℕ) → sum (n ∷ ns) ≡ n + sum ns
sum_more n ns = sum_by-cons (λ x. x) n ns

pub start_at : (first : ℕ) (sizes : List ℕ) (x d : ℕ) → x < length sizes → slice_index_or (starts_from first sizes) x d ≡ first + sum (take x sizes)
start_at first [] x d h = absurd (omega (arith, h))
start_at first (n ∷ ns) zero d h = omega arith
start_at first (n ∷ ns) (suc x) d h =
    let ih = start_at (first + n) ns x d (omega (arith, h)) in
    let more = sum_more n (take x ns) in
    omega (arith, ih, more)

-- a variable with a value is there
pub is_there : (sizes : List ℕ) (x v : ℕ) → v < slice_index_or sizes x 0 → x < length sizes
is_there [] x v h = absurd (omega (arith, h))
is_there (n ∷ ns) zero v h = omega arith
is_there (n ∷ ns) (suc x) v h = let ih = is_there ns x v h in omega (arith, ih)

-- the booleans of one variable are among all
pub among_all : (sizes : List ℕ) (x : ℕ) → x < length sizes → sum (take x sizes) + slice_index_or sizes x 0 ≤ sum sizes
among_all [] x h = absurd (omega (arith, h))
among_all (n ∷ ns) zero h = let more = sum_more n ns in omega (arith, more)
among_all (n ∷ ns) (suc x) h =
    let ih = among_all ns x (omega (arith, h)) in
    let more = sum_more n ns in
    let taken = sum_more n (take x ns) in
    omega (arith, ih, more, taken)

module _ (b : Booleans) (first : ℕ) (sizes starts : List ℕ) (same : record { sizes = sizes; first = first } ≡ b) (are : AreStarts first sizes starts) (x v : ℕ) (has : v < size_of b x) where
  has_size : v < slice_index_or sizes x 0
  has_size = subst (λ (c : Booleans). v < size_of c x) (sym same) has

  start_is : (d : ℕ) → slice_index_or starts x d ≡ first + sum (take x sizes)
  start_is d = ap (λ (s : List ℕ). slice_index_or s x d) are.begin ∙ start_at first sizes x d (is_there sizes x v has_size)

  pub start_there : x < length starts
  start_there = let there = is_there sizes x v has_size in let begin = are.begin in rw (begin, length-starts first sizes) there

  pub number_fits : (n : ℕ) → n ≡ slice_index_or starts x n → n + v < 2 ^ 32
  number_fits n e =
      let at = start_is n in let among = among_all sizes x (is_there sizes x v has_size) in let fit = are.fit in let mine = has_size in omega (arith, e, at, among, fit, mine)

  pub number_is : (n : ℕ) → n ≡ slice_index_or starts x n → n + v ≡ value_bool b x v
  number_is n e = subst (λ (c : Booleans). n + v ≡ value_bool c x v) same (ap (λ (k : ℕ). k + v) (e ∙ start_is n))
