-- One label more of those that are found.
use Rattle.std.proofs.Common.{◌≡◌, ◌+◌, ℕ, Bool, true, false, List, [], ◌∷◌, ◌++◌, map, filter, refl, sym, ap, ◌∙◌, arith}
use Rattle.std.specs.List.{range_with_len}
use Rattle.std.proofs.lemmas.List.{append_assoc, append-nil}
use Rattle.std.proofs.lemmas.List.FromFn.{map-range_with_len_more}
use Rattle.std.proofs.lemmas.List.Elements.{filter-append}

-- the next of these values passes, or doesn't
module _ {X : Type 0} (test : X → Bool) (f : ℕ → X) (front out : List X) (n : ℕ) (so_far : out ≡ front ++ filter test (map f (range_with_len 0 n))) where
  one_more : filter test (map f (range_with_len 0 (n + 1))) ≡ filter test (map f (range_with_len 0 n)) ++ filter test (f n ∷ [])
  one_more = ap (filter test) (map-range_with_len_more f 0 n n (omega arith)) ∙ filter-append test (map f (range_with_len 0 n)) (f n ∷ [])

  pub value_passes : (new : List X) (x : X) → new ≡ out ++ x ∷ [] → x ≡ f n → test x ≡ true → new ≡ front ++ filter test (map f (range_with_len 0 (n + 1)))
  value_passes new x pushed is passes =
      let there : filter test (f n ∷ []) ≡ x ∷ [] = rw (sym is, passes) refl in
      pushed ∙ ap (λ (t : List X). t ++ x ∷ []) so_far ∙ append_assoc front (filter test (map f (range_with_len 0 n))) (x ∷ [])
      ∙ ap (λ (t : List X). front ++ t) (ap (λ (t : List X). filter test (map f (range_with_len 0 n)) ++ t) (sym there) ∙ sym one_more)

  pub value_fails : test (f n) ≡ false → out ≡ front ++ filter test (map f (range_with_len 0 (n + 1)))
  value_fails fails =
      let none : filter test (f n ∷ []) ≡ [] = rw (fails) refl in
      so_far ∙ ap (λ (t : List X). front ++ t) (sym (one_more ∙ ap (λ (t : List X). filter test (map f (range_with_len 0 n)) ++ t) none ∙ append-nil (filter test (map f (range_with_len 0 n)))))

-- what passes of two lists, one behind the other
pub both_moments : {X : Type 0} (test : X → Bool) (xs ys start half whole : List X) → start ≡ [] → half ≡ start ++ filter test xs → whole ≡ half ++ filter test ys → whole ≡ filter test (xs ++ ys)
both_moments test xs ys start half whole empty first second =
    second ∙ ap (λ t. t ++ filter test ys) (first ∙ ap (λ t. t ++ filter test xs) empty) ∙ sym (filter-append test xs ys)
