-- Walking along states: those that pass at the front, and whether some passes.
use Rattle.std.proofs.Common.{◌≡◌, ◌+◌, ◌<◌, ◌≤◌, ℕ, Bool, true, false, ◌||◌, List, ◌∷◌, length, drop, get_or, cond, sym, ap, ◌∙◌, arith}
use Rattle.std.specs.List.{prefix_len, list_any}
use Rattle.std.proofs.lemmas.List.{drop_more, drop_all}
use Rattle.std.proofs.lemmas.List.Sums.{prefix_len-le-length}

module _ {X : Type 0} (p : X → Bool) (xs : List X) (i : ℕ) where
  next : (x : X) → i < length xs → x ≡ get_or xs i x → drop i xs ≡ x ∷ drop (i + 1) xs
  next x below at = drop_more xs i x below ∙ ap (λ (y : X). y ∷ drop (i + 1) xs) (sym at)

  pub count_stops : (x : X) (total : ℕ) → i < length xs → x ≡ get_or xs i x → p x ≡ false → i + prefix_len p (drop i xs) ≡ total → i ≡ total
  count_stops x total below at never so_far =
      let here : prefix_len p (drop i xs) ≡ 0 = ap (prefix_len p) (next x below at) ∙ ap (λ (b : Bool). cond b (1 + prefix_len p (drop (i + 1) xs)) 0) never in
      omega (arith, here, so_far)

  pub count_goes : (x : X) (total : ℕ) → i < length xs → x ≡ get_or xs i x → p x ≡ true → i + prefix_len p (drop i xs) ≡ total → i + 1 + prefix_len p (drop (i + 1) xs) ≡ total
  count_goes x total below at passes so_far =
      let here : prefix_len p (drop i xs) ≡ 1 + prefix_len p (drop (i + 1) xs) =
      ap (prefix_len p) (next x below at) ∙ ap (λ (b : Bool). cond b (1 + prefix_len p (drop (i + 1) xs)) 0) passes
      in
      omega (arith, here, so_far)

  pub count_ends : length xs ≤ i → i + prefix_len p (drop i xs) ≡ prefix_len p xs → length xs ≡ prefix_len p xs
  count_ends past so_far =
      let none : prefix_len p (drop i xs) ≡ 0 = ap (prefix_len p) (drop_all i xs past) in
      let most : prefix_len p xs ≤ length xs = prefix_len-le-length p xs in
      omega (arith, none, most, past, so_far)

  pub any_goes : (x : X) (total : Bool) → i < length xs → x ≡ get_or xs i x → p x ≡ false → list_any p (drop i xs) ≡ total → list_any p (drop (i + 1) xs) ≡ total
  any_goes x total below at never so_far =
      sym (ap (list_any p) (next x below at) ∙ ap (λ (b : Bool). b || list_any p (drop (i + 1) xs)) never) ∙ so_far

  pub any_ends : (total : Bool) → length xs ≤ i → list_any p (drop i xs) ≡ total → false ≡ total
  any_ends total past so_far = sym (ap (list_any p) (drop_all i xs past)) ∙ so_far
