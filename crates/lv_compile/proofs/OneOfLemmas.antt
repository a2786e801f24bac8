-- Lists over numbers in a row, and that booleans are apart, one number more.
use Rattle.std.proofs.Common.{◌≡◌, ◌+◌, ◌-◌, ◌<◌, ℕ, suc, arith, List, [], ◌∷◌, ◌++◌, map, sym, ap, ap₂, ◌∙◌}
use Rattle.std.specs.List.{range_with_len}
use Rattle.std.proofs.lemmas.List.FromFn.{map-range_with_len_more}
use Rattle.std.proofs.lemmas.List.{append_assoc}
use Rattle.lv_compile.specs.FormulaClauses.{Clauses}
use Rattle.lv_compile.specs.ModelClauses.{not_both, apart}

pub numbered_more : {X : Type 0} (f : ℕ → X) (front out new : List X) (start n j : ℕ) (x : X) → out ≡ front ++ map f (range_with_len start n) → new ≡ out ++ x ∷ [] → x ≡ f j → start + n ≡ j
    → new ≡ front ++ map f (range_with_len start (n + 1))
numbered_more f front out new start n j x so_far pushed is at =
    pushed
    ∙ ap₂ (λ o y. o ++ y ∷ []) so_far is
    ∙ append_assoc front (map f (range_with_len start n)) (f j ∷ [])
    ∙ ap (λ t. front ++ t) (sym (map-range_with_len_more f start n j at))

pub apart_more : (first past n : ℕ) (whole out new : Clauses) → past < n → out ++ apart (first + past) (n - past) ≡ whole
    → new ≡ out ++ map (not_both (first + past)) (range_with_len (first + past + 1) (n - past - 1)) → new ++ apart (first + (past + 1)) (n - (past + 1)) ≡ whole
apart_more first past n whole out new inside so_far added =
    let one : n - past ≡ suc (n - past - 1) = omega (arith, inside) in
    let left : n - (past + 1) ≡ n - past - 1 = omega (arith, inside) in
    let at : first + (past + 1) ≡ first + past + 1 = omega arith in
    ap₂ (λ (a b : Clauses). a ++ b) added (ap₂ apart at left)
    ∙ append_assoc out (map (not_both (first + past)) (range_with_len (first + past + 1) (n - past - 1))) (apart (first + past + 1) (n - past - 1))
    ∙ ap (λ (k : ℕ). out ++ apart (first + past) k) (sym one)
    ∙ so_far
