-- What the prices of a list are of.
use Rattle.std.proofs.Common.{◌≡◌, ℕ, Bool, true, false, nat_eq, ◌&&◌, ◌||◌, List, [], ◌∷◌, ◌++◌, refl, sym, ap, ap₂, ◌∙◌, if◌then◌else◌, arith}
use Rattle.std.specs.List.{list_any}
use Rattle.std.proofs.lemmas.List.Folds.{list_any-append}
use Rattle.lv_model.specs.declared.plant.Price.{Price}
use Rattle.lv_model.specs.Prices.{is_price_of}
use Rattle.lv_model_draft.specs.Priced.{has_pair, with_pair, with_prices, priced}

or-false : (b : Bool) → b || false ≡ b
or-false true = refl
or-false false = refl

or-again : (a b c : Bool) → (a || b) || c ≡ a || (b || c)
or-again true b c = refl
or-again false b c = refl

turned : (a b : ℕ) → nat_eq a b ≡ nat_eq b a
turned a b = grind arith

-- what is there once a pair is added
has-with : (c v : ℕ) (pairs : List (ℕ × ℕ)) (a b : ℕ) → has_pair c v (with_pair pairs a b) ≡ has_pair c v pairs || (nat_eq c a && nat_eq v b)
has-with c v pairs a b = by (has_pair a b pairs) refl (nat_eq c a) refl (nat_eq v b) refl
  where
    same : (n m : ℕ) → nat_eq n m ≡ true → n ≡ m
    same n m h = grind arith

    by : (here : Bool) → has_pair a b pairs ≡ here → (e : Bool) → nat_eq c a ≡ e → (f : Bool) → nat_eq v b ≡ f
        → has_pair c v (if here then pairs else pairs ++ (a, b) ∷ []) ≡ has_pair c v pairs || (e && f)
    by false h e is_c f is_v =
        list_any-append (λ (p : ℕ × ℕ). nat_eq c p.0 && nat_eq v p.1) pairs ((a, b) ∷ [])
        ∙ ap (λ x. has_pair c v pairs || x) (or-false (nat_eq c a && nat_eq v b) ∙ ap₂ (λ (x y : Bool). x && y) is_c is_v)
    by true h false is_c f is_v = sym (or-false (has_pair c v pairs))
    by true h true is_c false is_v = sym (or-false (has_pair c v pairs))
    by true h true is_c true is_v =
        let there : has_pair c v pairs ≡ true = ap₂ (λ (x y : ℕ). has_pair x y pairs) (same c a is_c) (same v b is_v) ∙ h in
        there ∙ ap (λ x. x || true) (sym there)

has-all : (c v : ℕ) (prices : List Price) (pairs : List (ℕ × ℕ)) → has_pair c v (with_prices pairs prices) ≡ has_pair c v pairs || list_any (is_price_of c v) prices
has-all c v [] pairs = sym (or-false (has_pair c v pairs))
has-all c v (p ∷ ps) pairs =
    has-all c v ps (with_pair pairs p.control.0 p.value.0)
    ∙ ap (λ x. x || list_any (is_price_of c v) ps) (has-with c v pairs p.control.0 p.value.0)
    ∙ or-again (has_pair c v pairs) (nat_eq c p.control.0 && nat_eq v p.value.0) (list_any (is_price_of c v) ps)
    ∙ ap (λ x. has_pair c v pairs || (x || list_any (is_price_of c v) ps)) (ap₂ (λ (x y : Bool). x && y) (turned c p.control.0) (turned v p.value.0))

-- a value of a control has a price exactly where it is among what the prices are of
pub has_priced : (control value : ℕ) (prices : List Price) → has_pair control value (priced prices) ≡ list_any (is_price_of control value) prices
has_priced control value prices = has-all control value prices []

with-last : (prices : List Price) (pairs : List (ℕ × ℕ)) (p : Price) → with_prices pairs (prices ++ p ∷ []) ≡ with_pair (with_prices pairs prices) p.control.0 p.value.0
with-last [] pairs p = refl
with-last (x ∷ xs) pairs p = with-last xs (with_pair pairs x.control.0 x.value.0) p

-- one price more
pub priced_last : (prices : List Price) (p : Price) → priced (prices ++ p ∷ []) ≡ with_pair (priced prices) p.control.0 p.value.0
priced_last prices p = with-last prices [] p
