-- Clauses given one by one, and what they say.
use Rattle.std.proofs.Common.{◌≡◌, ℕ, zero, suc, ◌<◌, true, nat_lt, List, [], ◌∷◌, ◌++◌, length, map, slice_index_or, refl, sym, ap, subst, arith}
use Rattle.std.proofs.lemmas.Bool.{and_parts, ltb-true}
use Rattle.std.proofs.lemmas.List.{append_assoc}
use Rattle.lv_base.specs.declared.ids.Lit.{Lit}
use Rattle.lv_base.specs.declared.ids.ValId.{ValId}
use Rattle.lv_base.specs.declared.ids.VarId.{VarId}
use Rattle.lv_model.specs.declared.plant.Part.{Part}
use Rattle.lv_search_zones.specs.lv_compile.FormulaClauses.{Clauses}
use Rattle.lv_cert_meaning.specs.Blocks.{BlockValue, with_clause}
use Rattle.lv_cert_meaning.specs.Fitting.{are_values}
use Rattle.lv_certcheck.specs.Giving.{with_clauses}

own_more : (b : BlockValue) (xs ys : Clauses) → xs ≡ ys → with_clauses b xs ≡ with_clauses b ys
own_more b xs ys same = ap (with_clauses b) same

-- a clause, and clauses behind it
pub one_more : (b : BlockValue) (c : List Lit) (cs : Clauses) → with_clauses (with_clause b c) cs ≡ with_clauses b (c ∷ cs)
one_more b c cs = ap (λ (own : Clauses). record { system = b.system; own = own }) (append_assoc b.own (c ∷ []) cs)

-- clauses, and clauses behind them
pub some_more : (b : BlockValue) (cs ds : Clauses) → with_clauses (with_clauses b cs) ds ≡ with_clauses b (cs ++ ds)
some_more b cs ds = ap (λ (own : Clauses). record { system = b.system; own = own }) (append_assoc b.own cs ds)

pub none_more : (b : BlockValue) → with_clauses b [] ≡ b
none_more b = ap (λ (own : Clauses). record { system = b.system; own = own }) (append_nil b.own)
  where
    append_nil : (cs : Clauses) → cs ++ [] ≡ cs
    append_nil [] = refl
    append_nil (c ∷ cs) = ap (λ (ds : Clauses). c ∷ ds) (append_nil cs)

-- a value at a place is below the count there
pub value_below : (counts : List ℕ) (values : List ValId) (k : ℕ) (d : ValId) → are_values counts values ≡ true → k < length counts → (slice_index_or values k d).0 < slice_index_or counts k 0
value_below [] values k d h below = absurd (omega (arith, below))
value_below (n ∷ ns) [] k d h below = absurd (cc h)
value_below (n ∷ ns) (v ∷ vs) zero d h below = ltb-true v.0 n (and_parts (nat_lt v.0 n) (are_values ns vs) h).0
value_below (n ∷ ns) (v ∷ vs) (suc k) d h below = value_below ns vs k d (and_parts (nat_lt v.0 n) (are_values ns vs) h).1 (omega (arith, below))

pub as_many_values : (counts : List ℕ) (values : List ValId) → are_values counts values ≡ true → length values ≡ length counts
as_many_values [] [] h = refl
as_many_values [] (v ∷ vs) h = absurd (cc h)
as_many_values (n ∷ ns) [] h = absurd (cc h)
as_many_values (n ∷ ns) (v ∷ vs) h = ap suc (as_many_values ns vs (and_parts (nat_lt v.0 n) (are_values ns vs) h).1)

-- the mode of a part is below the count of its modes
pub mode_below : (sizes : List ℕ) (parts : List Part) (modes : List ValId) (k : ℕ) (d : ValId) (p : Part) → are_values (map (λ (q : Part). slice_index_or sizes q.first.0 0) parts) modes ≡ true
    → k < length parts → p ≡ slice_index_or parts k p → (slice_index_or modes k d).0 < slice_index_or sizes p.first.0 0
mode_below sizes [] modes k d p h below at = absurd (omega (arith, below))
mode_below sizes (q ∷ qs) [] k d p h below at = absurd (cc h)
mode_below sizes (q ∷ qs) (v ∷ vs) zero d p h below at =
    subst (λ (r : Part). v.0 < slice_index_or sizes r.first.0 0) (sym at)
    (ltb-true v.0 (slice_index_or sizes q.first.0 0) (and_parts (nat_lt v.0 (slice_index_or sizes q.first.0 0)) (are_values (map (λ (r : Part). slice_index_or sizes r.first.0 0) qs) vs) h).0)
mode_below sizes (q ∷ qs) (v ∷ vs) (suc k) d p h below at =
    mode_below sizes qs vs k d p (and_parts (nat_lt v.0 (slice_index_or sizes q.first.0 0)) (are_values (map (λ (r : Part). slice_index_or sizes r.first.0 0) qs) vs) h).1 (omega (arith, below)) at

-- a value of a control is below the count of its values
pub control_below : (sizes : List ℕ) (cs : List VarId) (values : List ValId) (k : ℕ) (c : VarId) (d : ValId) → are_values (map (λ (x : VarId). slice_index_or sizes x.0 0) cs) values ≡ true
    → k < length cs → (slice_index_or values k d).0 < slice_index_or sizes (slice_index_or cs k c).0 0
control_below sizes [] values k c d h below = absurd (omega (arith, below))
control_below sizes (x ∷ xs) [] k c d h below = absurd (cc h)
control_below sizes (x ∷ xs) (v ∷ vs) zero c d h below = ltb-true v.0 (slice_index_or sizes x.0 0) (and_parts (nat_lt v.0 (slice_index_or sizes x.0 0)) (are_values (map (λ (y : VarId). slice_index_or sizes y.0 0) xs) vs) h).0
control_below sizes (x ∷ xs) (v ∷ vs) (suc k) c d h below =
    control_below sizes xs vs k c d (and_parts (nat_lt v.0 (slice_index_or sizes x.0 0)) (are_values (map (λ (y : VarId). slice_index_or sizes y.0 0) xs) vs) h).1 (omega (arith, below))
