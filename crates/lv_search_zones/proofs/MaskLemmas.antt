-- Which moves the mask of a mode has.
use Rattle.std.proofs.Common.{◌≡◌, ℕ, zero, suc, ◌+◌, ◌^◌, ◌<◌, ◌≤◌, Bool, true, false, nat_eq, bit_or, max, List, [], ◌∷◌, length, drop, cond, refl, sym, ap, ◌∙◌, arith}
use Rattle.std.specs.Int.{bit_at}
use Rattle.std.specs.Int.Bits.{or_zero_r}
use Rattle.std.proofs.lemmas.List.{drop_all}
use Rattle.std.proofs.lemmas.Nat.Bits.{bit_at_or, bit_at-zero, bit_at-pow_same, bit_at-pow_other, same_from_bits}
use Rattle.lv_model.specs.declared.plant.Move.{Move}
use Rattle.lv_boxes.specs.Masks.{has_choice}
use Rattle.lv_meaning.specs.CandidateLaws.{goes_from}
use Rattle.lv_search_zones.specs.Moves.{mask_from, mask_of}

largest : (a b c : ℕ) → max (max a b) c ≡ max a (max b c)
largest a b c = omega arith

pub or_in_turn : (a b c : ℕ) → bit_or (bit_or a b) c ≡ bit_or a (bit_or b c)
or_in_turn a b c =
    same_from_bits (bit_or (bit_or a b) c) (bit_or a (bit_or b c))
    (λ i. bit_at_or (bit_or a b) c i
    ∙ ap (λ x. max x (bit_at c i)) (bit_at_or a b i)
    ∙ largest (bit_at a i) (bit_at b i) (bit_at c i)
    ∙ ap (λ x. max (bit_at a i) x) (sym (bit_at_or b c i))
    ∙ sym (bit_at_or a (bit_or b c) i))

-- one move's bit
bit_of_other : (b : Bool) (n c : ℕ) → (c ≡ n → ⊥) → bit_at (cond b (2 ^ n) 0) c ≡ 0
bit_of_other true n c other = bit_at-pow_other n c other
bit_of_other false n c other = bit_at-zero c

bit_of_own : (b : Bool) (n : ℕ) → bit_at (cond b (2 ^ n) 0) n ≡ cond b 1 0
bit_of_own true n = bit_at-pow_same n
bit_of_own false n = bit_at-zero n

-- no move before the first
none_below : (n mode : ℕ) (ms : List Move) (c : ℕ) → c < n → bit_at (mask_from n mode ms) c ≡ 0
none_below n mode [] c less = bit_at-zero c
none_below n mode (m ∷ ms) c less =
    bit_at_or (cond (nat_eq m.source.0 mode) (2 ^ n) 0) (mask_from (n + 1) mode ms) c
    ∙ (rw (bit_of_other (nat_eq m.source.0 mode) n c (λ same. omega (arith, same, less)), none_below (n + 1) mode ms c (omega (arith, less))) (omega arith))

bit_at_move : (n mode : ℕ) (ms : List Move) (c k : ℕ) → k ≡ n + c → bit_at (mask_from n mode ms) k ≡ cond (goes_from ms mode c) 1 0
bit_at_move n mode [] c k is = bit_at-zero k
bit_at_move n mode (m ∷ ms) zero k is =
    let here : k ≡ n = omega (arith, is) in
    bit_at_or (cond (nat_eq m.source.0 mode) (2 ^ n) 0) (mask_from (n + 1) mode ms) k
    ∙ (rw (here, bit_of_own (nat_eq m.source.0 mode) n, none_below (n + 1) mode ms n (omega arith)) (omega arith))
bit_at_move n mode (m ∷ ms) (suc c) k is =
    bit_at_or (cond (nat_eq m.source.0 mode) (2 ^ n) 0) (mask_from (n + 1) mode ms) k
    ∙ (rw (bit_of_other (nat_eq m.source.0 mode) n k (λ same. omega (arith, same, is)), bit_at_move (n + 1) mode ms c k (omega (arith, is))) (omega arith))

has_by : (b : Bool) → nat_eq (cond b 1 0) 1 ≡ b
has_by true = refl
has_by false = refl

-- the mask has a choice where there is a move of this number from the mode
pub mask_has : (mode : ℕ) (ms : List Move) (c : ℕ) → has_choice (mask_of mode ms) c ≡ goes_from ms mode c
mask_has mode ms c = ap (λ x. nat_eq x 1) (bit_at_move 0 mode ms c c (omega arith)) ∙ has_by (goes_from ms mode c)

-- one more move is taken in
pub mask_more : (mask n mode whole bit : ℕ) (m : Move) (left ms : List Move) → left ≡ m ∷ ms → bit ≡ cond (nat_eq m.source.0 mode) (2 ^ n) 0 → bit_or mask (mask_from n mode left) ≡ whole
    → bit_or (bit_or mask bit) (mask_from (n + 1) mode ms) ≡ whole
mask_more mask n mode whole bit m left ms is bit_is h =
    or_in_turn mask bit (mask_from (n + 1) mode ms)
    ∙ ap (λ b. bit_or mask (bit_or b (mask_from (n + 1) mode ms))) bit_is
    ∙ ap (λ (l : List Move). bit_or mask (mask_from n mode l)) (sym is)
    ∙ h

-- none is left
pub mask_whole : (mask n mode whole : ℕ) (ms : List Move) → length ms ≤ n → bit_or mask (mask_from n mode (drop n ms)) ≡ whole → mask ≡ whole
mask_whole mask n mode whole ms done h = sym (or_zero_r mask) ∙ ap (λ (l : List Move). bit_or mask (mask_from n mode l)) (sym (drop_all n ms done)) ∙ h
