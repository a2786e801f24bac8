-- Numbers below their bounds, as a test says it, are an assignment and a full choice; and the other way round.
use Rattle.std.proofs.Common.{◌≡◌, ◌<◌, ℕ, suc, zero, Bool, true, nat_lt, ◌&&◌, List, [], ◌∷◌, length, map, slice_index_or, refl, ap, ap₂, arith}
use Rattle.std.specs.Cmp.Lexicographic.{pointwise}
use Rattle.std.proofs.lemmas.Bool.{and_parts}
use Rattle.lv_base.specs.declared.ids.ValId.{ValId}
use Rattle.lv_base.specs.declared.ids.MoveId.{MoveId}
use Rattle.lv_base.specs.Tree.{number_of}
use Rattle.lv_compile.specs.Laws.{move_number}
use Rattle.lv_system.specs.Encoding.{value_numbered, move_numbered}
use Rattle.lv_system.specs.Laws.{IsAssignment, IsFullChoice}

abbrev value_number : ValId → ℕ
value_number v = v.0

abbrev number_of_move : MoveId → ℕ
number_of_move m = m.0

assignment_from_first : (n : ℕ) (ns : List ℕ) (v : ℕ) (vs : List ℕ) → nat_lt v n ≡ true → IsAssignment ns (map value_numbered vs) → IsAssignment (n ∷ ns) (map value_numbered (v ∷ vs))
assignment_from_first n ns v vs first rest = record { whole = let long = rest.whole in omega (arith, long); in_range = in_range }
  where
    in_range : (x : ℕ) → x < length (n ∷ ns) → number_of (map value_numbered (v ∷ vs)) x < slice_index_or (n ∷ ns) x 0
    in_range zero below = grind (arith, first)
    in_range (suc x) below = rest.in_range x (omega (arith, below))

pub assignment_from : (sizes numbers : List ℕ) → pointwise nat_lt numbers sizes ≡ true → IsAssignment sizes (map value_numbered numbers)
assignment_from [] [] h = record { whole = refl; in_range = λ x below. absurd (omega (arith, below)) }
assignment_from [] (v ∷ vs) h = absurd (cc)
assignment_from (n ∷ ns) [] h = absurd (cc)
assignment_from (n ∷ ns) (v ∷ vs) h =
    let two = and_parts (nat_lt v n) (pointwise nat_lt vs ns) h in
    assignment_from_first n ns v vs two.0 (assignment_from ns vs two.1)

full_choice_from_first : (n : ℕ) (ns : List ℕ) (v : ℕ) (vs : List ℕ) → nat_lt v n ≡ true → IsFullChoice ns (map move_numbered vs) → IsFullChoice (n ∷ ns) (map move_numbered (v ∷ vs))
full_choice_from_first n ns v vs first rest = record { whole = let long = rest.whole in omega (arith, long); in_range = in_range }
  where
    in_range : (x : ℕ) → x < length (n ∷ ns) → move_number (map move_numbered (v ∷ vs)) x < slice_index_or (n ∷ ns) x 0
    in_range zero below = grind (arith, first)
    in_range (suc x) below = rest.in_range x (omega (arith, below))

pub full_choice_from : (counts numbers : List ℕ) → pointwise nat_lt numbers counts ≡ true → IsFullChoice counts (map move_numbered numbers)
full_choice_from [] [] h = record { whole = refl; in_range = λ x below. absurd (omega (arith, below)) }
full_choice_from [] (v ∷ vs) h = absurd (cc)
full_choice_from (n ∷ ns) [] h = absurd (cc)
full_choice_from (n ∷ ns) (v ∷ vs) h =
    let two = and_parts (nat_lt v n) (pointwise nat_lt vs ns) h in
    full_choice_from_first n ns v vs two.0 (full_choice_from ns vs two.1)

pub below_from_assignment : (sizes : List ℕ) (a : List ValId) → IsAssignment sizes a → pointwise nat_lt (map value_number a) sizes ≡ true
below_from_assignment [] [] is = refl
below_from_assignment [] (v ∷ vs) is = absurd (let long = is.whole in omega (arith, long))
below_from_assignment (n ∷ ns) [] is = absurd (let long = is.whole in omega (arith, long))
below_from_assignment (n ∷ ns) (v ∷ vs) is =
    let less : v.0 < n = is.in_range 0 (omega arith) in
    let first : nat_lt v.0 n ≡ true = grind (arith, less) in
    ap₂ (λ (p q : Bool). p && q) first
    (below_from_assignment ns vs (record { whole = let long = is.whole in omega (arith, long); in_range = λ x below. is.in_range (suc x) (omega (arith, below)) }))

pub below_from_full_choice : (counts : List ℕ) (ms : List MoveId) → IsFullChoice counts ms → pointwise nat_lt (map number_of_move ms) counts ≡ true
below_from_full_choice [] [] is = refl
below_from_full_choice [] (v ∷ vs) is = absurd (let long = is.whole in omega (arith, long))
below_from_full_choice (n ∷ ns) [] is = absurd (let long = is.whole in omega (arith, long))
below_from_full_choice (n ∷ ns) (v ∷ vs) is =
    let less : v.0 < n = is.in_range 0 (omega arith) in
    let first : nat_lt v.0 n ≡ true = grind (arith, less) in
    ap₂ (λ (p q : Bool). p && q) first
    (below_from_full_choice ns vs (record { whole = let long = is.whole in omega (arith, long); in_range = λ k below. is.in_range (suc k) (omega (arith, below)) }))

-- the numbers of an assignment give it back

pub values_back : (a : List ValId) → map value_numbered (map value_number a) ≡ a
values_back [] = refl
values_back (v ∷ vs) = ap (λ (rest : List ValId). v ∷ rest) (values_back vs)

pub moves_back : (ms : List MoveId) → map move_numbered (map number_of_move ms) ≡ ms
moves_back [] = refl
moves_back (m ∷ ms) = ap (λ (rest : List MoveId). m ∷ rest) (moves_back ms)
