-- What the literals of values and moves say where truth values encode assignments and a full choice, and that they are of
-- booleans that there are.
use Rattle.std.proofs.Common.{◌≡◌, ◌+◌, ◌<◌, ℕ, Bool, true, false, not, nat_eq, List, take, slice_index_or, ap, ◌∙◌, arith}
use Rattle.std.specs.List.{sum}
use Rattle.lv_base.specs.declared.ids.ValId.{ValId}
use Rattle.lv_base.specs.declared.ids.MoveId.{MoveId}
use Rattle.lv_clauses.specs.Literals.{same_truth, in_range}
use Rattle.lv_base.specs.Tree.{number_of}
use Rattle.lv_model.specs.declared.plant.Plant.{Plant}
use Rattle.lv_model.specs.Lists.{sizes, move_counts}
use Rattle.lv_compile.specs.Booleans.{Booleans, value_literal, booleans_now, booleans_next, first_choice, bool_count}
use Rattle.lv_compile.specs.FormulaClauses.{size_of}
use Rattle.lv_compile.specs.Laws.{literal_is_true, Encode, EncodeMoves, move_number}
use Rattle.lv_compile.proofs.BooleanLemmas.{is_there, among_all}
use Rattle.lv_compile.proofs.FormulaLemmas.{as_true, as_false}
use Rattle.lv_system.specs.Choices.{Choices, move_count, choice_literal}

module _ (truth : ℕ → Bool) where
  -- a variable has the value exactly where its literal is true
  pub value_true : (b : Booleans) (a : List ValId) → Encode truth b a → (x v : ℕ) → v < size_of b x
      → literal_is_true truth (value_literal b x v true) ≡ nat_eq (number_of a x) v
  value_true b a code x v below = ap (λ (p : Bool). same_truth p true) (code.values x v (is_there b.sizes x v below) below) ∙ as_true (nat_eq (number_of a x) v)

  pub value_false : (b : Booleans) (a : List ValId) → Encode truth b a → (x v : ℕ) → v < size_of b x
      → literal_is_true truth (value_literal b x v false) ≡ not (nat_eq (number_of a x) v)
  value_false b a code x v below = ap (λ (p : Bool). same_truth p false) (code.values x v (is_there b.sizes x v below) below) ∙ as_false (nat_eq (number_of a x) v)

  -- a part makes the move exactly where its literal is true
  pub choice_true : (c : Choices) (ms : List MoveId) → EncodeMoves truth c.first c.counts ms → (k n : ℕ) → n < move_count c k
      → literal_is_true truth (choice_literal c k n true) ≡ nat_eq (move_number ms k) n
  choice_true c ms code k n below = ap (λ (p : Bool). same_truth p true) (code.values k n (is_there c.counts k n below) below) ∙ as_true (nat_eq (move_number ms k) n)

  pub choice_false : (c : Choices) (ms : List MoveId) → EncodeMoves truth c.first c.counts ms → (k n : ℕ) → n < move_count c k
      → literal_is_true truth (choice_literal c k n false) ≡ not (nat_eq (move_number ms k) n)
  choice_false c ms code k n below = ap (λ (p : Bool). same_truth p false) (code.values k n (is_there c.counts k n below) below) ∙ as_false (nat_eq (move_number ms k) n)

module _ (plant : Plant) (sign : Bool) where
  pub now_in_range : (x v : ℕ) → v < size_of (booleans_now plant) x → in_range (bool_count plant) (value_literal (booleans_now plant) x v sign) ≡ true
  now_in_range x v below =
      let among = among_all (sizes plant) x (is_there (sizes plant) x v below) in
      let less : 0 + sum (take x (sizes plant)) + v < bool_count plant = omega (arith, among, below) in
      grind (arith, less)

  pub next_in_range : (x v : ℕ) → v < size_of (booleans_next plant) x → in_range (bool_count plant) (value_literal (booleans_next plant) x v sign) ≡ true
  next_in_range x v below =
      let among = among_all (sizes plant) x (is_there (sizes plant) x v below) in
      let less : sum (sizes plant) + sum (take x (sizes plant)) + v < bool_count plant = omega (arith, among, below) in
      grind (arith, less)

  pub choice_in_range : (k n : ℕ) → n < slice_index_or (move_counts plant) k 0
      → in_range (bool_count plant) (choice_literal (record { first = first_choice plant; counts = move_counts plant }) k n sign) ≡ true
  choice_in_range k n below =
      let among = among_all (move_counts plant) k (is_there (move_counts plant) k n below) in
      let less : first_choice plant + sum (take k (move_counts plant)) + n < bool_count plant = omega (arith, among, below) in
      grind (arith, less)
