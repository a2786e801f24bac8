-- What is read off truth values is what they encode.
use Rattle.std.proofs.Common.{◌≡◌, ◌+◌, ◌<◌, ◌≤◌, ℕ, Bool, true, false, nat_eq, List, [], ◌∷◌, ◌++◌, length, map, slice_index_or, sym, subst, ap, ◌∙◌, arith, ◌⊎◌, inl, inr}
use Rattle.std.proofs.lemmas.Bool.{cases_lt}
use Rattle.std.proofs.lemmas.List.{length-append, length-map, get_or_append_left}
use Rattle.std.proofs.Math.ListN.{get_or-map}
use Rattle.std.proofs.Math.Seq.{get_or-append_seam}
use Rattle.lv_base.specs.declared.ids.ValId.{ValId}
use Rattle.lv_base.specs.declared.ids.MoveId.{MoveId}
use Rattle.lv_clauses.specs.Literals.{same_truth}
use Rattle.lv_clauses.specs.ClauseMap.{satisfies}
use Rattle.lv_base.specs.Tree.{number_of}
use Rattle.lv_model.specs.declared.plant.Plant.{Plant}
use Rattle.lv_model.specs.Lists.{move_counts}
use Rattle.lv_model.specs.WellFormed.{is_well_formed}
use Rattle.lv_compile.specs.Booleans.{Booleans, value_literal, booleans_now, booleans_next, first_choice}
use Rattle.lv_compile.specs.FormulaClauses.{size_of}
use Rattle.lv_compile.specs.Laws.{literal_is_true, Encode, EncodeMoves, move_number, IsEncodedStep}
use Rattle.lv_compile.specs.ModelClauses.{model_clauses}
use Rattle.lv_compile.proofs.FormulaLemmas.{as_true}
use Rattle.lv_compile.proofs.StepLemmas.{step_exact}
use Rattle.lv_system.specs.System.{SystemValue, IsSystemOf}
use Rattle.lv_system.specs.Encoding.{truth_in, value_numbered, move_numbered}
use Rattle.lv_system.specs.Laws.{IsAssignment, IsWholeStep, IsModelOf}
use Rattle.lv_system.specs.Decoding.{HaveNumbers, IsNumberOf, AreNumbers, IsDecoded}
use Rattle.lv_system.proofs.NumberingLemmas.{numbered_hold}
use Rattle.lv_system.proofs.SystemLemmas.{model_is_a_step}

-- one thing

module _ (truth : ℕ → Bool) (b : Booleans) (x : ℕ) where
  -- its number is no less
  pub record IsPast (n : ℕ) : Type 0 where
    pub past : (number : ℕ → ℕ) → HaveNumbers truth b number → n ≤ number x

  pub past_none : IsPast 0
  past_none = record { past = λ number have. omega arith }

  module _ (there : x < length b.sizes) (n : ℕ) (before : IsPast n) (below : n < size_of b x) where
    tells : (number : ℕ → ℕ) → HaveNumbers truth b number → literal_is_true truth (value_literal b x n true) ≡ nat_eq (number x) n
    tells number have = ap (λ (p : Bool). same_truth p true) (have.values x n there below) ∙ as_true (nat_eq (number x) n)

    pub past_one : literal_is_true truth (value_literal b x n true) ≡ false → IsPast (n + 1)
    past_one denied = record {
      past = λ number have.
          let least = before.past number have in
          let other : nat_eq (number x) n ≡ false = sym (tells number have) ∙ denied in
          grind (arith, least, other);
    }

    pub found : literal_is_true truth (value_literal b x n true) ≡ true → IsNumberOf truth b x n
    found told = record {
      same = λ number have.
          let equal : nat_eq (number x) n ≡ true = sym (tells number have) ∙ told in
          grind (arith, equal);
    }

  -- past all of them there is none to be encoded
  pub past_all : x < length b.sizes → (n m : ℕ) → IsPast n → size_of b x ≤ n → IsNumberOf truth b x m
  past_all there n m before all = record {
    same = λ number have.
        let least = before.past number have in
        let few = have.in_range x there in
        absurd (omega (arith, least, few, all));
  }

-- things in order

module _ (truth : ℕ → Bool) (b : Booleans) where
  pub record AreNumbersTo (n : ℕ) (numbers : List ℕ) : Type 0 where
    pub long : length numbers ≡ n
    pub each : (x : ℕ) → x < n → IsNumberOf truth b x (slice_index_or numbers x 0)

  pub numbers_none : (numbers : List ℕ) → numbers ≡ [] → AreNumbersTo 0 numbers
  numbers_none numbers none = record { long = ap length none; each = λ x below. absurd (omega (arith, below)) }

  pub numbers_more : (n : ℕ) (numbers new : List ℕ) (m : ℕ) → AreNumbersTo n numbers → new ≡ numbers ++ m ∷ [] → IsNumberOf truth b n m → AreNumbersTo (n + 1) new
  numbers_more n numbers new m before added is = subst (AreNumbersTo (n + 1)) (sym added) (record { long = whole; each = each })
    where
      whole : length (numbers ++ m ∷ []) ≡ n + 1
      whole = let both = length-append numbers (m ∷ []) in let long = before.long in omega (arith, both, long)

      each : (x : ℕ) → x < n + 1 → IsNumberOf truth b x (slice_index_or (numbers ++ m ∷ []) x 0)
      each x below = by (cases_lt x n)
        where
          by : (x < n) ⊎ (n ≤ x) → IsNumberOf truth b x (slice_index_or (numbers ++ m ∷ []) x 0)
          by (inl less) =
              let long = before.long in
              let front : slice_index_or (numbers ++ m ∷ []) x 0 ≡ slice_index_or numbers x 0 = get_or_append_left numbers (m ∷ []) 0 x (omega (arith, less, long)) in
              subst (IsNumberOf truth b x) (sym front) (before.each x less)
          by (inr more) =
              let last : x ≡ n = omega (arith, below, more) in
              let long = before.long in
              let at : x ≡ length numbers = omega (arith, last, long) in
              let behind : slice_index_or (numbers ++ m ∷ []) x 0 ≡ m = ap (λ (k : ℕ). slice_index_or (numbers ++ m ∷ []) k 0) at ∙ get_or-append_seam numbers m [] 0 in
              subst (λ (k : ℕ). IsNumberOf truth b k (slice_index_or (numbers ++ m ∷ []) x 0)) (sym last) (subst (IsNumberOf truth b n) (sym behind) is)

  pub numbers_all : (n : ℕ) (numbers : List ℕ) → AreNumbersTo n numbers → n ≡ length b.sizes → AreNumbers truth b numbers
  numbers_all n numbers are all = record { whole = are.long ∙ all; each = λ x below. are.each x (omega (arith, below, all)) }

  module _ (number : ℕ → ℕ) (have : HaveNumbers truth b number) (numbers : List ℕ) (are : AreNumbers truth b numbers) where
    pub numbers_are : (x : ℕ) → x < length b.sizes → slice_index_or numbers x 0 ≡ number x
    numbers_are x there = (are.each x there).same number have

  module _ (a : List ValId) (code : Encode truth b a) (numbers : List ℕ) (are : AreNumbers truth b numbers) where
    value_is : (x : ℕ) → x < length b.sizes → number_of (map value_numbered numbers) x ≡ number_of a x
    value_is x there =
        ap (λ (v : ValId). v.0) (get_or-map value_numbered numbers x 0)
        ∙ numbers_are (number_of a) (record { in_range = code.in_range; values = code.values }) numbers are x there

    pub code_of_values : Encode truth b (map value_numbered numbers)
    code_of_values =
        record {
          in_range = λ x there. let e = value_is x there in let below = code.in_range x there in omega (arith, e, below);
          values = λ x v there below. code.values x v there below ∙ ap (λ (n : ℕ). nat_eq n v) (sym (value_is x there));
        }

    pub whole_values : IsAssignment b.sizes (map value_numbered numbers)
    whole_values = record { whole = length-map numbers value_numbered ∙ are.whole; in_range = code_of_values.in_range }

  module _ (ms : List MoveId) (code : EncodeMoves truth b.first b.sizes ms) (numbers : List ℕ) (are : AreNumbers truth b numbers) where
    move_is : (k : ℕ) → k < length b.sizes → move_number (map move_numbered numbers) k ≡ move_number ms k
    move_is k there =
        ap (λ (m : MoveId). m.0) (get_or-map move_numbered numbers k 0)
        ∙ numbers_are (move_number ms) (record { in_range = code.in_range; values = code.values }) numbers are k there

    pub code_of_moves : EncodeMoves truth b.first b.sizes (map move_numbered numbers)
    code_of_moves =
        record {
          each = length-map numbers move_numbered ∙ are.whole;
          in_range = λ k there. let e = move_is k there in let below = code.in_range k there in omega (arith, e, below);
          values = λ k n there below. code.values k n there below ∙ ap (λ (m : ℕ). nat_eq m n) (sym (move_is k there));
        }

-- the whole step

module _ (s : SystemValue) (values : List Bool) (long : length values ≡ s.set.bools) (all : satisfies values s.set.slots ≡ true) (first second third : List ℕ)
    (now : AreNumbers (truth_in values) s.before first) (next : AreNumbers (truth_in values) s.after second)
    (moves : AreNumbers (truth_in values) (record { sizes = s.counts; first = s.first_choice }) third) where
  module _ (plant : Plant) (h : is_well_formed plant ≡ true) (is : IsSystemOf plant s) where
    step : IsEncodedStep plant (truth_in values)
    step = model_is_a_step plant h s is values all

    first_are : AreNumbers (truth_in values) (booleans_now plant) first
    first_are = subst (λ (b : Booleans). AreNumbers (truth_in values) b first) is.before now

    second_are : AreNumbers (truth_in values) (booleans_next plant) second
    second_are = subst (λ (b : Booleans). AreNumbers (truth_in values) b second) is.after next

    third_are : AreNumbers (truth_in values) (record { sizes = move_counts plant; first = first_choice plant }) third
    third_are =
        subst (λ (n : ℕ). AreNumbers (truth_in values) (record { sizes = move_counts plant; first = n }) third) is.first_choice
        (subst (λ (ns : List ℕ). AreNumbers (truth_in values) (record { sizes = ns; first = s.first_choice }) third) is.counts moves)

    code_now : Encode (truth_in values) (booleans_now plant) (map value_numbered first)
    code_now = code_of_values (truth_in values) (booleans_now plant) step.before step.now first first_are

    code_next : Encode (truth_in values) (booleans_next plant) (map value_numbered second)
    code_next = code_of_values (truth_in values) (booleans_next plant) step.after step.next second second_are

    code_choice : EncodeMoves (truth_in values) (first_choice plant) (move_counts plant) (map move_numbered third)
    code_choice = code_of_moves (truth_in values) (record { sizes = move_counts plant; first = first_choice plant }) step.moves step.choice third third_are

    whole_step : IsWholeStep plant (map value_numbered first) (map value_numbered second) (map move_numbered third)
    whole_step =
        record {
          before = whole_values (truth_in values) (booleans_now plant) step.before step.now first first_are;
          after = whole_values (truth_in values) (booleans_next plant) step.after step.next second second_are;
          moves = record { whole = code_choice.each; in_range = code_choice.in_range };
          step =
              sym (step_exact plant h (truth_in values) (map value_numbered first) (map value_numbered second) code_now code_next (map move_numbered third) code_choice)
              ∙ numbered_hold values s.set.slots all s.ids (model_clauses plant) is.numbered.each;
        }

    model_of : IsModelOf plant s (map value_numbered first) (map value_numbered second) (map move_numbered third) values
    model_of = record { whole = long ∙ is.bools; satisfied = all; now = code_now; next = code_next; choice = code_choice }

  pub decoded_by : (a b : List ValId) (ms : List MoveId) → a ≡ map value_numbered first → b ≡ map value_numbered second → ms ≡ map move_numbered third → IsDecoded s values a b ms
  decoded_by a b ms one two three =
      subst (λ (a2 : List ValId). IsDecoded s values a2 b ms) (sym one)
      (subst (λ (b2 : List ValId). IsDecoded s values (map value_numbered first) b2 ms) (sym two)
      (subst (λ (ms2 : List MoveId). IsDecoded s values (map value_numbered first) (map value_numbered second) ms2) (sym three)
      (record { step = whole_step; encoded = model_of })))
