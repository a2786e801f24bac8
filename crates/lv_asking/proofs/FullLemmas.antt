-- A choice for each slot can be asked for.
use Rattle.std.proofs.Common.{◌≡◌, ℕ, suc, ◌+◌, ◌<◌, true, nat_lt, List, [], ◌∷◌, get_or, refl, sym, ap, ◌∙◌, arith, All}
use Rattle.std.proofs.lemmas.Bool.{and_parts, and_from, lt-ltb, ltb-true}
use Rattle.std.proofs.lemmas.List.Elements.{All-cons}
use Rattle.lv_base.specs.Choices.{slots_rise_from, pairs_from, pairs_of}
use Rattle.lv_meaning.specs.PossibleLaws.{are_below}
use Rattle.lv_asking.specs.Literals.{HasMove}
use Rattle.lv_asking.specs.Asking.{IsPartial}

-- the pairs of a full choice are choices of their slots, slot by slot
choices_rise : (slot : ℕ) (cs : List ℕ) → slots_rise_from slot (pairs_from slot cs) ≡ true
choices_rise slot [] = refl
choices_rise slot (c ∷ cs) = and_from (nat_lt slot (slot + 1)) (slots_rise_from (slot + 1) (pairs_from (slot + 1) cs)) (lt-ltb slot (slot + 1) (omega arith)) (choices_rise (slot + 1) cs)

choices_have : (counts : List ℕ) (slot : ℕ) (ns cs : List ℕ) → ((k : ℕ) → get_or counts (slot + k) 0 ≡ get_or ns k 0) → are_below ns cs ≡ true → All (HasMove counts) (pairs_from slot cs)
choices_have counts slot ns [] at below = λ k d inside. absurd (omega (arith, inside))
choices_have counts slot [] (c ∷ cs) at below = absurd (cc below)
choices_have counts slot (n ∷ ns) (c ∷ cs) at below =
    let two = and_parts (nat_lt c n) (are_below ns cs) below in
    let less : c < n = ltb-true c n two.0 in
    let same : slot + 0 ≡ slot = omega arith in
    let here : get_or counts slot 0 ≡ n = sym (ap (λ k. get_or counts k 0) same) ∙ at 0 in
    All-cons (HasMove counts) (record { slot = slot; choice = c }) (pairs_from (slot + 1) cs) (record { below = omega (arith, less, here) })
    (choices_have counts (slot + 1) ns cs (λ k. let later : slot + 1 + k ≡ slot + suc k = omega arith in ap (λ j. get_or counts j 0) later ∙ at (suc k)) two.1)

pub full_is_partial : (counts cs : List ℕ) → are_below counts cs ≡ true → IsPartial counts (pairs_of cs)
full_is_partial counts cs below =
    record { rising = choices_rise 0 cs; moves = choices_have counts 0 counts cs (λ k. let same : 0 + k ≡ k = omega arith in ap (λ j. get_or counts j 0) same) below }
