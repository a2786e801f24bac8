-- Pairs of a slot and a choice by their numbers, and back.
use Rattle.std.proofs.Common.{◌≡◌, ℕ, ◌+◌, ◌-◌, ◌*◌, ◌%◌, ◌≤◌, true, ◌&&◌, nat_eq, List, [], ◌∷◌, length, slice_index_or, Some, None, cond, refl, ◌∙◌, ap, arith, All}
use Rattle.std.specs.List.{list_all}
use Rattle.std.proofs.lemmas.Bool.{and_from, eq-eqb}
use Rattle.std.proofs.lemmas.List.Elements.{All-head, All-tail}
use Rattle.lv_base.specs.declared.search.Pair.{Pair}
use Rattle.lv_base.specs.Choices.{slots_rise}
use Rattle.lv_model.specs.Lists.{IsFew}
use Rattle.lv_cert.specs.Form.{is_within_limit}
use Rattle.lv_cert_meaning.specs.Counting.{is_one_of, are_pairs_of, pairs_in, pairs_of_numbers}
use Rattle.lv_cert_writing.specs.Lines.{pair_numbers}
use Rattle.lv_cert_writing.specs.Pairs.{HasChoice}
use Rattle.lv_cert_writing.proofs.Numbers.{back_again, one_of_place, within, few_at, is_there}

pairs_back : (ps : List Pair) → pairs_in (pair_numbers ps) ≡ ps
pairs_back [] = refl
pairs_back (p ∷ ps) = (λ i. record { slot = back_again p.slot i; choice = back_again p.choice i } ∷ pairs_back ps i)

are_pairs : (counts : List ℕ) (ps : List Pair) → All (HasChoice counts) ps → are_pairs_of counts (pair_numbers ps) ≡ true
are_pairs counts [] have = refl
are_pairs counts (p ∷ ps) have =
    let one = (All-head (HasChoice counts) p ps have).below in
    and_from (is_one_of (length counts) (p.slot + 1) && is_one_of (slice_index_or counts (p.slot + 1 - 1) 0) (p.choice + 1)) (are_pairs_of counts (pair_numbers ps))
    (and_from (is_one_of (length counts) (p.slot + 1)) (is_one_of (slice_index_or counts (p.slot + 1 - 1) 0) (p.choice + 1)) (one_of_place (length counts) p.slot (is_there counts p.slot p.choice one))
    (ap (λ slot. is_one_of (slice_index_or counts slot 0) (p.choice + 1)) (back_again p.slot) ∙ one_of_place (slice_index_or counts p.slot 0) p.choice one))
    (are_pairs counts ps (All-tail (HasChoice counts) p ps have))

pub pairs_read : (counts : List ℕ) (ps : List Pair) → All (HasChoice counts) ps → slots_rise ps ≡ true → pairs_of_numbers counts (pair_numbers ps) ≡ Some ps
pairs_read counts ps have rise =
    ap (λ b. cond b (Some (pairs_in (pair_numbers ps))) None)
    (and_from (are_pairs_of counts (pair_numbers ps)) (slots_rise (pairs_in (pair_numbers ps))) (are_pairs counts ps have) (ap slots_rise (pairs_back ps) ∙ rise))
    ∙ ap Some (pairs_back ps)

-- two numbers for each
pub length_pairs : (ps : List Pair) → length (pair_numbers ps) ≡ 2 * length ps
length_pairs [] = refl
length_pairs (p ∷ ps) = let rest = length_pairs ps in omega (arith, rest)

pub pairs_formed : (counts : List ℕ) (ps : List Pair) → All IsFew counts → length counts ≤ 4096 → All (HasChoice counts) ps → list_all is_within_limit (pair_numbers ps) ≡ true
pairs_formed counts [] few long have = refl
pairs_formed counts (p ∷ ps) few long have =
    let one = (All-head (HasChoice counts) p ps have).below in
    let slot = is_there counts p.slot p.choice one in
    let choice = few_at counts p.slot few in
    and_from (is_within_limit (p.slot + 1)) (list_all is_within_limit ((p.choice + 1) ∷ pair_numbers ps)) (within (p.slot + 1) 4096 (omega (arith, slot, long)) (omega arith))
    (and_from (is_within_limit (p.choice + 1)) (list_all is_within_limit (pair_numbers ps)) (within (p.choice + 1) 64 (omega (arith, one, choice)) (omega arith))
    (pairs_formed counts ps few long (All-tail (HasChoice counts) p ps have)))

pub pairs_even : (ps : List Pair) → nat_eq (length (pair_numbers ps) % 2) 0 ≡ true
pairs_even ps = let long = length_pairs ps in eq-eqb (length (pair_numbers ps) % 2) 0 (omega (arith, long))

pub pairs_odd : (n : ℕ) (ps : List Pair) → nat_eq (length (n ∷ pair_numbers ps) % 2) 1 ≡ true
pairs_odd n ps = let long = length_pairs ps in eq-eqb (length (n ∷ pair_numbers ps) % 2) 1 (omega (arith, long))
