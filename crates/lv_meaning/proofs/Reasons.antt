-- Reasons of impossible candidates are in no possible one, and walks of diagnoses are exact.
use Rattle.std.proofs.Common.{◌≡◌, ℕ, zero, suc, ◌+◌, ◌<◌, Bool, true, false, List, [], ◌∷◌, ◌++◌, length, get_or, refl, sym, ◌∙◌, ap, nat_eq, nat_lt, arith, append_assoc, lt-ltb, eq-eqb}
use Rattle.std.specs.List.{list_all}
use Rattle.std.proofs.Math.Seq.{get_or-append_seam}
use Rattle.std.proofs.lemmas.Bool.{and_from, and_parts, eqb-true, ltb-true}
use Rattle.std.proofs.lemmas.List.{length-append}
use Rattle.lv_base.specs.declared.search.Candidate.{Candidate}
use Rattle.lv_base.specs.declared.search.Pair.{Pair}
use Rattle.lv_base.specs.Choices.{picks, contains_all, pairs_from, pairs_of}
use Rattle.lv_model.specs.declared.plant.Plant.{Plant}
use Rattle.lv_boxes.specs.WalkLaws.{IsMonotone, IsSound}
use Rattle.lv_boxes.proofs.ReasonLemmas.{still_impossible}
use Rattle.lv_meaning.specs.declared.facts.Facts.{Facts}
use Rattle.lv_meaning.specs.Possible.{gives, is_possible}
use Rattle.lv_meaning.specs.Candidates.{is_possible_candidate}
use Rattle.lv_meaning.specs.Diagnosis.{reason_of}
use Rattle.lv_meaning.proofs.Possibility.{possible_less, possible_without}

pub is_monotone : (plant : Plant) (facts : Facts) → IsMonotone (is_possible plant facts)
is_monotone plant facts = record { without = λ front p back. possible_without plant facts front back p }

-- choices have their own pairs
pub own_pairs : (front cs : List ℕ) → contains_all (front ++ cs) (pairs_from (length front) cs) ≡ true
own_pairs front [] = refl
own_pairs front (c ∷ cs) =
    let longer : length (front ++ (c ∷ [])) ≡ length front + 1 = length-append front (c ∷ []) ∙ omega arith in
    let within : length front < length (front ++ (c ∷ cs)) = rw length-append (omega arith) in
    and_from (picks (front ++ (c ∷ cs)) (record { slot = length front; choice = c })) (contains_all (front ++ (c ∷ cs)) (pairs_from (length front + 1) cs))
    (and_from (nat_lt (length front) (length (front ++ (c ∷ cs)))) (nat_eq (get_or (front ++ (c ∷ cs)) (length front) 0) c) (lt-ltb (length front) (length (front ++ (c ∷ cs))) within) (eq-eqb (get_or (front ++ (c ∷ cs)) (length front) 0) c (get_or-append_seam front c cs 0)))
    (sym (λ i. contains_all (append_assoc front (c ∷ []) cs i) (pairs_from (longer i) cs)) ∙ own_pairs (front ++ (c ∷ [])) cs)

-- what holds of all choices as pairs holds of each of them
at_place : (f : Pair → Bool) (cs : List ℕ) (slot i : ℕ) → list_all f (pairs_from slot cs) ≡ true → i < length cs → f (record { slot = slot + i; choice = get_or cs i 0 }) ≡ true
at_place f [] slot i all below = absurd (omega arith)
at_place f (c ∷ cs) slot zero all below =
    let at : slot + 0 ≡ slot = omega arith in
    ap (λ s. f (record { slot = s; choice = c })) at ∙ (and_parts (f (record { slot = slot; choice = c })) (list_all f (pairs_from (slot + 1) cs)) all).0
at_place f (c ∷ cs) slot (suc i) all below =
    let at : slot + suc i ≡ slot + 1 + i = omega arith in
    ap (λ s. f (record { slot = s; choice = get_or cs i 0 })) at
    ∙ at_place f cs (slot + 1) i (and_parts (f (record { slot = slot; choice = c })) (list_all f (pairs_from (slot + 1) cs)) all).1 (omega arith)

at_pair : (f : Pair → Bool) (cs : List ℕ) (p : Pair) → list_all f (pairs_from 0 cs) ≡ true → picks cs p ≡ true → f p ≡ true
at_pair f cs p all is =
    let parts = and_parts (nat_lt p.slot (length cs)) (nat_eq (get_or cs p.slot 0) p.choice) is in
    let at : 0 + p.slot ≡ p.slot = omega arith in
    sym (λ i. f (record { slot = at i; choice = eqb-true (get_or cs p.slot 0) p.choice parts.1 i })) ∙ at_place f cs 0 p.slot all (ltb-true p.slot (length cs) parts.0)

-- and of all pairs that the choices have
pub at_pairs : (f : Pair → Bool) (cs : List ℕ) (ps : List Pair) → list_all f (pairs_of cs) ≡ true → contains_all cs ps ≡ true → list_all f ps ≡ true
at_pairs f cs [] all is = refl
at_pairs f cs (p ∷ ps) all is =
    let parts = and_parts (picks cs p) (contains_all cs ps) is in
    and_from (f p) (list_all f ps) (at_pair f cs p all parts.0) (at_pairs f cs ps all parts.1)

-- what has a false consequence is false
pub apart_by : (b c : Bool) → c ≡ false → (b ≡ true → c ≡ true) → b ≡ false
apart_by true c never follows = sym (follows refl) ∙ never
apart_by false c never follows = refl

pub reason_apart : (plant : Plant) (facts : Facts) (c d : Candidate) → is_possible_candidate plant facts c ≡ false → is_possible_candidate plant facts d ≡ true
    → contains_all d.choices (reason_of plant facts c) ≡ false
reason_apart plant facts c d cannot can =
    apart_by (contains_all d.choices (reason_of plant facts c)) (is_possible plant facts (reason_of plant facts c))
    (still_impossible (is_possible plant facts) [] (pairs_of c.choices) cannot)
    (λ is. possible_less plant facts (pairs_of d.choices) (reason_of plant facts c) (λ moves all. at_pairs (gives moves) d.choices (reason_of plant facts c) all is) can)

-- every candidate suits a diagnosis
pub is_sound : (plant : Plant) (facts : Facts) → IsSound (λ (c : Candidate). true) (is_possible_candidate plant facts) (reason_of plant facts)
is_sound plant facts = record { apart = λ c d one other cannot can. reason_apart plant facts c d cannot can }
