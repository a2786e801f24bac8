-- The texts made for numbers are accepted: they are of 31 rows, of which each is judged.
use Rattle.std.proofs.Common.{◌≡◌, ◌≢◌, ◌<◌, ℕ, zero, suc, ◌+◌, ◌-◌, ◌%◌, Bool, true, false, ◌&&◌, nat_eq, List, ◌++◌, refl, sym, subst, arith, codes}
use Rattle.std.proofs.lemmas.Bool.{and_parts, eqb-true, eqb-false}
use Rattle.std.specs.Fmt.{digits}
use Rattle.lv_gen.specs.Series.{valve_type, part_lines, link_lines, model_text}
use Rattle.lv_formula_text.specs.Descent.{phrase_of}
use Rattle.lv_reader.specs.Keywords.{keyword_of}
use Rattle.lv_checker.specs.Checking.{checked}
use Rattle.lv_checker.specs.lv_model_entries.Entries.{inside_entry, outside_entry}
use Rattle.lv_checker.specs.Faults.{fault_of_entry}
use Rattle.lv_checker.specs.Verdicts.{Verdict, accepted, refused, IsVerdict}
use Rattle.lv_checker.specs.Forms.{form_by}
use Rattle.lv_checker.specs.Laws.{IsAccepted, SeriesAreAccepted}
use Rattle.lv_checker.specs.Reading.{verdict_on}
use Rattle.lv_checker.proofs.ReadingLemmas.{exists}

abbrev is_accepted : Verdict → Bool
is_accepted (accepted plant) = true
is_accepted (refused code line) = false

-- the text of so many valves in a row
abbrev row_text : ℕ → List ℕ
row_text v = codes "model series\n" ++ valve_type ++ part_lines v ++ codes "law v1.inn=some\n" ++ link_lines (v - 1)

-- it has a model
abbrev accepts : ℕ → Bool
accepts k = is_accepted (verdict_on (row_text (2 + k)))

abbrev all_below : ℕ → (ℕ → Bool) → Bool
all_below zero p = true
all_below (suc n) p = p n && all_below n p

-- each row was judged
rows : all_below 31 accepts ≡ true
unfolding verdict_on checked keyword_of form_by phrase_of inside_entry outside_entry fault_of_entry valve_type digits
rows = refl

by_place : (p : ℕ → Bool) (n k : ℕ) → p n ≡ true → (k < n → p k ≡ true) → k < suc n → (b : Bool) → nat_eq k n ≡ b → p k ≡ true
by_place p n k here rest within true e = subst (λ j. p j ≡ true) (sym (eqb-true k n e)) here
by_place p n k here rest within false e = let apart : k ≢ n = eqb-false k n e in rest (omega (arith, within, apart))

below : (p : ℕ → Bool) (n k : ℕ) → all_below n p ≡ true → k < n → p k ≡ true
below p zero k h within = absurd (omega arith)
below p (suc n) k h within =
    let parts = and_parts (p n) (all_below n p) h in
    by_place p n k parts.0 (λ less. below p n k parts.1 less) within (nat_eq k n) refl

of_verdict : (bytes : List ℕ) (v : Verdict) → IsVerdict bytes v → is_accepted v ≡ true → IsAccepted bytes
of_verdict bytes (accepted plant) is h = record { plant = plant; verdict = is }
of_verdict bytes (refused code line) is h = absurd (cc h)

few : (n : ℕ) → n % 31 < 31
few n = omega arith

pub series_accepted : SeriesAreAccepted
series_accepted n = of_verdict (model_text n) (verdict_on (model_text n)) (exists (model_text n)) (below accepts 31 (n % 31) rows (few n))
