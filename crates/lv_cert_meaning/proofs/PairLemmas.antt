-- What numbers two by two are where they are such, by whether their slots rise.
use Rattle.std.proofs.Common.{◌≡◌, ℕ, Bool, true, false, ◌&&◌, List, Some, None, if◌then◌else◌, refl, sym, ap, ap₂, ◌∙◌}
use Rattle.lv_base.specs.declared.search.Pair.{Pair}
use Rattle.lv_base.specs.Choices.{slots_rise}
use Rattle.lv_cert_meaning.specs.Counting.{are_pairs_of, pairs_in, pairs_of_numbers}

module _ (counts ns : List ℕ) where
  told : (ps : List Pair) → Some ps ≡ (if are_pairs_of counts ns then Some (pairs_in ns) else None) → (are_pairs_of counts ns ≡ true) × (ps ≡ pairs_in ns)
  told ps = by (are_pairs_of counts ns) refl
    where
      by : (b : Bool) → are_pairs_of counts ns ≡ b → Some ps ≡ (if b then Some (pairs_in ns) else None) → (are_pairs_of counts ns ≡ true) × (ps ≡ pairs_in ns)
      by true e h = (e, cc h)
      by false e h = absurd (cc h)

  by_rising : (b : Bool) (ps qs : List Pair) → Some ps ≡ (if are_pairs_of counts ns then Some (pairs_in ns) else None) → qs ≡ ps → b ≡ slots_rise qs
      → pairs_of_numbers counts ns ≡ (if b then Some ps else None)
  by_rising b ps qs h same rises =
      let two = told ps h in
      ap₂ (λ (p q : Bool). if p && q then Some (pairs_in ns) else None) two.0 (ap slots_rise (sym two.1 ∙ sym same) ∙ sym rises)
      ∙ ap (λ (rs : List Pair). if b then Some rs else None) (sym two.1)

  pub not_rising : (ps qs : List Pair) → Some ps ≡ (if are_pairs_of counts ns then Some (pairs_in ns) else None) → qs ≡ ps → false ≡ slots_rise qs → None ≡ pairs_of_numbers counts ns
  not_rising ps qs h same rises = sym (by_rising false ps qs h same rises)

  pub rising : (ps qs rs : List Pair) → Some ps ≡ (if are_pairs_of counts ns then Some (pairs_in ns) else None) → qs ≡ ps → true ≡ slots_rise qs → rs ≡ ps
      → Some rs ≡ pairs_of_numbers counts ns
  rising ps qs rs h same rises are = ap Some are ∙ sym (by_rising true ps qs h same rises)
