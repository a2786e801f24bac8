-- The copies and the counts of several steps, gathered one after the other: what is gathered and what is left are all.
use Rattle.std.proofs.Common.{◌≡◌, ◌+◌, ◌-◌, ◌*◌, ◌<◌, ◌≤◌, ◌^◌, ℕ, suc, zero, true, List, [], ◌∷◌, ◌++◌, append_assoc, append-nil, sym, ap, ◌∙◌, arith}
use Rattle.std.specs.List.{sum}
use Rattle.lv_model.specs.declared.plant.Plant.{Plant}
use Rattle.lv_model.specs.Lists.{sizes, move_counts}
use Rattle.lv_model.specs.WellFormed.{is_well_formed}
use Rattle.lv_compile.specs.Booleans.{Booleans, booleans_from}
use Rattle.lv_compile.specs.Windows.{past_copies}
use Rattle.lv_compile.specs.WindowLaws.{counts_of}
use Rattle.lv_compile.proofs.SumLemmas.{few_values}
use Rattle.lv_compile.proofs.WindowLemmas.{past_more}
use Rattle.lv_system.specs.Windows.{copies_from}

-- one copy more of those that are left
copies_more : (plant : Plant) (first later left : ℕ) (out new all : List Booleans) (b : Booleans) → 0 < left → out ++ copies_from plant first left ≡ all → b ≡ booleans_from plant first
    → new ≡ out ++ b ∷ [] → later ≡ first + sum (sizes plant) → new ++ copies_from plant later (left - 1) ≡ all
copies_more plant first later zero out new all b some so_far one added is = absurd (omega (arith, some))
copies_more plant first later (suc n) out new all b some so_far one added is =
    let less : suc n - 1 ≡ n = omega arith in
    (λ i. added i ++ copies_from plant (is i) (less i))
    ∙ append_assoc out (b ∷ []) (copies_from plant (first + sum (sizes plant)) n)
    ∙ ap (λ (c : Booleans). out ++ (c ∷ copies_from plant (first + sum (sizes plant)) n)) one
    ∙ so_far

-- what was gathered of so many copies, of which some are left and the next begins with this boolean
pub record AreGathered (plant : Plant) (many first left : ℕ) (out : List Booleans) : Type 0 where
  pub rest : out ++ copies_from plant first left ≡ copies_from plant 0 many
  pub past : past_copies plant first left ≡ past_copies plant 0 many
  pub fit : first + 262144 * left ≤ 262144 * many

pub gathered_none : (plant : Plant) (many left : ℕ) (out : List Booleans) → left ≡ many → out ≡ [] → AreGathered plant many 0 left out
gathered_none plant many left out all none =
    record {
      rest = λ i. none i ++ copies_from plant 0 (all i);
      past = ap (λ (k : ℕ). past_copies plant 0 k) all;
      fit = omega (arith, all);
    }

pub gathered_more : (plant : Plant) → is_well_formed plant ≡ true → (many first later left : ℕ) (out new : List Booleans) (b : Booleans) → AreGathered plant many first left out → 0 < left
    → b ≡ booleans_from plant first → new ≡ out ++ b ∷ [] → later ≡ first + sum b.sizes → AreGathered plant many later (left - 1) new
gathered_more plant h many first later left out new b are some one added at =
    let is : later ≡ first + sum (sizes plant) = at ∙ ap (λ (c : Booleans). first + sum c.sizes) one in
    let few = few_values plant h in
    let fit = are.fit in
    record {
      rest = copies_more plant first later left out new (copies_from plant 0 many) b some are.rest one added is;
      past = past_more plant first later left (past_copies plant 0 many) some are.past is;
      fit = omega (arith, fit, some, is, few);
    }

-- there is room for one copy more
pub gathered_fit : (plant : Plant) → is_well_formed plant ≡ true → (many first left : ℕ) (out : List Booleans) → AreGathered plant many first left out → many ≤ 5 → 0 < left
    → first + sum (sizes plant) < 2 ^ 32
gathered_fit plant h many first left out are most some =
    let few = few_values plant h in
    let fit = are.fit in
    omega (arith, few, fit, most, some)

pub gathered_all : (plant : Plant) (many steps first left : ℕ) (out : List Booleans) → many ≡ suc steps → AreGathered plant many first left out → left ≤ 0
    → (out ≡ copies_from plant 0 (suc steps)) × (first ≡ past_copies plant 0 (suc steps))
gathered_all plant many steps first zero out is are none = (
  sym (append-nil out) ∙ are.rest ∙ ap (λ (k : ℕ). copies_from plant 0 k) is,
  are.past ∙ ap (λ (k : ℕ). past_copies plant 0 k) is,
)
gathered_all plant many steps first (suc n) out is are none = absurd (omega (arith, none))

-- the counts of one step more
pub counts_more : (plant : Plant) (left : ℕ) (own out new all : List ℕ) → 0 < left → out ++ counts_of plant left ≡ all → own ≡ move_counts plant → new ≡ out ++ own → new ++ counts_of plant (left - 1) ≡ all
counts_more plant zero own out new all some so_far one added = absurd (omega (arith, some))
counts_more plant (suc n) own out new all some so_far one added =
    let less : suc n - 1 ≡ n = omega arith in
    (λ i. added i ++ counts_of plant (less i))
    ∙ append_assoc out own (counts_of plant n)
    ∙ ap (λ (ns : List ℕ). out ++ (ns ++ counts_of plant n)) one
    ∙ so_far

pub counts_all : (plant : Plant) (left : ℕ) (out all : List ℕ) → left ≤ 0 → out ++ counts_of plant left ≡ all → out ≡ all
counts_all plant zero out all none so_far = sym (append-nil out) ∙ so_far
counts_all plant (suc n) out all none so_far = absurd (omega (arith, none))
