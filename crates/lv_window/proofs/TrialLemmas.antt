-- What a trial of trajectories asks, and what it tells.
use Rattle.std.proofs.Common.{◌≡◌, ℕ, zero, suc, ◌+◌, ◌*◌, ◌^◌, ◌<◌, ◌≤◌, true, nat_lt, List, [], ◌∷◌, ◌++◌, length, refl, subst, ap, ◌∙◌, arith, All}
use Rattle.std.specs.List.{sum}
use Rattle.std.proofs.lemmas.Bool.{and_parts}
use Rattle.std.proofs.lemmas.List.{length-map, length-append}
use Rattle.lv_base.specs.declared.ids.Lit.{Lit}
use Rattle.lv_clauses.specs.ClauseMap.{ClauseMap}
use Rattle.lv_model.specs.declared.plant.Plant.{Plant}
use Rattle.lv_model.specs.Lists.{part_moves, move_counts}
use Rattle.lv_model.specs.WellFormed.{is_well_formed}
use Rattle.lv_compile.specs.Windows.{window_choice, window_bools}
use Rattle.lv_compile.specs.WindowLaws.{counts_of}
use Rattle.lv_system.specs.Choices.{Choices}
use Rattle.lv_system.specs.Windows.{WindowValue, IsWindowOf}
use Rattle.lv_system.proofs.WindowLemmas.{moves_sum}
use Rattle.lv_meaning.specs.declared.facts.Facts.{Facts}
use Rattle.lv_meaning.specs.PossibleLaws.{are_below}
use Rattle.lv_asking.specs.Literals.{IsOnce}
use Rattle.lv_asking.specs.Asking.{AskingValue, AskTheSame, Decides}
use Rattle.lv_asking.proofs.SameLemmas.{decides_the_same}
use Rattle.lv_window.specs.Possible.{is_possible_over}
use Rattle.lv_window.specs.Known.{StepFits, window_literals}
use Rattle.lv_window.specs.Trial.{TellsWindow}
use Rattle.lv_window.proofs.MeaningLemmas.{window_decides}

module _ (plant : Plant) (steps : List Facts) (s : WindowValue) (is : IsWindowOf plant (length steps) s) where
  -- the choices stand behind the values
  pub first_is : (choices : Choices) → choices ≡ s.choices → (n : ℕ) → n ≡ choices.first → n ≡ window_choice plant (length steps)
  first_is choices same n at = at ∙ ap (λ (c : Choices). c.first) (same ∙ is.choices)

  pub choices_fit : (choices : Choices) → choices ≡ s.choices → (set : ClauseMap) → set ≡ s.set → choices.first + sum choices.counts ≤ set.bools
  choices_fit choices same set set_is =
      let first : choices.first ≡ window_choice plant (length steps) = ap (λ (c : Choices). c.first) (same ∙ is.choices) in
      let counts : sum choices.counts ≡ sum (counts_of plant (length steps)) = ap (λ (c : Choices). sum c.counts) (same ∙ is.choices) in
      let all = moves_sum plant (window_choice plant (length steps)) (length steps) in
      let bools : set.bools ≡ window_bools plant (length steps) = ap (λ (m : ClauseMap). m.bools) set_is ∙ is.bools in
      omega (arith, first, counts, all, bools)

  abbrev own_asking : List Lit → AskingValue
  own_asking assumed = record { set = s.set; choices = s.choices; assumed = assumed }

  -- what is asked tells what is possible over the steps
  pub tells_window : is_well_formed plant ≡ true → 1 ≤ length steps → All (StepFits plant) steps → (choices : Choices) → choices ≡ s.choices → (set : ClauseMap) → set ≡ s.set → (n : ℕ) → (lits : List Lit)
      → lits ≡ window_literals plant 0 steps → (assumed : List Lit) → IsOnce n lits assumed → (a : AskingValue) → AskTheSame (record { set = set; choices = choices; assumed = assumed }) a → TellsWindow plant steps a
  tells_window h some fits choices same set set_is n lits lits_are assumed once a asks =
      let own : IsOnce n (window_literals plant 0 steps) assumed = subst (λ (ls : List Lit). IsOnce n ls assumed) lits_are once in
      let decides : Decides (own_asking assumed) (is_possible_over plant steps) = window_decides plant h steps some fits s is n assumed own in
      let made : record { set = set; choices = choices; assumed = assumed } ≡ own_asking assumed = (λ i. record { set = set_is i; choices = same i; assumed = assumed }) in
      record {
        counts = ap (λ (c : Choices). c.counts) (asks.choices ∙ same ∙ is.choices);
        decides = decides_the_same (own_asking assumed) a (subst (λ (v : AskingValue). AskTheSame v a) made asks) (is_possible_over plant steps) decides;
      }

-- a trajectory has few choices
below_many : (ns cs : List ℕ) → are_below ns cs ≡ true → length cs ≡ length ns
below_many [] [] below = refl
below_many [] (c ∷ cs) below = absurd (cc below)
below_many (n ∷ ns) [] below = absurd (cc below)
below_many (n ∷ ns) (c ∷ cs) below = let rest = below_many ns cs (and_parts (nat_lt c n) (are_below ns cs) below).1 in omega (arith, rest)

few_counts : (plant : Plant) → length plant.parts ≤ 256 → (steps : ℕ) → length (counts_of plant steps) ≤ 256 * steps
few_counts plant few zero = omega arith
few_counts plant few (suc n) =
    let rest = few_counts plant few n in
    let own : length (move_counts plant) ≡ length plant.parts = length-map plant.parts (part_moves plant.types) in
    let both : length (move_counts plant ++ counts_of plant n) ≡ length (move_counts plant) + length (counts_of plant n) = length-append (move_counts plant) (counts_of plant n) in
    omega (arith, rest, own, both, few)

pub few_choices : (plant : Plant) → length plant.parts ≤ 256 → (steps : ℕ) → steps ≤ 4 → (cs : List ℕ) → are_below (counts_of plant steps) cs ≡ true → length cs < 2 ^ 32
few_choices plant few steps most cs below =
    let many = below_many (counts_of plant steps) cs below in
    let counts = few_counts plant few steps in
    omega (arith, many, counts, most)
