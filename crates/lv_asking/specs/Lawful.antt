-- Why what is asked for keeps the laws of a refuter.
use Rattle.std.proofs.Common.{ℕ, List, [], ◌∷◌, ◌++◌, Bool, arith, All}
use Rattle.std.proofs.lemmas.List.Elements.{All-tail, All-cons}
use Rattle.lv_base.specs.declared.search.Pair.{Pair}
use Rattle.lv_boxes.specs.WalkLaws.{IsMonotone}
use Rattle.lv_boxes.proofs.ReasonLemmas.{rising_without}
use Rattle.lv_meaning.proofs.Possibility.{still_there}
use Rattle.lv_asking.specs.Literals.{HasMove}
use Rattle.lv_asking.specs.Asking.{AskingValue, Decides, IsPartial}

all_without : (P : Pair → Type 0) (before : List Pair) (p : Pair) (ps : List Pair) → All P (before ++ (p ∷ ps)) → All P (before ++ ps)
all_without P [] p ps all = All-tail P p ps all
all_without P (q ∷ before) p ps all = All-cons P q (before ++ ps) (all 0 q (omega arith)) (all_without P before p ps (All-tail P q (before ++ (p ∷ ps)) all))

pub partial_without : (counts : List ℕ) (front : List Pair) (p : Pair) (back : List Pair) → IsPartial counts (front ++ (p ∷ back)) → IsPartial counts (front ++ back)
partial_without counts front p back is = record { rising = rising_without 0 front p back is.rising; moves = all_without (HasMove counts) front p back is.moves }

pub decided_is_monotone : (a : AskingValue) (possible : List Pair → Bool) → Decides a possible → IsMonotone possible
decided_is_monotone a possible d = record { without = λ front p back. d.part (front ++ back) (front ++ (p ∷ back)) (still_there front back p) }
