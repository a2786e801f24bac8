-- The moves of later steps, one step after the other.
use Rattle.std.proofs.Common.{◌≡◌, ℕ, suc, ◌+◌, ◌-◌, ◌<◌, List, ◌++◌, length, drop, codes, append_assoc, sym, ◌∙◌, ap, arith}
use Rattle.lv_model.specs.declared.plant.Plant.{Plant}
use Rattle.lv_reply.specs.Diagnosis.{moves_text, later_moves}

-- those of the first of the steps that are left, and of the others
pub one_more : (plant : Plant) (later step : ℕ) (choices : List ℕ) → step < later
    → later_moves plant (later - step) choices ≡ codes " ; " ++ moves_text plant choices ++ later_moves plant (later - (step + 1)) (drop (length plant.parts) choices)
one_more plant later step choices less =
    let some : later - step ≡ suc (later - (step + 1)) = omega (arith, less) in
    ap (λ (n : ℕ). later_moves plant n choices) some

-- what was told and the moves of the steps that are left are the same behind one step more
pub gone_on : (plant : Plant) (later step : ℕ) (out rest whole : List ℕ) → step < later → out ++ later_moves plant (later - step) rest ≡ whole
    → out ++ codes " ; " ++ moves_text plant rest ++ later_moves plant (later - (step + 1)) (drop (length plant.parts) rest) ≡ whole
gone_on plant later step out rest whole less h =
    ap (λ (t : List ℕ). t ++ later_moves plant (later - (step + 1)) (drop (length plant.parts) rest)) (append_assoc out (codes " ; ") (moves_text plant rest))
    ∙ append_assoc out (codes " ; " ++ moves_text plant rest) (later_moves plant (later - (step + 1)) (drop (length plant.parts) rest))
    ∙ ap (λ (t : List ℕ). out ++ t) (sym (one_more plant later step rest less)) ∙ h
