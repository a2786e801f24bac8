-- each part adds its target
use Rattle.std.proofs.Common.{◌≡◌, ℕ, suc, ◌+◌, ◌<◌, List, [], ◌∷◌, ◌++◌, length, drop, get_or, sym, ◌∙◌, ap, arith, add-one, append_assoc, drop-cons}
use Rattle.lv_base.specs.declared.ids.ValId.{ValId}
use Rattle.lv_model.specs.declared.plant.ComponentType.{ComponentType}
use Rattle.lv_model.specs.declared.plant.Part.{Part}
use Rattle.lv_meaning.specs.Targets.{target_mode, target_modes}
use Rattle.lv_tracker.proofs.targets.target_modes.Goals as goal

module _ (types : List ComponentType) (parts : List Part) (moves : List ℕ) (at : ℕ) (modes whole : List ValId) where
  one_more : (p : Part) → at < length parts → p ≡ get_or parts at p → at < length moves
      → modes ++ target_modes types (drop at parts) (drop at moves) ≡ whole
      → (modes ++ (target_mode types p (get_or moves at 0) ∷ [])) ++ target_modes types (drop (at + 1) parts) (drop (at + 1) moves) ≡ whole
  one_more p within is chosen so_far =
      let next_part : drop at parts ≡ p ∷ drop (at + 1) parts = drop-cons parts at p within ∙ ap (λ (x : Part). x ∷ drop (suc at) parts) (sym is) ∙ ap (λ k. p ∷ drop k parts) (sym (add-one at)) in
      let next_move : drop at moves ≡ get_or moves at 0 ∷ drop (at + 1) moves = drop-cons moves at 0 chosen ∙ ap (λ k. get_or moves at 0 ∷ drop k moves) (sym (add-one at)) in
      append_assoc modes (target_mode types p (get_or moves at 0) ∷ []) (target_modes types (drop (at + 1) parts) (drop (at + 1) moves))
      ∙ sym (λ i. modes ++ target_modes types (next_part i) (next_move i))
      ∙ so_far

pub loop-at-preserved : goal.loop-at-preserved
loop-at-preserved c =
    let types = c.args.types.now in
    let rest = target_modes c.args.types.now (drop (c.loop-at.at + 1) c.args.parts.now) (drop (c.loop-at.at + 1) c.args.moves.now) in
    ap (λ ts. ts ++ rest) c.in_ok-push.ensures.items
    ∙ ap (λ (t : ValId). (c.loop-at.modes.items ++ (t ∷ [])) ++ rest) c.target.ensures
    ∙ one_more types c.args.parts.now c.args.moves.now c.loop-at.at c.loop-at.modes.items _ c.index-parts-at.result c.loop-at-test.true c.index-parts-at.is (omega (arith, c.requires, c.loop-at-test.true)) c.loop-at.invariant
