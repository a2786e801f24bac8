-- one pair more
use Rattle.std.proofs.Common.{◌+◌, ◌∷◌, [], ap₂, refl, ◌∙◌}
use Rattle.lv_compile.specs.ModelClauses.{not_both}
use Rattle.lv_compile.proofs.OneOfLemmas.{numbered_more}
use Rattle.lv_compile.proofs.one_of.push_pairs.Goals as goal

pub loop-past-preserved : goal.loop-past-preserved
loop-past-preserved c =
    numbered_more (not_both c.args.first) c.args.out.now.items c.loop-past.out.items c.push.new.self.items (c.args.first + 1) c.loop-past.past (c.args.first + 1 + c.loop-past.past) c.in_ok-from_slice.field-0
    c.loop-past.invariant c.in_ok-push.ensures.items
    (c.in_ok-from_slice.ensures ∙ ap₂ (λ l m. l ∷ m ∷ []) c.literal.ensures c.literal-in-loop-past.ensures) refl
