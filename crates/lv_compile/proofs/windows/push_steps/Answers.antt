-- few steps have few booleans, and the formulas of a well-formed plant speak of values that have booleans
use Rattle.std.proofs.Common.{◌≡◌, ◌+◌, ◌++◌, suc, All, List, sum_by, sym, subst, ap, ap₂, ◌∙◌, arith}
use Rattle.std.specs.List.{sum}
use Rattle.lv_model.specs.declared.plant.ComponentType.{ComponentType}
use Rattle.lv_model.specs.declared.plant.Part.{Part}
use Rattle.lv_model.specs.Lists.{part_moves, move_counts}
use Rattle.lv_compile.specs.Booleans.{Booleans}
use Rattle.lv_compile.specs.ModelClauses.{choices_clauses}
use Rattle.lv_compile.specs.Speaking.{PartSpeaks}
use Rattle.lv_compile.proofs.SumLemmas.{few_values, few_choices, mapped_sum}
use Rattle.lv_compile.proofs.SpeakingLemmas.{parts_speak}
use Rattle.lv_compile.proofs.WindowLemmas.{few_past, steps_more}
use Rattle.lv_compile.proofs.windows.push_steps.Goals as goal

pub copies_from-requires : goal.copies_from-requires
copies_from-requires c =
    let few = few_values c.args.plant.now c.requires.well in
    let fit = c.steps.invariant.fit in
    let some = c.steps-test.true in
    let most = c.requires.few in
    omega (arith, few, fit, some, most)

pub push_choices-requires-clause-speak : goal.push_choices-requires-clause-speak
push_choices-requires-clause-speak c =
    let a = c.in_ok-copies.copies.before in
    let b = c.in_ok-copies.copies.after in
    let all =
    parts_speak c.args.plant.now c.requires.well a (ap (λ (x : Booleans). x.sizes) c.in_ok-copies.ensures.before) b (ap (λ (x : Booleans). x.sizes) c.in_ok-copies.ensures.after) in
    subst (λ (ts : List ComponentType). All (PartSpeaks a b ts) c.as_slice-parts.result.now) (sym c.as_slice-types.ensures)
    (subst (λ (ps : List Part). All (PartSpeaks a b c.args.plant.now.types) ps) (sym c.as_slice-parts.ensures) all)

pub push_choices-requires-clause-fit : goal.push_choices-requires-clause-fit
push_choices-requires-clause-fit c =
    let values = few_past c.args.plant.now c.requires.well 0 (suc c.args.steps) in
    let first = c.requires.choice in
    let choices = few_choices c.args.plant.now c.requires.well in
    let so_far = c.steps.invariant.choices in
    let some = c.steps-test.true in
    let most = c.requires.few in
    let same = ap₂ (λ (ts : List ComponentType) (ps : List Part). sum_by (part_moves ts) ps) c.as_slice-types.ensures c.as_slice-parts.ensures in
    omega (arith, values, first, choices, so_far, some, most, same)

pub moves_of_parts-choice-requires : goal.moves_of_parts-choice-requires
moves_of_parts-choice-requires c =
    let choices = few_choices c.args.plant.now c.requires.well in
    let same = ap₂ (λ (ts : List ComponentType) (ps : List Part). sum_by (part_moves ts) ps) c.as_slice-types.ensures c.as_slice-parts.ensures in
    omega (arith, choices, same)

pub overflow_add-choice : goal.overflow_add-choice
overflow_add-choice c =
    let values = few_past c.args.plant.now c.requires.well 0 (suc c.args.steps) in
    let first = c.requires.choice in
    let choices = few_choices c.args.plant.now c.requires.well in
    let so_far = c.steps.invariant.choices in
    let some = c.steps-test.true in
    let most = c.requires.few in
    let same = ap₂ (λ (ts : List ComponentType) (ps : List Part). sum_by (part_moves ts) ps) c.as_slice-types.ensures c.as_slice-parts.ensures in
    let more = c.moves_of_parts-choice.ensures in
    omega (arith, values, first, choices, so_far, some, most, same, more)

pub steps-preserved : goal.steps-preserved
steps-preserved c =
    let plant = c.args.plant.now in
    let few = few_values plant c.requires.well in
    let moves = few_choices plant c.requires.well in
    let same = ap₂ (λ (ts : List ComponentType) (ps : List Part). sum_by (part_moves ts) ps) c.as_slice-types.ensures c.as_slice-parts.ensures in
    let more = c.moves_of_parts-choice.ensures in
    let counts = mapped_sum plant.types plant.parts in
    let some = c.steps-test.true in
    let fit = c.steps.invariant.fit in
    let choices = c.steps.invariant.choices in
    let behind = c.first-first.ensures ∙ ap (λ (x : Booleans). x.first) c.in_ok-copies.ensures.after in
    let later : c.steps.choice + c.moves_of_parts-choice.result ≡ c.steps.choice + sum (move_counts plant) = omega (arith, same, more, counts) in
    record {
      rest =
          steps_more plant c.steps.first _ c.steps.choice _ c.steps.left c.steps.out.items c.push_choices.new.out.items _ some c.steps.invariant.rest
          (c.in_ok-push_choices.ensures
          ∙ (λ i. c.steps.out.items ++ choices_clauses (c.in_ok-copies.ensures.before i) (c.in_ok-copies.ensures.after i) (c.as_slice-types.ensures i) c.steps.choice (c.as_slice-parts.ensures i)))
          behind later;
      fit = omega (arith, fit, some, behind, few);
      choices = omega (arith, choices, some, same, more, moves);
    }
