-- one block more: a conflict's line, and the lines that refute it
use Rattle.std.proofs.Common.{◌≡◌, ◌++◌, ◌∷◌, [], ◌∙◌, ◌<◌, ◌^◌, true, All, List, length, map, take, sym, subst, ap}
use Rattle.std.proofs.lemmas.List.{take_more}
use Rattle.lv_base.specs.declared.search.Pair.{Pair}
use Rattle.lv_base.specs.Choices.{slots_rise}
use Rattle.lv_model.specs.Lists.{move_counts}
use Rattle.lv_ident.specs.Literals.{HasMove}
use Rattle.lv_search_zones.specs.lv_compile.Booleans.{bool_count}
use Rattle.lv_search_zones.specs.lv_compile.ModelClauses.{model_clauses}
use Rattle.lv_cert_laws.specs.lv_cert_meaning.Deriving.{refutes}
use Rattle.lv_cert_writing.specs.BlockLines.{derived_of}
use Rattle.lv_cert.specs.declared.line.Head.TheVariants as head
use Rattle.lv_cert.specs.declared.line.Line.{Line}
use Rattle.lv_cert.specs.declared.line.Line.TheVariants as line
use Rattle.lv_cert_writing.specs.Lines.{pair_numbers, clause_lines}
use Rattle.lv_cert_diagnosis.specs.Showing.{AddsBlocks, CanBeRefuted, own_clauses}
use Rattle.lv_cert_diagnosis.proofs.AddingLemmas.{blocks_one, blocks_more}
use Rattle.lv_cert_diagnosis.proofs.refuting.push_blocks.Goals as goal

pub refutation_of-requires-clause-moves : goal.refutation_of-requires-clause-moves
refutation_of-requires-clause-moves c =
    let plant = c.args.asking.now.plant in
    let facts = c.args.asking.now.facts in
    let can : CanBeRefuted plant facts c.conflict-item.result =
    subst (CanBeRefuted plant facts) (sym c.conflict-item.is) (c.requires.can c.loop-conflict.conflict-index c.conflict-item.result c.loop-conflict-test.true) in
    subst (All (HasMove (move_counts plant))) (sym c.pairs-pairs.ensures.pairs) can.moves

pub loop-conflict-preserved : goal.loop-conflict-preserved
loop-conflict-preserved c =
    let plant = c.args.asking.now.plant in
    let facts = c.args.asking.now.facts in
    let kept = c.args.kept.now in
    let i = c.loop-conflict.conflict-index in
    let conflict : List Pair = c.conflict-item.result in
    let can : CanBeRefuted plant facts conflict = subst (CanBeRefuted plant facts) (sym c.conflict-item.is) (c.requires.can i c.conflict-item.result c.loop-conflict-test.true) in
    let before = c.loop-conflict.lines.items in
    let after = c.push_clauses.new.lines.items in
    let same = c.pairs-pairs.ensures.pairs in
    let first = c.in_ok-push.ensures.items ∙ ap (λ (l : Line). before ++ l ∷ []) (c.in_ok-conflict_line.ensures ∙ ap (λ (ps : List Pair). line.Numbers head.Conflict (pair_numbers ps)) same) in
    let one : AddsBlocks plant facts (conflict ∷ []) before after =
    blocks_one plant facts conflict (ap slots_rise (sym same) ∙ c.pairs-pairs.ensures.rising) can c.in_ok-told.told
    (subst (λ (ps : List Pair). refutes (bool_count plant) (model_clauses plant ++ own_clauses plant facts ps) (map derived_of c.in_ok-told.told) ≡ true) same c.in_ok-told.ensures.refute)
    (subst (λ (ps : List Pair). length (own_clauses plant facts ps) < 2 ^ 64) same c.in_ok-told.ensures.few) c.in_ok-push_clauses.ensures.few before after
    (c.in_ok-push_clauses.ensures.lines ∙ ap (λ (ls : List Line). ls ++ clause_lines (map derived_of c.in_ok-told.told)) first)
    in
    record {
      refuted =
          subst (λ (cs : List (List Pair)). AddsBlocks plant facts cs c.args.lines.now.items after)
          (sym (take_more kept i c.conflict-item.result c.loop-conflict-test.true ∙ ap (λ (ps : List Pair). take i kept ++ ps ∷ []) (sym c.conflict-item.is)))
          (blocks_more plant facts (take i kept) (conflict ∷ []) c.args.lines.now.items before after c.loop-conflict.invariant.refuted one);
      kept = c.refutation_of.ensures.kept ∙ c.loop-conflict.invariant.kept;
    }
