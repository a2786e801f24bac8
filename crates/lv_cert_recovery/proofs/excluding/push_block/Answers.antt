-- where the values reach the goals from each state, they can miss one from some state
use Rattle.std.proofs.Common.{List, All, subst, sym}
use Rattle.lv_base.specs.declared.search.Pair.{Pair}
use Rattle.lv_meaning.specs.Commands.{control_sizes}
use Rattle.lv_cert_recovery.specs.Keeping.{AreValues}
use Rattle.lv_cert_recovery.specs.Leading.{ReachFromAll, AddsConflict, AddsCounter}
use Rattle.lv_cert_recovery.proofs.BlockLemmas.{block_values, block_on}
use Rattle.lv_cert_recovery.proofs.GivingLemmas.{reason_has}
use Rattle.lv_cert_writing.specs.Pairs.{HasChoice}
use Rattle.lv_cert_recovery.proofs.excluding.push_block.Goals as goal

pub push_conflict-requires-clause-have : goal.push_conflict-requires-clause-have
push_conflict-requires-clause-have c =
    subst (λ (ps : List Pair). All (HasChoice (control_sizes c.args.asking.now.plant)) ps) (sym c.pairs.ensures.pairs)
    (reason_has c.args.asking.now.plant c.args.asking.now.aim c.args.conflict.now c.requires.given)

pub push_counter-requires-clause-given : goal.push_counter-requires-clause-given
push_counter-requires-clause-given c =
    subst (AreValues c.args.asking.now.plant) (sym c.pairs-2.ensures.pairs)
    (block_values c.args.asking.now.plant c.args.asking.now.aim c.args.conflict.now c.requires.given c.args.lines.now.items c.push_conflict.new.lines.items
    (subst (λ (ps : List Pair). ReachFromAll c.args.asking.now.plant c.args.asking.now.aim ps c.args.lines.now.items c.push_conflict.new.lines.items) c.pairs.ensures.pairs
    (subst (AddsConflict c.args.asking.now.plant c.args.asking.now.aim c.pairs.result.now c.args.lines.now.items c.push_conflict.new.lines.items) c.if-branch.false c.in_ok-push_conflict.ensures.told)))

pub returns-clause-told : goal.returns-clause-told
returns-clause-told c =
    block_on c.args.asking.now.plant c.args.asking.now.aim c.args.conflict.now c.requires.given c.args.lines.now.items c.push_conflict.new.lines.items c.push_counter.new.lines.items
    (subst (λ (ps : List Pair). ReachFromAll c.args.asking.now.plant c.args.asking.now.aim ps c.args.lines.now.items c.push_conflict.new.lines.items) c.pairs.ensures.pairs
    (subst (AddsConflict c.args.asking.now.plant c.args.asking.now.aim c.pairs.result.now c.args.lines.now.items c.push_conflict.new.lines.items) c.if-branch.false c.in_ok-push_conflict.ensures.told))
    c.in_ok-push_counter.field-0
    (subst (λ (ps : List Pair). AddsCounter c.args.asking.now.plant c.args.asking.now.aim ps c.push_conflict.new.lines.items c.push_counter.new.lines.items c.in_ok-push_counter.field-0) c.pairs-2.ensures.pairs
    c.in_ok-push_counter.ensures.told)
