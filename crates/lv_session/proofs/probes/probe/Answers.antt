-- what is kept of the diagnosis lists candidates that have a move for each part
use Rattle.std.proofs.Common.{List, All, map, sym, subst, ◌∙◌}
use Rattle.lv_base.specs.declared.rank.Rank.{Rank}
use Rattle.lv_boxes.specs.Walk.{candidate_of}
use Rattle.lv_probe.specs.Probing.{IsFull}
use Rattle.lv_session.proofs.Probing.{listed_full}
use Rattle.lv_session.proofs.probes.probe.Goals as goal

pub probed-requires-clause-full : goal.probed-requires-clause-full
probed-requires-clause-full c =
    subst (λ (rs : List Rank). All (IsFull c.args.compiled.now) (map candidate_of rs)) (sym c.listed.ensures)
    (listed_full c.args.state.now.query c.args.compiled.now c.args.state.now c.args.running.now c.in-Diagnosis.field-0 (sym c.query.ensures ∙ c.in-Diagnosis.is) c.requires.running)
