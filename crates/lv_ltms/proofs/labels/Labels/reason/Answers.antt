-- the support kept for a boolean is the reason on the trail
use Rattle.std.proofs.Common.{List, ap, ap₂, ◌∙◌}
use Rattle.lv_clauses.specs.Marks.{Marks}
use Rattle.lv_ltms.specs.declared.labels.Reason.{Reason}
use Rattle.lv_ltms.specs.Labelled.{Labelled, support_if_marked}
use Rattle.lv_ltms.proofs.SystemLemmas.{reason_kept}
use Rattle.lv_ltms.proofs.labels.Labels.reason.Goals as goal

pub returns : goal.returns
returns c =
    c.kept_support.ensures
    ∙ ap₂ (λ (m : Marks) (r : List Reason). support_if_marked m r c.args.lit) (c.as_slice.ensures.value ∙ ap (λ (x : Labelled). x.marks) c.self.view_is) (c.as_slice-2.ensures.value ∙ ap (λ (x : Labelled). x.supports) c.self.view_is)
    ∙ reason_kept c.args.self.now.marks c.args.self.now.supports c.args.self.now.trail c.requires.agrees c.args.lit
