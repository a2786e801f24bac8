-- where the text may end, its plant is well formed
use Rattle.std.proofs.Common.{IsTrue, sym, subst}
use Rattle.lv_model.specs.WellFormed.{is_well_formed}
use Rattle.lv_model_entries.specs.declared.draft.Draft.{Draft}
use Rattle.lv_checker.proofs.StandingLemmas.{ends_well}
use Rattle.lv_checker.proofs.checking.Checking.finish.Goals as goal

pub model_of_draft-requires : goal.model_of_draft-requires
model_of_draft-requires c =
    subst (λ (d : Draft). IsTrue (is_well_formed d.plant)) (sym c.into_inner.ensures) (ends_well c.args.lines c.args.self c.args.self.draft.value.plant c.requires c.in_ok-end.ensures.ok)
