use Rattle.std.proofs.Common.{◌≡◌, ◌∙◌, sym, ap, List, Result, IfErr, subst}
use Rattle.lv_model.specs.declared.plant.Plant.{Plant}
use Rattle.lv_model.specs.declared.plant.Domain.{Domain}
use Rattle.lv_reader.specs.declared.statement.Statement.{Statement}
use Rattle.lv_model_entries.specs.declared.draft.TypeDraft.{TypeDraft}
use Rattle.lv_model_entries.specs.declared.draft.CheckFault.{CheckFault}
use Rattle.lv_model_entries.specs.declared.draft.Entry.{Entry}
use Rattle.lv_model_entries.specs.Entries.{inside_entry, TellsEntry}
use Rattle.lv_model_entries.proofs.entries.inside_entry.Goals as goal

-- a fault that is told over equal domains of an equal statement
told_alike : (r : Result Entry CheckFault) (ds es : List Domain) (t : TypeDraft) (s u : Statement) → ds ≡ es → s ≡ u → IfErr r (λ fault. TellsEntry fault (inside_entry ds t u))
    → IfErr r (λ fault. TellsEntry fault (inside_entry es t s))
told_alike r ds es t s u e f h =
    subst (λ (x : Statement). IfErr r (λ fault. TellsEntry fault (inside_entry es t x))) (sym f) (subst (λ (xs : List Domain). IfErr r (λ fault. TellsEntry fault (inside_entry xs t u))) e h)

pub returns-in-LawLine-clause-fault : goal.returns-in-LawLine-clause-fault
returns-in-LawLine-clause-fault c =
    told_alike c.law.result c.as_slice.result.now c.args.plant.now.domains c.args.of.now c.args.statement.now _ (c.as_slice.ensures ∙ ap (λ (p : Plant). p.domains) c.as_plant.ensures) c.in-LawLine.is
    c.law.ensures.fault
