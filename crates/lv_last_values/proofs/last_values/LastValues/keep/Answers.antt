-- the copy satisfies the clauses
use Rattle.std.proofs.Common.{[], IfSome, sym, subst}
use Rattle.std.proofs.lemmas.Option.{IfSome_then}
use Rattle.lv_last_values.specs.declared.last_values.LastValues.{LastValues}
use Rattle.lv_last_values.specs.Values.{IsModel}
use Rattle.lv_last_values.specs.Occurrences.{NamesAll}
use Rattle.lv_last_values.proofs.last_values.LastValues.keep.Goals as goal
use Rattle.lv_last_values.proofs.last_values.LastValues.keep.Goals.{then-is_some, else-is_some}

pub returns : goal.returns
returns c =
    record {
      model = IfSome_then c.copied.result c.copied.ensures (λ values is. subst (IsModel c.args.set.now []) (sym is) c.requires.model);
      names = elim c.if-is_some.branch [
        | then-is_some w ↦ subst (λ (s : LastValues). IfSome s.occurrences (NamesAll c.args.set.now.slots)) (sym w.self-is) w.fill.ensures
        | else-is_some w ↦ subst (λ (s : LastValues). IfSome s.occurrences (NamesAll c.args.set.now.slots)) (sym w.self-is) c.requires.kept.names
      ];
    }
