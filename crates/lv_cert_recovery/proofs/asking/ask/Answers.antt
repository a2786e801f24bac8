-- values that were told make the system's clauses true
use Rattle.std.proofs.Common.{◌∙◌, length, subst, sym, ap}
use Rattle.lv_system.specs.lv_clauses.ClauseMap.{satisfies}
use Rattle.lv_system.specs.System.{SystemValue, IsSystemOf}
use Rattle.lv_cert_writing.specs.Refuting.{MakeTrue, Tells}
use Rattle.lv_cert_recovery.proofs.asking.ask.Goals as goal

pub decode-requires-clause-whole : goal.decode-requires-clause-whole
decode-requires-clause-whole c =
    let told : Tells c.args.refuter.now c.args.own.now c.in_ok-values.field-0 =
    c.in_ok-values.ensures.told c.args.model.now (subst (IsSystemOf c.args.model.now) (sym c.requires.refuter) c.requires.system) in
    let values : MakeTrue c.args.refuter.now.set c.args.own.now c.in-Values.values = subst (Tells c.args.refuter.now c.args.own.now) c.in-Values.is told in
    ap length c.as_slice.ensures ∙ values.whole ∙ ap (λ (s : SystemValue). s.set.bools) c.requires.refuter

pub decode-requires-clause-satisfied : goal.decode-requires-clause-satisfied
decode-requires-clause-satisfied c =
    let told : Tells c.args.refuter.now c.args.own.now c.in_ok-values.field-0 =
    c.in_ok-values.ensures.told c.args.model.now (subst (IsSystemOf c.args.model.now) (sym c.requires.refuter) c.requires.system) in
    let values : MakeTrue c.args.refuter.now.set c.args.own.now c.in-Values.values = subst (Tells c.args.refuter.now c.args.own.now) c.in-Values.is told in
    (λ i. satisfies (c.as_slice.ensures i) (sym c.requires.refuter i).set.slots) ∙ values.set_holds
