-- the pair's value is one that the control has
use Rattle.std.proofs.Common.{true, get_or, refl, subst, ap}
use Rattle.std.specs.Result.{IfOk}
use Rattle.std.proofs.lemmas.Result.{IfOk-weaker}
use Rattle.lv_base.specs.declared.ids.Lit.{Lit}
use Rattle.lv_model.specs.Lists.{controls}
use Rattle.lv_compile.specs.Booleans.{bool_count}
use Rattle.lv_system.proofs.LiteralLemmas.{now_in_range}
use Rattle.lv_reconf.specs.Assuming.{AddsOne}
use Rattle.lv_reconf.proofs.AssumingLemmas.{value_there, control_assumed}
use Rattle.lv_reconf.proofs.assumptions.assume_control.Goals as goal

pub assume-requires : goal.assume-requires
assume-requires c = ap (λ (l : Lit). l.sign) c.commands.ensures

pub returns-clause-says : goal.returns-clause-says
returns-clause-says c =
    let plant = c.args.compiled.now in
    let p = c.args.pair in
    IfOk-weaker c.assume.result _ _
    (λ x more. control_assumed plant c.args.lits.now.items c.assume.new.lits.items p c.commands.result c.requires.fits c.commands.ensures more)
    (c.assume.ensures.says (bool_count plant) c.requires.assumed
    (rw c.commands.ensures (now_in_range plant true (get_or (controls plant) p.slot (record { 0 = 0 })).0 p.choice (value_there plant p (controls plant) (record { 0 = 0 }) refl c.requires.fits))))

pub returns-clause-adds : goal.returns-clause-adds
returns-clause-adds c = subst (λ (l : Lit). IfOk c.assume.result (λ _. AddsOne c.args.lits.now.items c.assume.new.lits.items l)) c.commands.ensures c.assume.ensures.adds
