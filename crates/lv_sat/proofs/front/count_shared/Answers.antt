-- one more is the same
use Rattle.std.proofs.Common.{◌≡◌, get_or, false, rules, arith}
use Rattle.lv_base.specs.declared.ids.Lit.{Lit}
use Rattle.lv_sat.specs.declared.front.Level.{Level}
use Rattle.lv_sat.proofs.FrontLemmas.{shared_more}
use Rattle.lv_sat.proofs.front.count_shared.Goals as goal

abbrev blank : Lit
blank = record { var = record { 0 = 0 }; sign = false }

abbrev blank_level : Level
blank_level = record { lit = blank; place = 0 }

pub loop-count-preserved : goal.loop-count-preserved
loop-count-preserved c =
    let same : (get_or c.args.levels.now c.loop-count.count blank_level).lit ≡ get_or c.args.assumptions.now c.loop-count.count blank = search rules in
    record {
      levels = omega (arith, c.loop-count-test.true);
      assumptions = omega (arith, c.if-count-assumptions.true);
      shared = shared_more c.args.levels.now c.args.assumptions.now c.loop-count.count blank_level blank (omega (arith, c.loop-count-test.true)) (omega (arith, c.if-count-assumptions.true)) same c.loop-count.invariant.shared;
    }
