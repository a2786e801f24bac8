-- each literal is met, or passed, or all were met before it
use Rattle.std.proofs.Common.{◌≡◌, ◌≢◌, ◌↔◌, ◌+◌, drop, get_or, false, rules, arith, sym, subst}
use Rattle.lv_base.specs.declared.ids.Lit.{Lit}
use Rattle.lv_sat.specs.Answers.{IsSublist}
use Rattle.lv_trail.proofs.PartLemmas.{walk_met, walk_passed, walk_over, walk_end}
use Rattle.lv_sat.proofs.part.is_part.Goals.{then-met-part+then-eq, else-met-part, else-met-part-via-then-met-part+else-eq, else-met-part-via-else-met-part}
use Rattle.lv_sat.proofs.part.is_part.Goals as goal

abbrev blank : Lit
blank = record { var = record { 0 = 0 }; sign = false }

pub loop-lit-preserved : goal.loop-lit-preserved
loop-lit-preserved c = elim c.if-met-part.branch [
  | then-met-part+then-eq w ↦
      let same : get_or c.args.part.now c.loop-lit.met blank ≡ get_or c.args.whole.now c.loop-lit.lit-index blank = search rules in
      record {
        within = omega (arith, w.met-is, w.if-met-part.true);
        rest =
            subst (λ n. IsSublist (drop n c.args.part.now) (drop (c.loop-lit.lit-index + 1) c.args.whole.now) ↔ IsSublist c.args.part.now c.args.whole.now) (sym w.met-is)
            (walk_met c.args.part.now c.args.whole.now c.loop-lit.met c.loop-lit.lit-index blank (IsSublist c.args.part.now c.args.whole.now) (omega (arith, c.loop-lit-test.true)) c.loop-lit.invariant.rest (omega (arith, w.if-met-part.true)) same);
      }
  | else-met-part w ↦ elim w.else-met-part.branch [
    | else-met-part-via-then-met-part+else-eq v ↦
        let differs : get_or c.args.part.now c.loop-lit.met blank ≢ get_or c.args.whole.now c.loop-lit.lit-index blank = search rules in
        record {
          within = omega (arith, w.met-is, c.loop-lit.invariant.within);
          rest =
              subst (λ n. IsSublist (drop n c.args.part.now) (drop (c.loop-lit.lit-index + 1) c.args.whole.now) ↔ IsSublist c.args.part.now c.args.whole.now) (sym w.met-is)
              (walk_passed c.args.part.now c.args.whole.now c.loop-lit.met c.loop-lit.lit-index blank (IsSublist c.args.part.now c.args.whole.now) (omega (arith, c.loop-lit-test.true)) c.loop-lit.invariant.rest differs (omega (arith, v.if-met-part.true)));
        }
    | else-met-part-via-else-met-part v ↦
        record {
          within = omega (arith, w.met-is, c.loop-lit.invariant.within);
          rest =
              subst (λ n. IsSublist (drop n c.args.part.now) (drop (c.loop-lit.lit-index + 1) c.args.whole.now) ↔ IsSublist c.args.part.now c.args.whole.now) (sym w.met-is)
              (walk_over c.args.part.now c.args.whole.now c.loop-lit.met c.loop-lit.lit-index blank (IsSublist c.args.part.now c.args.whole.now) (omega (arith, c.loop-lit-test.true)) c.loop-lit.invariant.rest (omega (arith, v.if-met-part.false)));
        }
  ]
]

pub returns : goal.returns
returns c = walk_end c.args.part.now c.args.whole.now c.loop-lit.met c.loop-lit.lit-index (IsSublist c.args.part.now c.args.whole.now) c.loop-lit.invariant.within (omega (arith, c.loop-lit-test.false)) c.loop-lit.invariant.rest
