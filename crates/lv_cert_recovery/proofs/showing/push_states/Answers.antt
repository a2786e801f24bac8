-- one state more
use Rattle.std.proofs.Common.{◌+◌, ◌∙◌, []}
use Rattle.lv_cert_recovery.specs.Keeping.{answer_of}
use Rattle.lv_cert_recovery.specs.Leading.{good, standing}
use Rattle.lv_cert_recovery.proofs.GivingLemmas.{state_on}
use Rattle.lv_cert_recovery.proofs.LeadingLemmas.{leads_both}
use Rattle.lv_cert_recovery.proofs.showing.push_states.Goals as goal

pub loop-place-preserved : goal.loop-place-preserved
loop-place-preserved c =
    let p = c.args.asking.now.plant in
    record {
      on =
          leads_both p c.args.asking.now.aim (standing (good 0) (answer_of p c.args.pairs.now) []) (standing (good c.loop-place.place) (answer_of p c.args.pairs.now) [])
          (standing (good (c.loop-place.place + 1)) (answer_of p c.args.pairs.now) []) c.args.lines.now.items c.loop-place.lines.items c.push_proofs.new.lines.items c.loop-place.invariant.on
          (state_on p c.args.asking.now.aim c.aim-aim.ensures.well_formed c.aim-aim.ensures.asked c.args.pairs.now c.requires.given c.loop-place.place c.loop-place.lines.items c.push_good.new.lines.items
          c.push_proofs.new.lines.items c.in_ok-push_good.ensures.told c.in_ok-push_proofs.ensures.told);
      kept = c.push_proofs.ensures.kept ∙ c.push_good.ensures.kept ∙ c.loop-place.invariant.kept;
    }
