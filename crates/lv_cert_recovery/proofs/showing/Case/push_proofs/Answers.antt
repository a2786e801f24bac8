-- one goal more
use Rattle.std.proofs.Common.{◌+◌, ◌∙◌, []}
use Rattle.lv_cert_recovery.specs.Keeping.{answer_of}
use Rattle.lv_cert_recovery.specs.Leading.{proved, standing}
use Rattle.lv_cert_recovery.proofs.LeadingLemmas.{leads_both}
use Rattle.lv_cert_recovery.proofs.showing.Case.push_proofs.Goals as goal

pub loop-at-preserved : goal.loop-at-preserved
loop-at-preserved c =
    let p = c.args.self.now.asking.now.plant in
    record {
      on =
          leads_both p c.args.self.now.asking.now.aim (standing (proved c.args.self.now.place 0) (answer_of p c.args.self.now.pairs.now) []) (standing (proved c.args.self.now.place c.loop-at.at) (answer_of p c.args.self.now.pairs.now) [])
          (standing (proved c.args.self.now.place (c.loop-at.at + 1)) (answer_of p c.args.self.now.pairs.now) []) c.args.lines.now.items c.loop-at.lines.items c.push_proof.new.lines.items c.loop-at.invariant.on c.in_ok-push_proof.ensures.told;
      kept = c.push_proof.ensures.kept ∙ c.loop-at.invariant.kept;
    }
