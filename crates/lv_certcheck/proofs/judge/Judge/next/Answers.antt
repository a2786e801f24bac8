use Rattle.lv_certcheck.specs.Settings.{plant_of}
use Rattle.lv_certcheck.proofs.JudgeLemmas.{whole_of}
use Rattle.std.proofs.Common.{sym, subst}
use Rattle.lv_certcheck.specs.Giving.{IsWhole}
use Rattle.lv_certcheck.proofs.judge.Judge.next.Goals as goal

-- src/judge.rt:303:29
pub shows-requires-clause-next : goal.shows-requires-clause-next
shows-requires-clause-next c =
    subst (IsWhole (plant_of c.args.self.now.setting)) (sym c.as_slice-in-Some.ensures.value) (whole_of (plant_of c.args.self.now.setting) c.in-Some.values.items c.as_slice.result.now _ (rw c.in-Some.is at c.in_ok-values.ensures.count) c.as_slice.ensures.value c.requires.setting.counts_are.values_are)
