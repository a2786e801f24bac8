-- none of the values looked at is shared
use Rattle.std.proofs.Common.{◌≡◌, false}
use Rattle.lv_meaning.specs.Search.{some_below}
use Rattle.lv_reconf.specs.Tests.{two_pass, can_show}
use Rattle.lv_reconf.proofs.testing.TestTrial.some_shared.Given as goal

abbrev pub invariant-loop-v : goal.invariant-loop-v
invariant-loop-v l = record {
  none : some_below l.v (λ v. two_pass (can_show l.fn.self.plant l.fn.self.aim l.fn.self.var l.pairs v) l.fn.self.aim.tracked) ≡ false;
  same : l.self ≡ l.fn.self;
}
