use Rattle.std.specs.Prelude.{All}
use Rattle.lv_cert_writing.specs.Closing.{SplitIsSmall}
use Rattle.std.specs.Option.{option_copied}
use Rattle.lv_cert_writing.proofs.ClosingLemmas.{Stands, weight_left}
use Rattle.lv_cert_writing.proofs.closing.close.Given as goal

-- the zones before this one are passed, and the splits so far lead to where the zones stand
abbrev pub invariant-loop-at : goal.invariant-loop-at
invariant-loop-at l = Stands (option_copied l.why.targets) l.why.question l.fn.grid l.fn.zones.items (option_copied l.why.last) l.why.listed.now l.why.excluded.now l.at l.space l.made.items × All SplitIsSmall l.made.items

abbrev pub decreases-loop-at : goal.decreases-loop-at
decreases-loop-at l = weight_left l.fn.grid l.why.excluded.now l.at l.space
