use Rattle.std.proofs.Common.{◌≡◌, ◌++◌, drop, map}
use Rattle.lv_reply.proofs.conflicts.texts_of_pairs.Given as goal

-- what was added and the texts of the pairs that are left are all texts
abbrev pub invariant-loop-pair : goal.invariant-loop-pair
invariant-loop-pair g l = l.out.items ++ map (g.T.PairText.text l.texts) (drop l.pair-index l.pairs) ≡ map (g.T.PairText.text l.texts) l.pairs
