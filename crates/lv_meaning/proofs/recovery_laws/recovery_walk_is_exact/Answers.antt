-- the laws of walks, for the test and the reasons of a recovery
use Rattle.lv_meaning.proofs.RecoveryWalks.{walk_exact, walk_found, walk_none, walk_ample}
use Rattle.lv_meaning.proofs.recovery_laws.recovery_walk_is_exact.Goals as goal

pub returns : goal.returns
returns c = record { exact = walk_exact; found = walk_found; none = walk_none; ample = walk_ample }
