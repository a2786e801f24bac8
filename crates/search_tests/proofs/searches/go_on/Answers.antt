-- every candidate suits the trial
use Rattle.search_tests.proofs.AllSuit.{all_suit_it}
use Rattle.search_tests.proofs.searches.go_on.Goals as goal

pub run-requires-clause-suit : goal.run-requires-clause-suit
run-requires-clause-suit c = all_suit_it c.args.search.now.standing.left
