-- what satisfied the clauses satisfies those that are left
use Rattle.std.proofs.Common.{None}
use Rattle.lv_last_values.proofs.LastValuesLemmas.{up_to_date_left}
use Rattle.lv_last_values.proofs.last_values.LastValues.remove.Goals as goal

pub returns-then-self-lt-MOST_GONE : goal.returns-then-self-lt-MOST_GONE
returns-then-self-lt-MOST_GONE c = λ old new id before puts. up_to_date_left old new id c.args.self.now.values c.args.self.now.occurrences puts before

pub returns : goal.returns
returns c = λ old new id before puts. up_to_date_left old new id c.args.self.now.values None puts (record { model = before.model; names = tt })
