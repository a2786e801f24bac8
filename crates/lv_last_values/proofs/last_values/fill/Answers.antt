-- what was found names all
use Rattle.lv_last_values.specs.Occurrences.{NamesAll}
use Rattle.lv_last_values.proofs.LastValuesLemmas.{where_ok}
use Rattle.lv_last_values.proofs.last_values.fill.Goals as goal

pub returns-then-is_none : goal.returns-then-is_none
returns-then-is_none c = where_ok c.of.result c.ok.result (NamesAll c.args.set.now.slots) c.ok.ensures.value c.of.ensures
