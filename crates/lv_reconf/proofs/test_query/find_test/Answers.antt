-- it has tried nothing
use Rattle.lv_reconf.proofs.TestQueryLemmas.{new_is_query}
use Rattle.lv_reconf.proofs.test_query.find_test.Goals as goal

pub returns-clause-query : goal.returns-clause-query
returns-clause-query c = new_is_query c.args.model.now c.args.aim c.args.var c.in_ok-setting.setting c.in_ok-setting.ensures c.in_ok-search.search.standing c.in_ok-search.ensures
