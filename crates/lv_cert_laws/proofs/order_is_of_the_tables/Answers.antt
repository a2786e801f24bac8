use Rattle.lv_cert_laws.proofs.TableLemmas.{in_table_order}
use Rattle.lv_cert_laws.proofs.order_is_of_the_tables.Goals as goal

pub returns : goal.returns
returns c = in_table_order
