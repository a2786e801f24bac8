-- each literal's row takes the clause in behind those of the literals before it
use Rattle.std.proofs.Common.{false}
use Rattle.lv_last_values.proofs.RowLemmas.{names_then}
use Rattle.lv_last_values.proofs.occurrences.Occurrences.add.Goals as goal

pub loop-lit-preserved : goal.loop-lit-preserved
loop-lit-preserved c =
    record {
      rows = c.enter.ensures.rows;
      names =
          names_then c.args.lits.now c.loop-lit.lit-index (record { var = record { 0 = 0 }; sign = false }) c.args.id c.args.self.now (record { heads = c.loop-lit.self-inside.heads.items; links = c.loop-lit.self-inside.links.items })
          (record { heads = c.enter.new.heads.items; links = c.enter.new.links.items }) c.loop-lit-test.true c.loop-lit.invariant.names c.in_ok-enter.ensures.names;
    }
