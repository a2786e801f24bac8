-- the clause is in the rows of the literals before this one
use Rattle.std.proofs.Common.{take}
use Rattle.lv_last_values.specs.Rows.{AreRows, Names}
use Rattle.lv_last_values.proofs.occurrences.Occurrences.add.Given as goal

abbrev pub invariant-loop-lit : goal.invariant-loop-lit
invariant-loop-lit l =
    record {
      rows : AreRows l.self-inside.heads.items l.self-inside.links.items;
      names : Names (take l.lit-index l.lits) l.id l.fn.self (record { heads = l.self-inside.heads.items; links = l.self-inside.links.items });
    }
