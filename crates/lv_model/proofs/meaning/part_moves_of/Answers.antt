-- no type of a well-formed plant has many moves
use Rattle.std.proofs.Common.{sym}
use Rattle.lv_model.proofs.Sizes.{few-moves_of_type}
use Rattle.lv_model.proofs.meaning.part_moves_of.Goals as goal

pub returns-in-Some-type_of-clause-few : goal.returns-in-Some-type_of-clause-few
returns-in-Some-type_of-clause-few c =
    rw c.as_slice-in-Some-type_of.ensures
    (few-moves_of_type c.args.plant.now c.requires c.in-Some.p.now.kind c.in-Some-type_of.t.now (sym (rw c.as_slice-in-Some.ensures at c.in-Some-type_of.ensures)))
