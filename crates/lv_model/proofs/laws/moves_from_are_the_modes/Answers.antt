-- the moves of a part rise, so those of a mode stand together
use Rattle.lv_model.specs.Moves.{moves_of}
use Rattle.lv_model.proofs.MoveLemmas.{are_of_mode, stands_in_mode, moves_of_rise}
use Rattle.lv_model.proofs.laws.moves_from_are_the_modes.Goals as goal

pub returns : goal.returns
returns c =
    record {
      are = λ plant h part mode n m here from to. are_of_mode mode 0 0 n m (moves_of plant part) (moves_of_rise plant h part) here from to;
      all = λ plant h part n m here. stands_in_mode 0 0 n m (moves_of plant part) (moves_of_rise plant h part) here;
    }
