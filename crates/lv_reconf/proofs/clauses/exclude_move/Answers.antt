-- the move is one that the part has, so its literal is of a boolean
use Rattle.std.proofs.Common.{[], ◌∷◌, false, not, nat_eq}
use Rattle.std.proofs.lemmas.Result.{IfOk-weaker}
use Rattle.lv_compile.specs.Laws.{move_number}
use Rattle.lv_system.proofs.LiteralLemmas.{choice_in_range}
use Rattle.lv_reconf.proofs.NarrowingLemmas.{excluded_says, adds_narrow}
use Rattle.lv_reconf.proofs.clauses.exclude_move.Goals as goal

pub require-requires : goal.require-requires
require-requires c = rw (c.requires.bools, c.makes_not.ensures) (choice_in_range c.args.compiled.now false c.args.part c.args.mv c.requires.there)

pub returns : goal.returns
returns c =
    IfOk-weaker c.require.result _ _
    (λ x adds.
    adds_narrow c.args.compiled.now c.args.solver.now.set c.require.new.solver.set ((c.makes_not.result ∷ []) ∷ []) (λ a b ms. not (nat_eq (move_number ms c.args.part) c.args.mv)) adds
    (excluded_says c.args.compiled.now c.args.part c.args.mv c.makes_not.result c.requires.there c.makes_not.ensures))
    c.require.ensures
