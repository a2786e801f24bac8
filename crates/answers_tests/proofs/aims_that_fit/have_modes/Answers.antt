-- behind the last part there are no more modes where there are as many at most
use Rattle.std.proofs.Common.{◌≡◌, suc, true, nat_le, List, [], ◌∷◌, length, drop, refl, sym, subst, ◌∙◌, arith}
use Rattle.std.proofs.Math.Dec.{leb-suc-zero, leb-suc-suc}
use Rattle.std.proofs.lemmas.Bool.{le-leb}
use Rattle.lv_base.specs.declared.ids.ValId.{ValId}
use Rattle.lv_base.specs.declared.range.Range.{Range}
use Rattle.lv_model.specs.declared.plant.Part.{Part}
use Rattle.lv_meaning.specs.Ranges.{modes_fit}
use Rattle.answers_tests.proofs.aims_that_fit.have_modes.Goals as goal

rested : (ranges : List Range) (ps : List Part) → modes_fit ranges (drop (length ps) ps) [] ≡ true
rested ranges [] = refl
rested ranges (p ∷ ps) = rested ranges ps

ended : (ranges : List Range) (ps : List Part) (vs : List ValId) → nat_le (length vs) (length ps) ≡ modes_fit ranges (drop (length ps) ps) (drop (length ps) vs)
ended ranges [] [] = refl
ended ranges [] (v ∷ vs) = leb-suc-zero (length vs)
ended ranges (p ∷ ps) [] = le-leb 0 (suc (length ps)) (omega arith) ∙ sym (rested ranges ps)
ended ranges (p ∷ ps) (v ∷ vs) = leb-suc-suc (length vs) (length ps) ∙ ended ranges ps vs

pub returns : goal.returns
returns c =
    let all : length c.args.parts.now ≡ c.loop-i.i = omega (arith, c.loop-i.auto.i-end, c.loop-i-test.false) in
    subst (λ n. nat_le (length c.args.modes.now) (length c.args.parts.now) ≡ modes_fit c.args.ranges.now (drop n c.args.parts.now) (drop n c.args.modes.now)) all
    (ended c.args.ranges.now c.args.parts.now c.args.modes.now) ∙ c.loop-i.invariant
