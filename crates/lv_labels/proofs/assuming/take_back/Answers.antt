-- the last that was noted goes first
use Rattle.std.proofs.Common.{◌≡◌, [], ◌∷◌, ◌++◌, sym, subst, ◌∙◌, arith}
use Rattle.std.proofs.lemmas.List.{nil_from_length}
use Rattle.lv_clauses.specs.Marks.{Marks}
use Rattle.lv_labels.specs.Assuming.{IsOver}
use Rattle.lv_labels.proofs.AssumeLemmas.{over_last, over_done}
use Rattle.lv_labels.proofs.assuming.take_back.Goals as goal

pub retract-requires : goal.retract-requires
retract-requires c =
    let whole : c.loop-lit.added.items ≡ c.pop.new.self.items ++ c.in-Some.lit ∷ [] = c.in-Some.ensures.items in
    (over_last c.loop-lit.invariant.stacked.base c.loop-lit.added.items c.pop.new.self.items c.in-Some.lit c.loop-lit.ltms.assumed c.loop-lit.invariant.stacked.over whole).marked

pub loop-lit-preserved : goal.loop-lit-preserved
loop-lit-preserved c =
    let whole : c.loop-lit.added.items ≡ c.pop.new.self.items ++ c.in-Some.lit ∷ [] = c.in-Some.ensures.items in
    let below : (base : Marks) → IsOver base c.loop-lit.added.items c.loop-lit.ltms.assumed → IsOver base c.pop.new.self.items c.retract.new.self.assumed =
    λ base over.
    subst (λ (ms : Marks). IsOver base c.pop.new.self.items ms) (sym c.retract.ensures.changed)
    (over_last base c.loop-lit.added.items c.pop.new.self.items c.in-Some.lit c.loop-lit.ltms.assumed over whole).below in
    record {
      bools = c.retract.ensures.bools ∙ c.loop-lit.invariant.bools;
      clauses = c.retract.ensures.clauses ∙ c.loop-lit.invariant.clauses;
      stacked = record { base = c.loop-lit.invariant.stacked.base; over = below c.loop-lit.invariant.stacked.base c.loop-lit.invariant.stacked.over };
      back = λ base over. below base (c.loop-lit.invariant.back base over);
    }

pub returns-clause-back : goal.returns-clause-back
returns-clause-back c =
    λ base over.
    let empty : c.loop-lit.added.items ≡ [] = nil_from_length c.loop-lit.added.items (omega (arith, c.in_default.ensures.cases.0)) in
    over_done base c.loop-lit.added.items c.loop-lit.ltms.assumed (c.loop-lit.invariant.back base over) empty
