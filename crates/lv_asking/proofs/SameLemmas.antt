-- What clauses decide, others decide too that the same values satisfy.
use Rattle.std.proofs.Common.{◌≡◌, Bool, List, ◌∷◌, sym, subst, ap, ◌∙◌}
use Rattle.lv_base.specs.declared.ids.Lit.{Lit}
use Rattle.lv_base.specs.declared.search.Pair.{Pair}
use Rattle.lv_clauses.specs.ClauseMap.{ClauseMap}
use Rattle.lv_asking.specs.Lemmas.{HaveSameModels}
use Rattle.lv_asking.specs.Refutation.{HasModel}
use Rattle.lv_asking.specs.Asking.{AskingValue, AskTheSame, Decides, beside}
use Rattle.lv_asking.proofs.LemmaLemmas.{model_of}

has_there : (one other : ClauseMap) (lits : List Lit) → HaveSameModels one other → HasModel one lits → HasModel other lits
has_there one other lits same m =
    record {
      values = m.values;
      model = record { len = m.model.len ∙ sym same.bools; all_clauses = same.same m.values m.model.len ∙ m.model.all_clauses; all_assumptions = m.model.all_assumptions };
    }

has_here : (one other : ClauseMap) (lits : List Lit) → HaveSameModels one other → HasModel other lits → HasModel one lits
has_here one other lits same m = record { values = m.values; model = model_of one other lits m.values same m.model }

module _ (one other : AskingValue) (same : AskTheSame one other) where
  abbrev moved : AskingValue
  moved = record one { set = other.set }

  moved_is : moved ≡ other
  moved_is = λ i. record { set = other.set; choices = sym same.choices i; assumed = sym same.assumed i }

  -- what is asked decides the same
  pub decides_the_same : (possible : List Pair → Bool) → Decides one possible → Decides other possible
  decides_the_same possible d =
      subst (λ (a : AskingValue). Decides a possible) moved_is
      (record {
        possible_of = λ pairs have m. d.possible_of pairs have (has_here one.set other.set _ same.models m);
        model_of = λ pairs have can. has_there one.set other.set _ same.models (d.model_of pairs have can);
        part = d.part;
      })

-- also beside one literal more
pub beside_the_same : (one other : AskingValue) (l : Lit) → AskTheSame one other → AskTheSame (beside l one) (beside l other)
beside_the_same one other l same = record { models = same.models; choices = same.choices; assumed = ap (λ (ls : List Lit). l ∷ ls) same.assumed }
