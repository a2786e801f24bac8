-- a full choice has a move for each part
use Rattle.std.proofs.Common.{List, subst, sym, ap, ◌∙◌}
use Rattle.std.proofs.lemmas.Result.{IfOk-weaker}
use Rattle.lv_base.specs.declared.search.Pair.{Pair}
use Rattle.lv_base.specs.Choices.{pairs_of}
use Rattle.lv_ident.specs.Literals.{IsPartial}
use Rattle.lv_ident.proofs.ReasonLemmas.{full_is_partial}
use Rattle.lv_ident.proofs.trial.IdentTrial.moves_of.Goals as goal

pub returns-clause-partial : goal.returns-clause-partial
returns-clause-partial c =
    IfOk-weaker c.pairs_of.result _ _
    (λ out told. subst (λ (ps : List Pair). IsPartial c.args.self.now.plant ps) (sym (told ∙ ap pairs_of c.as_slice.ensures)) (full_is_partial c.args.self.now.plant c.args.candidate.now.choices c.requires))
    c.pairs_of.ensures
