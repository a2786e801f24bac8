-- where some of the pairs aren't possible together none are that have them all, and what is left of them is the reason
use Rattle.std.proofs.Common.{Some, sym, subst, ◌∙◌}
use Rattle.lv_base.specs.declared.search.Pair.{Pair}
use Rattle.lv_clauses.specs.Marks.{Marks, is_marked}
use Rattle.lv_asking.specs.Literals.{pair_literal}
use Rattle.lv_asking.specs.Reducing.{RefutesPairs}
use Rattle.lv_asking.specs.Asking.{AskingValue, Decides}
use Rattle.lv_asking.specs.Lawful.{decided_is_monotone}
use Rattle.lv_asking.proofs.ReducingLemmas.{told_possible}
use Rattle.lv_asking.proofs.asking.Asking.reason.Goals as goal

pub returns-in_ok-from_pairs-in-Some-clause-reason : goal.returns-in_ok-from_pairs-in-Some-clause-reason
returns-in_ok-from_pairs-in-Some-clause-reason c =
    λ possible decides.
    let told : RefutesPairs possible (λ (marks : Marks) (p : Pair). is_marked marks (pair_literal c.args.self.now.choices p)) c.args.pairs.now (Some c.in-Some.core) =
    rw c.in-Some.is at (c.in_ok-refuted.ensures.told possible decides)
    in (
      sym
          (told_possible possible (decided_is_monotone c.args.self.now possible decides) (λ (marks : Marks) (p : Pair). is_marked marks (pair_literal c.args.self.now.choices p)) c.args.pairs.now
          (Some c.in-Some.core) told),
      c.in_ok-from_pairs-in-Some.ensures ∙ c.as_slice.ensures.value
          ∙ c.in_ok-left-in-Some.ensures.reduced possible (subst (λ (v : AskingValue). Decides v possible) (sym c.in_ok-refuted.ensures.same) decides)
          (subst (λ (v : AskingValue). RefutesPairs possible (λ (marks : Marks) (p : Pair). is_marked marks (pair_literal v.choices p)) c.args.pairs.now (Some c.in-Some.core)) (sym c.in_ok-refuted.ensures.same)
          told),
    )
