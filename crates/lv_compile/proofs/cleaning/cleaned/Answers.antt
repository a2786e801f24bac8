-- clause by clause
use Rattle.std.proofs.Common.{◌≡◌, ◌∷◌, ◌++◌, rules, sym, ap, ◌∙◌}
use Rattle.std.specs.Vec.Iter.{into_iter_items}
use Rattle.lv_compile.specs.Cleaning.{cleaned, unless_tautology, without_repeats}
use Rattle.lv_compile.proofs.TautologyLemmas.{cleaned_more}
use Rattle.lv_compile.proofs.cleaning.cleaned.Goals as goal

pub loop-clause-preserved : goal.loop-clause-preserved
loop-clause-preserved c =
    let out = c.loop-clause.out.items in
    let clause = c.in-Some.clause in
    let more = into_iter_items c.next.new.self in
    let next : into_iter_items c.loop-clause.clause-iterator ≡ clause ∷ more = search rules in
    let added : c.push_clean.new.out.items ≡ out ++ unless_tautology (without_repeats clause) = c.in_ok-push_clean.ensures ∙ ap (λ ls. out ++ unless_tautology ls) c.in_ok-tidied.ensures in
    record {
      can = tt;
      ends = tt;
      rest = ap (λ ls. ls ++ cleaned more) added ∙ cleaned_more out more _ clause (ap (λ cs. out ++ cleaned cs) (sym next) ∙ c.loop-clause.invariant.rest);
    }
