-- literal by literal
use Rattle.std.proofs.Common.{◌+◌, ◌<◌, ◌++◌, drop, filter, length, ap, ◌∙◌, arith}
use Rattle.std.proofs.lemmas.List.{drop_more}
use Rattle.lv_compile.specs.Cleaning.{without_repeats}
use Rattle.lv_compile.proofs.RepeatLemmas.{is_new, filter_all, one_literal_more}
use Rattle.lv_compile.proofs.cleaning.without_repeats.Goals as goal

pub loop-lit-init : goal.loop-lit-init
loop-lit-init c =
    ap (λ ls. ls ++ filter (is_new ls) (without_repeats c.args.lits.now)) c.new-out.ensures.items ∙ filter_all (without_repeats c.args.lits.now)

pub loop-lit-preserved : goal.loop-lit-preserved
loop-lit-preserved c =
    let ls = c.args.lits.now in
    let i = c.loop-lit.lit-index in
    let inside : i < length ls = omega arith in
    one_literal_more c.loop-lit.out.items c.push_new.new.out.items (drop i ls) (drop (i + 1) ls) (without_repeats ls) _ c.in_ok-push_new.ensures (drop_more ls i _ inside) c.loop-lit.invariant
