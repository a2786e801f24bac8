-- The test whether two ranks are one.
use Rattle.std.proofs.Common.{◌≡◌, ◌||◌, true, sym, ◌∙◌, ap, subst}
use Rattle.std.specs.Prelude.{nat_eq}
use Rattle.std.specs.Cmp.Lexicographic.{pointwise, same_text}
use Rattle.std.proofs.lemmas.Bool.{or_from, not_from_false}
use Rattle.std.proofs.lemmas.Cmp.{nat_list_eq_equiv}
use Rattle.lv_base.specs.declared.rank.Rank.{Rank}
use Rattle.lv_base.specs.Order.{comes_before}
use Rattle.lv_base.specs.Rank.{rank_key, ranks_before}
use Rattle.lv_boxes.specs.Ranked.{is_rank}
use Rattle.lv_boxes.proofs.RankedLemmas.{not_before_itself, same_rank}
use Rattle.lv_boxes.proofs.RankedMemberLemmas.{one_test}

pub same_key : (r s : Rank) → pointwise nat_eq (rank_key r) (rank_key s) ≡ is_rank r s
same_key r s = one_test (pointwise nat_eq (rank_key r) (rank_key s)) (is_rank r s) there back
  where
    there : pointwise nat_eq (rank_key r) (rank_key s) ≡ true → is_rank r s ≡ true
    there e =
        let keys = same_text (rank_key r) (rank_key s) (sym e) in
        not_from_false (ranks_before r s || ranks_before s r)
        (or_from (ranks_before r s) (ranks_before s r)
        (ap (λ k. comes_before (rank_key r) k) (sym keys) ∙ not_before_itself r)
        (ap (λ k. comes_before k (rank_key r)) (sym keys) ∙ not_before_itself r))

    back : is_rank r s ≡ true → pointwise nat_eq (rank_key r) (rank_key s) ≡ true
    back e = subst (λ (t : Rank). pointwise nat_eq (rank_key r) (rank_key t) ≡ true) (same_rank r s e) (nat_list_eq_equiv.refl (rank_key r))
