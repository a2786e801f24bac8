-- one conflict more, and its ban
use Rattle.std.proofs.Common.{List, [], ◌∷◌, ◌++◌, map, sym, ◌∙◌, ap, subst}
use Rattle.lv_base.specs.declared.search.Pair.{Pair}
use Rattle.lv_search_bans.specs.Bans.{set_of, AreBans}
use Rattle.lv_search_bans.proofs.BanLemmas.{bans_pushed}
use Rattle.lv_search_bans.proofs.conflicts.Conflicts.push.Goals as goal

pub invariant_of-self-2 : goal.invariant_of-self-2
invariant_of-self-2 c =
    subst (λ (ks : List (List Pair)). AreBans ks c.push-2.new.self.items) (sym c.in_ok-push.ensures.items)
    (subst (AreBans (c.self.inside.all.items ++ c.args.conflict ∷ [])) (sym c.in_ok-push-2.ensures.items) (bans_pushed c.self.inside.all.items c.self.inside.bans.items c.args.conflict c.in_ok-ban.ban (c.in_ok-ban.ensures ∙ ap (λ (k : List Pair). map set_of k) c.pairs.ensures.pairs) c.self.invariant))
